use Rattle.std.proofs.Common.{◌≡◌, drop}
use Rattle.std.specs.List.{list_any}
use Rattle.ul_marker.specs.Words.{is_unread}
use Rattle.ul_marker.proofs.words.has_unread.Given as goal

abbrev pub invariant-loop-token : goal.invariant-loop-token
invariant-loop-token l = list_any (is_unread l.dialect) (drop l.token-index l.tokens) ≡ list_any (is_unread l.dialect) l.tokens
