use Rattle.std.proofs.Common.{◌≡◌, ◌≤◌, length}
use Rattle.ul_marker.specs.Words.{tokens_of}
use Rattle.ul_marker.proofs.Depths.{level_after}
use Rattle.ul_marker.proofs.Tokens.{onto}
use Rattle.ul_marker.proofs.words.tokens.Given as goal

abbrev pub invariant-tokens : goal.invariant-tokens
invariant-tokens l = record {
  found : tokens_of l.input ≡ onto l.list.items (tokens_of l.rest);
  depth : l.depth ≡ level_after 0 l.list.items;
  fits : l.depth ≤ 64;
}

abbrev pub decreases-tokens : goal.decreases-tokens
decreases-tokens l = length l.rest
