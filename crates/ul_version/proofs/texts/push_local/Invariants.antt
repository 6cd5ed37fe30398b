use Rattle.std.proofs.Common.{◌≡◌, ◌++◌, drop}
use Rattle.std.specs.Prelude.{string_bytes}
use Rattle.ul_version.specs.Texts.{segments_text, local_text}
use Rattle.ul_version.proofs.texts.push_local.Given as goal

abbrev pub invariant-loop-segment : goal.invariant-loop-segment
invariant-loop-segment l = string_bytes l.text ++ segments_text (drop l.segment-index l.others) ≡ string_bytes l.fn.text ++ local_text l.local
