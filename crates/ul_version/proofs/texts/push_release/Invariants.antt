use Rattle.std.proofs.Common.{◌≡◌, ◌++◌, drop}
use Rattle.std.specs.Prelude.{string_bytes}
use Rattle.ul_version.specs.Texts.{points_text, release_text}
use Rattle.ul_version.proofs.texts.push_release.Given as goal

abbrev pub invariant-loop-number : goal.invariant-loop-number
invariant-loop-number l = string_bytes l.text ++ points_text (drop l.number-index l.others) ≡ string_bytes l.fn.text ++ release_text l.release
