use Rattle.std.proofs.Common.{◌≡◌, ◌++◌, take, string_bytes}
use Rattle.std.specs.Prelude.{flat_map}
use Rattle.ul_report.specs.Texts.{truth_part}
use Rattle.ul_report.proofs.refusals.push_truths.Given as goal

abbrev pub invariant-loop-atom : goal.invariant-loop-atom
invariant-loop-atom l = string_bytes l.out ≡ string_bytes l.fn.out ++ flat_map truth_part (take l.atom-index l.truths)
