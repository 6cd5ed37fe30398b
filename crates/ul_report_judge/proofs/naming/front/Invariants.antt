use Rattle.std.proofs.Common.{take}
use Rattle.ul_report_judge.specs.Names.{HaveSteps}
use Rattle.ul_report_judge.proofs.naming.front.Given as goal

abbrev pub invariant-loop-text : goal.invariant-loop-text
invariant-loop-text l = HaveSteps l.problem (take l.text-index l.texts) l.steps.items
