use Rattle.std.proofs.Common.{arith, subst, sym}
use Rattle.std.proofs.lemmas.Grind.{common_steps}
use Rattle.ul_report.specs.Naming.{HaveNames}
use Rattle.ul_report.proofs.Written.{step_at}
use Rattle.ul_report.proofs.step_lines.steps.Goals as goal

pub push_line-requires : goal.push_line-requires
push_line-requires c =
    step_at c.args.problem.now c.as_slice-steps.result.now c.loop-i.i c.index-steps-i.result
    (subst (λ z. HaveNames c.args.problem.now z) (sym c.as_slice-steps.ensures) c.requires) (grind (arith, common_steps)) (grind (arith, common_steps))
