use Rattle.std.proofs.Common.{IfOk, subst, sym}
use Rattle.ul_commands.specs.Wanted.{AreLines}
use Rattle.ul_commands.proofs.resolving.lines_by.Goals as goal

pub returns-in-Lock : goal.returns-in-Lock
returns-in-Lock c = subst (λ w. IfOk c.core_lines.result (λ v. AreLines w c.args.problem.now c.args.derivation.now v.items)) (sym c.in-Lock.is) c.core_lines.ensures

pub returns-in-Reason : goal.returns-in-Reason
returns-in-Reason c = subst (λ w. IfOk c.steps.result (λ v. AreLines w c.args.problem.now c.args.derivation.now v.items)) (sym c.in-Reason.is) c.steps.ensures
