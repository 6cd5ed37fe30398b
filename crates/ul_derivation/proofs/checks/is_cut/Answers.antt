use Rattle.std.proofs.Common.{sym}
use Rattle.ul_derivation.proofs.Facts.{cut_of_two, ok_then, step_within}
use Rattle.ul_derivation.proofs.checks.is_cut.Goals as goal

pub is_cut_of-requires-clause-left : goal.is_cut_of-requires-clause-left
is_cut_of-requires-clause-left c = step_within c.args.problem.now c.args.earlier.now c.args.numbers.0 c.in-Some.left.now c.requires (sym c.in-Some.ensures)

pub is_cut_of-requires-clause-right : goal.is_cut_of-requires-clause-right
is_cut_of-requires-clause-right c = step_within c.args.problem.now c.args.earlier.now c.args.numbers.1 c.in-Some-step_of.right.now c.requires (sym c.in-Some-step_of.ensures)

pub returns-in-Some-step_of : goal.returns-in-Some-step_of
returns-in-Some-step_of c = ok_then c.is_cut_of.result _ _ c.is_cut_of.ensures
    (λ b t. cut_of_two c.args.problem.now c.args.earlier.now c.args.numbers.0 c.args.numbers.1 c.args.node c.in-Some.left.now c.in-Some-step_of.right.now c.args.terms.now b
    (sym c.in-Some.ensures) (sym c.in-Some-step_of.ensures) t)
