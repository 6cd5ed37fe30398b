use Rattle.std.proofs.Common.{List, subst, sym}
use Rattle.ul_problem.specs.declared.term.Term.{Term}
use Rattle.ul_derivation.specs.Looking.{IsSaid}
use Rattle.ul_derivation.proofs.Facts.{are_of_one, cut_same, ok_then}
use Rattle.ul_derivation.proofs.checks.is_cut_of.Goals as goal

pub are_cut-requires-clause-sizes : goal.are_cut-requires-clause-sizes
are_cut-requires-clause-sizes c =
    are_of_one c.args.problem.now c.args.left.now c.args.right.now c.said.result.now c.said-2.result.now
    (subst (λ (l : List Term). IsSaid c.args.problem.now c.args.left.now l) (sym c.said.ensures) c.in_ok-made_left.ensures)
    (subst (λ (l : List Term). IsSaid c.args.problem.now c.args.right.now l) (sym c.said-2.ensures) c.in_ok-made_right.ensures)

pub returns : goal.returns
returns c = ok_then c.are_cut.result _ _ c.are_cut.ensures
    (λ b t. cut_same c.args.problem.now c.args.left.now c.args.right.now c.args.node c.said.result.now c.said-2.result.now c.args.terms.now b
    (subst (λ (l : List Term). IsSaid c.args.problem.now c.args.left.now l) (sym c.said.ensures) c.in_ok-made_left.ensures)
    (subst (λ (l : List Term). IsSaid c.args.problem.now c.args.right.now l) (sym c.said-2.ensures) c.in_ok-made_right.ensures) t)
