use Rattle.std.proofs.Common.{◌≡◌, ap, sym, ◌∙◌, subst}
use Rattle.std.proofs.lemmas.Result.{IfOk-weaker}
use Rattle.ul_nodes.specs.Plain.{Plain}
use Rattle.ul_tree.specs.Pieces.{meets_at, starts_of, stepped_of}
use Rattle.ul_nodes.specs.Reduced.{IsReduced}
use Rattle.ul_tree.specs.Values.{tree_holds}
use Rattle.ul_tree.proofs.Changes.{starts-climb}
use Rattle.ul_tree.proofs.Stepped.{clause_holds, stepped_fits}
use Rattle.ul_tree.proofs.python.clause_tree.Goals as goal
use Rattle.ul_tree.proofs.python.clause_tree.Goals.{After-stepped}

-- the truth that is made steps where the clause's truth changes
steps : (c : After-stepped) → stepped_of c.meets_at.result c.deref.result.now ≡ stepped_of (meets_at c.args.clause.now c.args.full 0) (starts_of c.args.clause.now c.args.full)
steps c = ap (λ b. stepped_of b c.deref.result.now) c.meets_at.ensures ∙ ap (stepped_of (meets_at c.args.clause.now c.args.full 0)) (c.deref.ensures.value ∙ c.in_ok-starts.ensures)

pub returns-clause-reduced : goal.returns-clause-reduced
returns-clause-reduced c =
    let s = c.args.clause.now in
    IfOk-weaker c.stepped.result _ _
    (λ tree is. subst (λ (t : Plain). IsReduced t) (sym (is ∙ steps (goal.at.returns-clause-reduced c).After-stepped)) (stepped_fits (meets_at s c.args.full 0) (starts_of s c.args.full) (starts-climb s c.args.full)))
    c.stepped.ensures

pub returns-clause-truth : goal.returns-clause-truth
returns-clause-truth c =
    let s = c.args.clause.now in
    IfOk-weaker c.stepped.result _ _
    (λ tree is w x h. ap (λ t. tree_holds t w x) (is ∙ steps (goal.at.returns-clause-truth c).After-stepped) ∙ clause_holds s c.args.full w x h)
    c.stepped.ensures
