use Rattle.std.proofs.Common.{◌≡◌, ◌-◌, sym, ◌∙◌, subst, arith}
use Rattle.std.proofs.lemmas.Result.{IfOk-weaker}
use Rattle.ul_nodes.specs.Plain.{Plain}
use Rattle.ul_nodes.specs.Reduced.{IsReduced}
use Rattle.ul_tree.specs.Joins.{IsJoined}
use Rattle.ul_tree.specs.declared.join.Join.TheVariants.{Either}
use Rattle.ul_nodes.specs.Keys.{branches_of, branch_count}
use Rattle.ul_tree.specs.SimplifyViews.{HoldsParts}
use Rattle.ul_tree.specs.Views.{tree_view}
use Rattle.ul_nodes.proofs.ForCallers.{rest_reduced}
use Rattle.ul_base.proofs.ForCallers.{made_holds}
use Rattle.ul_tree.proofs.Lowering.{no_branches, union_joined}
use Rattle.ul_tree.proofs.simplify.union.Goals as goal

pub returns-then-count-eq0 : goal.returns-then-count-eq0
returns-then-count-eq0 c =
    IfOk-weaker c.copy.result _ _ (λ rest is. is ∙ c.rest_of.ensures ∙ no_branches (tree_view c.args.tree.now) c.branch_count-count.result c.branch_count-count.ensures c.if-count-eq0.true) c.copy.ensures

pub joined-requires-clause-left_reduced : goal.joined-requires-clause-left_reduced
joined-requires-clause-left_reduced c = subst (λ (z : Plain). IsReduced z) (sym c.rest_of-2.ensures) (rest_reduced (tree_view c.args.tree.now) c.requires)

pub returns : goal.returns
returns c =
    let t = tree_view c.args.tree.now in
    let p = tree_view c.in_ok-parts.parts in
    let all : c.branch_count-count.result - 0 ≡ branch_count (branches_of t) = omega (arith, c.branch_count-count.ensures) in
    IfOk-weaker c.made_from.result _ _
    (λ union is.
    let made = made_holds c.joined.result union (λ u. IsJoined Either (tree_view c.rest_of-2.result.now) p (tree_view u)) is c.joined.ensures.joined in
    union_joined t p (tree_view union) c.requires c.in_ok-parts.ensures.reduced
    (subst (λ n. HoldsParts (branches_of t) 0 n p) all c.in_ok-parts.ensures.truth)
    (subst (λ (z : Plain). IsJoined Either z p (tree_view union)) c.rest_of-2.ensures made))
    c.made_from.ensures
