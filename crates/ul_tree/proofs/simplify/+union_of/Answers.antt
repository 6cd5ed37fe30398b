use Rattle.std.proofs.Common.{◌≡◌, ◌/◌, ◌-◌, ◌+◌, ap, sym, ◌∙◌, subst, arith}
use Rattle.std.proofs.lemmas.Result.{IfOk-weaker}
use Rattle.ul_nodes.specs.Keys.{branches_of}
use Rattle.ul_nodes.specs.Plain.{Plain, holds_of}
use Rattle.ul_nodes.specs.Reduced.{IsReduced}
use Rattle.ul_tree.specs.SimplifyViews.{HoldsParts}
use Rattle.ul_tree.specs.Views.{tree_view}
use Rattle.ul_nodes.proofs.ForCallers.{part_reduced}
use Rattle.ul_tree.specs.Joins.{IsJoined}
use Rattle.ul_tree.specs.TreeFacts.{IsTree}
use Rattle.ul_tree.specs.declared.join.Join.TheVariants.{Either}
use Rattle.ul_tree.specs.declared.tree.Tree.{Tree}
use Rattle.ul_base.proofs.ForCallers.{made_holds}
use Rattle.ul_tree.proofs.Lowering.{one_part, halves_joined}
use Rattle.ul_tree.proofs.simplify.+union_of.Goals as goal

pub returns-then-count-eq1-clause-reduced : goal.returns-then-count-eq1-clause-reduced
returns-then-count-eq1-clause-reduced t c =
    IfOk-weaker c.copy.result _ _ (λ part is. subst (λ (z : Plain). IsReduced z) (sym is) (part_reduced (tree_view c.args.tree.now) _ _ _ c.args.low c.requires.reduced c.branch_at.ensures.found)) c.copy.ensures

pub returns-then-count-eq1-clause-truth : goal.returns-then-count-eq1-clause-truth
returns-then-count-eq1-clause-truth t c =
    let bs = branches_of (tree_view c.args.tree.now) in
    let e : 1 ≡ c.args.high - c.args.low = omega (arith, c.if-count-eq1.true) in
    IfOk-weaker c.copy.result _ _
    (λ part is.
    let one : HoldsParts bs c.args.low 1 (tree_view part) = λ f. ap (λ z. holds_of z f) is ∙ sym (one_part _ _ _ _ f c.branch_at.ensures.found) in
    subst (λ n. HoldsParts bs c.args.low n (tree_view part)) e one)
    c.copy.ensures

pub union_of-requires : goal.union_of-requires
union_of-requires t c =
    let d = c.decreases in
    (omega (arith, d, c.requires.some, c.if-count-eq1.false), (c.requires.reduced, (omega (arith, c.requires.some, c.if-count-eq1.false), omega (arith, c.requires.within, c.requires.some))))

pub union_of-requires-2 : goal.union_of-requires-2
union_of-requires-2 t c =
    let d = c.decreases in
    (omega (arith, d, c.requires.some, c.if-count-eq1.false), (c.requires.reduced, (omega (arith, c.requires.some), c.requires.within)))

pub returns-clause-truth : goal.returns-clause-truth
returns-clause-truth t c =
    let bs = branches_of (tree_view c.args.tree.now) in
    let low = c.args.low in
    let high = c.args.high in
    let middle = low + (high - low) / 2 in
    let front = c.in_ok-front.front in
    let back = c.in_ok-front.back in
    let both = c.in_ok-front.ensures in
    IfOk-weaker c.made_from.result _ _
    (λ union is.
    let made = made_holds c.joined.result union (λ u. IsJoined Either (tree_view front) (tree_view back) (tree_view u)) is c.joined.ensures.joined in
    halves_joined bs low middle high (tree_view front) (tree_view back) (tree_view union) (omega arith) (omega (arith, c.requires.some))
    (subst IsTree (sym both.0) c.in_ok-first.ensures.reduced)
    (made_holds c.union_of-2.result back IsTree both.1 c.union_of-2.ensures.reduced)
    made
    (subst (λ (z : Tree). HoldsParts bs low (middle - low) (tree_view z)) (sym both.0) c.in_ok-first.ensures.truth)
    (made_holds c.union_of-2.result back (λ z. HoldsParts bs middle (high - middle) (tree_view z)) both.1 c.union_of-2.ensures.truth))
    c.made_from.ensures

pub returns-clause-reduced : goal.returns-clause-reduced
returns-clause-reduced t c = IfOk-weaker c.made_from.result _ _ (λ union is. made_holds c.joined.result union _ is c.joined.ensures.reduced) c.made_from.ensures

pub joined-requires-clause-left_reduced : goal.joined-requires-clause-left_reduced
joined-requires-clause-left_reduced t c = subst IsTree (sym c.in_ok-front.ensures.0) c.in_ok-first.ensures.reduced

pub joined-requires-clause-right_reduced : goal.joined-requires-clause-right_reduced
joined-requires-clause-right_reduced t c = made_holds c.union_of-2.result c.in_ok-front.back _ c.in_ok-front.ensures.1 c.union_of-2.ensures.reduced
