use Rattle.std.proofs.Common.{◌≡◌, ◌++◌, ◌∷◌, [], ℕ, ap, sym, ◌∙◌, arith, ◌<◌, subst, true, Global, Vec}
use Rattle.std.specs.List.{All}
use Rattle.std.proofs.lemmas.Result.{IfOk-weaker as tree_then}
use Rattle.ul_base.proofs.ForCallers.{made_holds}
use Rattle.ul_nodes.specs.Plain.{Plain}
use Rattle.ul_nodes.specs.Reduced.{IsReduced}
use Rattle.ul_nodes.specs.Apply.{size, close}
use Rattle.ul_nodes.specs.Keys.{level_view, branches_of, rest_of, has_kind}
use Rattle.ul_nodes.specs.Rows.{made_view}
use Rattle.ul_nodes.specs.declared.level.Key.{Key}
use Rattle.ul_tree.specs.declared.tree.Tree.{Tree}
use Rattle.ul_tree.specs.Views.{tree_view}
use Rattle.ul_nodes.proofs.ForCallers.{rest_reduced, part_reduced}
use Rattle.ul_tree.proofs.ForCallers.{size_rest, size_part}
use Rattle.ul_algebra.specs.Spelled.{tree_of}
use Rattle.ul_algebra.proofs.Rows.{all_push}
use Rattle.ul_algebra.proofs.Walks.{a_node, whole, kind_of, walk_step, walk_end}
use Rattle.ul_algebra.proofs.convert.+spelled_tree.Goals as goal
use Rattle.ul_algebra.proofs.convert.+spelled_tree.Goals.{spelled_tree-In_ok-branches-in-Some}

pub spelled_tree-spelled_tree-rest-requires : goal.spelled_tree-spelled_tree-rest-requires
spelled_tree-spelled_tree-rest-requires t c =
    let a = tree_of c.args.diagram.now in
    let m : size (tree_of c.rest_of.result.now) < size a = rw c.rest_of.ensures.part (size_rest a (a_node (level_view c.in-Some.level) a c.in-Some.ensures)) in
    let d = c.decreases in (omega (arith, m, d), subst (λ (z : Plain). IsReduced z) (sym c.rest_of.ensures.part) (rest_reduced a c.requires))

-- the level that is made is the whole tree
level_is : (t : ℕ) (c : spelled_tree-In_ok-branches-in-Some t) → close (level_view c.in-Some.level) (tree_view c.in_ok-branches-in-Some.other) (made_view tree_view c.in_ok-branches-in-Some.branches.items) ≡ tree_of c.args.diagram.now
level_is t c =
    let a = tree_of c.args.diagram.now in
    let l = level_view c.in-Some.level in
    let bs = made_view tree_view c.in_ok-branches-in-Some.branches.items in
    let rest = made_holds c.spelled_tree-rest.result c.in_ok-branches-in-Some.other _ c.in_ok-branches-in-Some.ensures.1 c.spelled_tree-rest.ensures in
    ap (λ z. close l z bs) (rest ∙ c.rest_of.ensures.part) ∙ ap (close l (rest_of a)) (ap (λ v. made_view tree_view v.items) c.in_ok-branches-in-Some.ensures.0 ∙ c.in_ok-made-in-Some.ensures.made) ∙ whole l a c.in-Some.ensures c.requires

pub spelled_tree-closed-requires-clause-kinds : goal.spelled_tree-closed-requires-clause-kinds
spelled_tree-closed-requires-clause-kinds t c =
    subst (λ (z : Vec (Key × Tree) Global). All (λ e. has_kind (level_view c.in-Some.level) e.0 ≡ true) z.items) (sym c.in_ok-branches-in-Some.ensures.0) c.in_ok-made-in-Some.ensures.kinds

pub spelled_tree-closed-requires-clause-reduced : goal.spelled_tree-closed-requires-clause-reduced
spelled_tree-closed-requires-clause-reduced t c = subst (λ (z : Plain). IsReduced z) (sym (level_is t (goal.at.spelled_tree-closed-requires-clause-reduced t c).In_ok-branches-in-Some)) c.requires

pub spelled_tree-returns-in_ok-branches-in-Some : goal.spelled_tree-returns-in_ok-branches-in-Some
spelled_tree-returns-in_ok-branches-in-Some t c =
    let e = level_is t (goal.at.spelled_tree-returns-in_ok-branches-in-Some t c).In_ok-branches-in-Some in
    tree_then c.closed.result (λ r. tree_view r ≡ close (level_view c.in-Some.level) (tree_view c.in_ok-branches-in-Some.other) (made_view tree_view c.in_ok-branches-in-Some.branches.items)) (λ r. tree_view r ≡ tree_of c.args.diagram.now)
    (λ r h. h ∙ e) c.closed.ensures

pub trees_in-spelled_tree-next-requires : goal.trees_in-spelled_tree-next-requires
trees_in-spelled_tree-next-requires t c =
    let a = tree_of c.args.diagram.now in
    let m = size_part a _ _ _ c.loop-index.index c.branch_at-branch.ensures.found in
    let d = c.decreases in (omega (arith, m, d), part_reduced a _ _ _ c.loop-index.index c.requires.reduced c.branch_at-branch.ensures.found)

pub trees_in-loop-index-preserved : goal.trees_in-loop-index-preserved
trees_in-loop-index-preserved t c =
    let a = tree_of c.args.diagram.now in
    let l = level_view c.args.level in
    let key = c.branch_at-branch.result.key in
    let before = c.loop-index.made.items in
    let after = c.in_ok-made.made.items in
    let more = c.in_ok-made.ensures in
    let one = more.0 in
    let pair = made_holds c.beside.result one _ more.1 c.beside.ensures in
    let is = more.2 ∙ ap (λ k. before ++ (k, one.1) ∷ []) pair.0 in
    record {
      made = walk_step tree_view (branches_of a) before after key one.1 (tree_of c.branch_at-branch.result.part.now) c.loop-index.index is (made_holds c.spelled_tree-next.result one.1 _ pair.1 c.spelled_tree-next.ensures) c.branch_at-branch.ensures.found c.loop-index.invariant.made;
      kinds = all_push (λ e. has_kind l e.0 ≡ true) before after (key, one.1) is c.loop-index.invariant.kinds (kind_of l a key c.requires.top c.branch_at-branch.ensures.kind);
    }

pub trees_in-returns-clause-made : goal.trees_in-returns-clause-made
trees_in-returns-clause-made t c = walk_end (branches_of (tree_of c.args.diagram.now)) (made_view tree_view c.loop-index.made.items) c.loop-index.index (omega (arith, c.branch_count-index-end.ensures)) c.loop-index.invariant.made
