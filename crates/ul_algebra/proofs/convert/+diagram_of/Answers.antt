use Rattle.std.proofs.Common.{◌≡◌, ◌++◌, ◌∷◌, [], ℕ, ap, sym, ◌∙◌, arith, ◌<◌, subst, true, Global, Vec}
use Rattle.std.specs.List.{All}
use Rattle.ul_base.proofs.ForCallers.{made_holds}
use Rattle.ul_interner.specs.Known.{Known}
use Rattle.ul_interner.proofs.ForCallers.{known_stays, knows_then}
use Rattle.ul_nodes.specs.Plain.{Plain, truth}
use Rattle.ul_nodes.specs.Reduced.{IsReduced}
use Rattle.ul_nodes.specs.Apply.{size, close}
use Rattle.ul_nodes.specs.Keys.{level_view, branches_of, rest_of, has_kind}
use Rattle.ul_tree.specs.Views.{tree_view}
use Rattle.ul_nodes.proofs.ForCallers.{rest_reduced, part_reduced}
use Rattle.ul_tree.proofs.ForCallers.{size_rest, size_part}
use Rattle.ul_nodes.specs.declared.level.Key.{Key}
use Rattle.ul_algebra.specs.Made.{Seen, diagrams_made}
use Rattle.ul_algebra.specs.Spelled.{tree_of}
use Rattle.ul_algebra.proofs.Kept.{if_handed, made_then}
use Rattle.ul_algebra.proofs.Rows.{all_more, all_push}
use Rattle.ul_algebra.proofs.Walks.{a_node, leaf_is, whole, kind_of, walk_step, walk_end}
use Rattle.ul_algebra.proofs.convert.+diagram_of.Goals as goal
use Rattle.ul_algebra.proofs.convert.+diagram_of.Goals.{diagram_of-In_ok-branches-in-Some}

pub diagram_of-returns-in-None-clause-tree : goal.diagram_of-returns-in-None-clause-tree
diagram_of-returns-in-None-clause-tree g t c =
    let a = tree_view c.args.tree.now in
    made_then c.truth.result (λ d. tree_of d ≡ truth c.known.result) (λ d. tree_of d ≡ a) (λ d e. e ∙ ap truth c.known.ensures ∙ leaf_is a c.in-None.ensures) c.truth.ensures.tree

pub diagram_of-diagram_of-rest-requires : goal.diagram_of-diagram_of-rest-requires
diagram_of-diagram_of-rest-requires g t c =
    let a = tree_view c.args.tree.now in
    let m : size (tree_view c.rest_of.result.now) < size a = rw c.rest_of.ensures (size_rest a (a_node (level_view c.in-Some.level) a c.in-Some.ensures)) in
    let d = c.decreases in λ κs o. (omega (arith, m, d), (o, subst (λ (z : Plain). IsReduced z) (sym c.rest_of.ensures) (rest_reduced a c.requires)))

pub diagram_of-returns-in_err-branches-in-Some-clause-knows : goal.diagram_of-returns-in_err-branches-in-Some-clause-knows
diagram_of-returns-in_err-branches-in-Some-clause-knows g t c = knows_then _ _ _ c.in_ok-made-in-Some.ensures.knows c.diagram_of-rest.ensures.knows

pub diagram_of-closed-requires-clause-kinds : goal.diagram_of-closed-requires-clause-kinds
diagram_of-closed-requires-clause-kinds g t c =
    subst (λ (z : Vec (Key × Seen) Global). All (λ e. has_kind (level_view c.in-Some.level) e.0 ≡ true) z.items) (sym c.in_ok-branches-in-Some.ensures.0) c.in_ok-made-in-Some.ensures.kinds

-- the level that is made is the whole tree
level_is : (g : _) (t : ℕ) (c : diagram_of-In_ok-branches-in-Some g t) → close (level_view c.in-Some.level) (tree_of c.in_ok-branches-in-Some.other) (diagrams_made c.in_ok-branches-in-Some.branches.items) ≡ tree_view c.args.tree.now
level_is g t c =
    let a = tree_view c.args.tree.now in
    let l = level_view c.in-Some.level in
    let bs = diagrams_made c.in_ok-branches-in-Some.branches.items in
    let rest = made_holds c.diagram_of-rest.result c.in_ok-branches-in-Some.other _ c.in_ok-branches-in-Some.ensures.1 c.diagram_of-rest.ensures.tree in
    ap (λ z. close l z bs) (rest ∙ c.rest_of.ensures) ∙ ap (close l (rest_of a)) (ap (λ v. diagrams_made v.items) c.in_ok-branches-in-Some.ensures.0 ∙ c.in_ok-made-in-Some.ensures.made) ∙ whole l a c.in-Some.ensures c.requires

pub diagram_of-closed-requires-clause-reduced : goal.diagram_of-closed-requires-clause-reduced
diagram_of-closed-requires-clause-reduced g t c = subst (λ (z : Plain). IsReduced z) (sym (level_is g t (goal.at.diagram_of-closed-requires-clause-reduced g t c).In_ok-branches-in-Some)) c.requires

pub diagram_of-closed-requires-clause-parts : goal.diagram_of-closed-requires-clause-parts
diagram_of-closed-requires-clause-parts g t c =
    let h = c.diagram_of-rest.new.algebra in
    subst (λ (z : Vec (Key × Seen) Global). All (λ e. Known h e.1) z.items) (sym c.in_ok-branches-in-Some.ensures.0)
    (all_more (λ e. Known c.diagrams_in.new.algebra e.1) (λ e. Known h e.1) c.in_ok-made-in-Some.made.items (λ e k. known_stays c.diagrams_in.new.algebra h c.diagram_of-rest.ensures.knows e.1 k) c.in_ok-made-in-Some.ensures.parts)

pub diagram_of-closed-requires-clause-other : goal.diagram_of-closed-requires-clause-other
diagram_of-closed-requires-clause-other g t c = made_holds c.diagram_of-rest.result c.in_ok-branches-in-Some.other _ c.in_ok-branches-in-Some.ensures.1 c.diagram_of-rest.ensures.known

pub diagram_of-returns-in_ok-branches-in-Some-clause-knows : goal.diagram_of-returns-in_ok-branches-in-Some-clause-knows
diagram_of-returns-in_ok-branches-in-Some-clause-knows g t c = knows_then _ _ _ c.in_ok-made-in-Some.ensures.knows (knows_then _ _ _ c.diagram_of-rest.ensures.knows c.closed.ensures.knows)

pub diagram_of-returns-in_ok-branches-in-Some-clause-tree : goal.diagram_of-returns-in_ok-branches-in-Some-clause-tree
diagram_of-returns-in_ok-branches-in-Some-clause-tree g t c =
    let e = level_is g t (goal.at.diagram_of-returns-in_ok-branches-in-Some-clause-tree g t c).In_ok-branches-in-Some in
    if_handed c.closed.result c.made_from.result (λ d. tree_of d ≡ tree_view c.args.tree.now) c.made_from.ensures
    (made_then c.closed.result (λ d. tree_of d ≡ close (level_view c.in-Some.level) (tree_of c.in_ok-branches-in-Some.other) (diagrams_made c.in_ok-branches-in-Some.branches.items)) (λ d. tree_of d ≡ tree_view c.args.tree.now)
    (λ d h. h ∙ e) c.closed.ensures.tree)

pub diagram_of-returns-in_ok-branches-in-Some-clause-known : goal.diagram_of-returns-in_ok-branches-in-Some-clause-known
diagram_of-returns-in_ok-branches-in-Some-clause-known g t c = if_handed c.closed.result c.made_from.result (λ d. Known c.closed.new.algebra d) c.made_from.ensures c.closed.ensures.known

pub diagrams_in-diagram_of-next-requires : goal.diagrams_in-diagram_of-next-requires
diagrams_in-diagram_of-next-requires g t c =
    let a = tree_view c.args.tree.now in
    let m = size_part a _ _ _ c.loop-index.index c.branch_at-branch.ensures.found in
    let d = c.decreases in λ κs o. (omega (arith, m, d), (o, part_reduced a _ _ _ c.loop-index.index c.requires.reduced c.branch_at-branch.ensures.found))

pub diagrams_in-returns-in_err-made-clause-knows : goal.diagrams_in-returns-in_err-made-clause-knows
diagrams_in-returns-in_err-made-clause-knows g t c = knows_then _ _ _ c.loop-index.invariant.knows c.diagram_of-next.ensures.knows

pub diagrams_in-loop-index-preserved : goal.diagrams_in-loop-index-preserved
diagrams_in-loop-index-preserved g t c =
    let a = tree_view c.args.tree.now in
    let l = level_view c.args.level in
    let h = c.diagram_of-next.new.algebra in
    let key = c.branch_at-branch.result.key in
    let before = c.loop-index.made.items in
    let after = c.in_ok-made.made.items in
    let more = c.in_ok-made.ensures in
    let one = more.0 in
    let pair = made_holds c.beside.result one _ more.1 c.beside.ensures in
    let is = more.2 ∙ ap (λ k. before ++ (k, one.1) ∷ []) pair.0 in
    record {
      knows = knows_then _ _ _ c.loop-index.invariant.knows c.diagram_of-next.ensures.knows;
      made = walk_step tree_of (branches_of a) before after key one.1 (tree_view c.branch_at-branch.result.part.now) c.loop-index.index is (made_holds c.diagram_of-next.result one.1 _ pair.1 c.diagram_of-next.ensures.tree) c.branch_at-branch.ensures.found c.loop-index.invariant.made;
      kinds = all_push (λ e. has_kind l e.0 ≡ true) before after (key, one.1) is c.loop-index.invariant.kinds (kind_of l a key c.requires.top c.branch_at-branch.ensures.kind);
      parts = all_push (λ e. Known h e.1) before after (key, one.1) is
          (all_more (λ e. Known c.loop-index.algebra e.1) (λ e. Known h e.1) before (λ e k. known_stays c.loop-index.algebra h c.diagram_of-next.ensures.knows e.1 k) c.loop-index.invariant.parts)
          (made_holds c.diagram_of-next.result one.1 _ pair.1 c.diagram_of-next.ensures.known);
    }

pub diagrams_in-returns-clause-made : goal.diagrams_in-returns-clause-made
diagrams_in-returns-clause-made g t c = walk_end (branches_of (tree_view c.args.tree.now)) (diagrams_made c.loop-index.made.items) c.loop-index.index (omega (arith, c.branch_count-index-end.ensures)) c.loop-index.invariant.made
