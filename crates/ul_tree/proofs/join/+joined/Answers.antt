use Rattle.std.proofs.Common.{◌≡◌, ℕ, zero, suc, List, [], ◌+◌, ◌<◌, refl, ap, sym, ◌∙◌, arith, drop, subst, get_or, Some}
use Rattle.std.proofs.lemmas.List.{drop_all}
use Rattle.std.proofs.lemmas.Result.{IfOk-weaker}
use Rattle.ul_nodes.specs.Plain.{Plain, truth, carries}
use Rattle.ul_nodes.specs.Reduced.{IsReduced}
use Rattle.ul_nodes.specs.Apply.{size, apply, outs, part_at, rest_at, close, first_of, leaf_truth}
use Rattle.ul_tree.specs.Views.{tree_view}
use Rattle.ul_nodes.specs.Keys.{level_view, key_view, keys_view, keys_of_both, AreKeysOf}
use Rattle.ul_nodes.specs.Rows.{made_view}
use Rattle.ul_tree.specs.Joins.{truth_of, AreJoined, IsJoined, IsClosed}
use Rattle.ul_nodes.specs.declared.level.Key.{Key}
use Rattle.ul_nodes.specs.declared.level.Level.{Level}
use Rattle.ul_tree.specs.declared.join.Join.{Join}
use Rattle.ul_tree.specs.declared.tree.Tree.{Tree}
use Rattle.ul_base.proofs.ForCallers.{made_holds}
use Rattle.ul_tree.proofs.Applied.{applied}
use Rattle.ul_tree.proofs.Smaller.{rests_smaller, parts_smaller}
use Rattle.ul_nodes.proofs.ForCallers.{then_none, stands_kept}
use Rattle.ul_tree.proofs.Shapes.{view_truth}
use Rattle.ul_tree.proofs.Shortcuts.{at_once, truths_joined}
use Rattle.ul_tree.proofs.Steps.{no_key, step_kept, keys_left, applied_is, rest_at_reduced, part_at_reduced}
use Rattle.ul_tree.proofs.join.+joined.Goals as goal

pub joined_parts-joined_within-requires : goal.joined_parts-joined_within-requires
joined_parts-joined_within-requires t c =
    let a = tree_view c.args.left.now in
    let b = tree_view c.args.right.now in
    let l = level_view c.in-Some.level in
    let m : size (tree_view c.rest_at.result.now) + size (tree_view c.rest_at-in-Some.result.now) < size a + size b = rw (c.rest_at.ensures.part, c.rest_at-in-Some.ensures.part) (rests_smaller a b l c.in-Some.ensures) in
    let d = c.decreases in (
      omega (arith, m, d),
      (subst (λ (z : Plain). IsReduced z) (sym c.rest_at.ensures.part) (rest_at_reduced l a c.requires.left_reduced), subst (λ (z : Plain). IsReduced z) (sym c.rest_at-in-Some.ensures.part) (rest_at_reduced l b c.requires.right_reduced)),
    )

pub joined_parts-joined_branches-branches-requires : goal.joined_parts-joined_branches-branches-requires
joined_parts-joined_branches-branches-requires t c =
    let d = c.decreases in
    (omega (arith, d), (c.requires.left_reduced, (c.requires.right_reduced, (c.in-Some.ensures, c.in_ok-rest-in-Some.ensures.reduced))))

-- the other part and the branches make the joined tree
level_joined : (op : Join) (n : ℕ) (level : Level) (left right rest other : Tree) (made : List (Key × Tree)) → size (tree_view left) + size (tree_view right) < suc n → Some (level_view level) ≡ first_of (tree_view left) (tree_view right)
    → tree_view rest ≡ apply (truth_of op) n (rest_at (level_view level) (tree_view left)) (rest_at (level_view level) (tree_view right)) → other ≡ rest → AreJoined op level left right rest made
    → close (level_view level) (tree_view other) (made_view tree_view made) ≡ apply (truth_of op) (suc n) (tree_view left) (tree_view right)
level_joined op n level left right rest other made h first end same told =
    let a = tree_view left in
    let b = tree_view right in
    let l = level_view level in
    ap (λ z. close l (tree_view z) (made_view tree_view made)) same
    ∙ applied_is (truth_of op) n a b l (close l (tree_view rest) (made_view tree_view made)) (tree_view rest) (made_view tree_view made) (keys_of_both level a b) first end refl (told n h) refl

-- so does every number that is enough
level_made : (op : Join) (level : Level) (left right rest other tree : Tree) (made : List (Key × Tree)) → Some (level_view level) ≡ first_of (tree_view left) (tree_view right)
    → IsJoined op (rest_at (level_view level) (tree_view left)) (rest_at (level_view level) (tree_view right)) (tree_view rest) → other ≡ rest → AreJoined op level left right rest made → IsClosed (level_view level) other made tree
    → IsJoined op (tree_view left) (tree_view right) (tree_view tree)
level_made op level left right rest other tree made first end same told is zero h = absurd (omega (arith, h))
level_made op level left right rest other tree made first end same told is (suc n) h =
    let m = rests_smaller (tree_view left) (tree_view right) (level_view level) first in
    is ∙ level_joined op n level left right rest other made h first (end n (omega (arith, m, h))) same told

-- the other part is joined
rest_joined : (op : Join) (a b c d t : Plain) → a ≡ c → b ≡ d → IsJoined op a b t → IsJoined op c d t
rest_joined op a b c d t e f h = subst (λ (z : Plain). IsJoined op c z t) f (subst (λ (z : Plain). IsJoined op z b t) e h)

pub joined_parts-closed-requires-clause-reduced : goal.joined_parts-closed-requires-clause-reduced
joined_parts-closed-requires-clause-reduced t c =
    let a = tree_view c.args.left.now in
    let b = tree_view c.args.right.now in
    let l = level_view c.in-Some.level in
    let n = size a + size b in
    let small : n < suc n = omega arith in
    let m = rests_smaller a b l c.in-Some.ensures in
    let end = rest_joined c.args.operation _ _ _ _ _ c.rest_at.ensures.part c.rest_at-in-Some.ensures.part c.in_ok-rest-in-Some.ensures.joined in
    let both = c.in_ok-other-in-Some.ensures in
    let told = made_holds c.joined_branches-branches.result c.in_ok-other-in-Some.made _ both.1 c.joined_branches-branches.ensures.branches in
    subst (λ (z : Plain). IsReduced z)
    (sym (level_joined c.args.operation n c.in-Some.level c.args.left.now c.args.right.now c.in_ok-rest-in-Some.rest c.in_ok-other-in-Some.other c.in_ok-other-in-Some.made.items small c.in-Some.ensures (end n m) both.0 told))
    (applied (truth_of c.args.operation) (suc n) a b [] small c.requires.left_reduced c.requires.right_reduced).0

pub joined_parts-closed-requires-clause-kinds : goal.joined_parts-closed-requires-clause-kinds
joined_parts-closed-requires-clause-kinds t c = made_holds c.joined_branches-branches.result c.in_ok-other-in-Some.made _ c.in_ok-other-in-Some.ensures.1 c.joined_branches-branches.ensures.kinds

pub joined_parts-returns-in_ok-other-in-Some-clause-joined : goal.joined_parts-returns-in_ok-other-in-Some-clause-joined
joined_parts-returns-in_ok-other-in-Some-clause-joined t c =
    let end = rest_joined c.args.operation _ _ _ _ _ c.rest_at.ensures.part c.rest_at-in-Some.ensures.part c.in_ok-rest-in-Some.ensures.joined in
    let both = c.in_ok-other-in-Some.ensures in
    let told = made_holds c.joined_branches-branches.result c.in_ok-other-in-Some.made _ both.1 c.joined_branches-branches.ensures.branches in
    IfOk-weaker c.closed.result _ _
    (λ tree is.
    level_made c.args.operation c.in-Some.level c.args.left.now c.args.right.now c.in_ok-rest-in-Some.rest c.in_ok-other-in-Some.other tree c.in_ok-other-in-Some.made.items c.in-Some.ensures end both.0 told is)
    c.closed.ensures

pub joined_parts-returns-in_ok-other-in-Some-clause-reduced : goal.joined_parts-returns-in_ok-other-in-Some-clause-reduced
joined_parts-returns-in_ok-other-in-Some-clause-reduced t c =
    let a = tree_view c.args.left.now in
    let b = tree_view c.args.right.now in
    let n = size a + size b in
    let small : n < suc n = omega arith in
    IfOk-weaker c.closed.result _ _
    (λ tree is. subst (λ (z : Plain). IsReduced z) (sym (is (suc n) small)) (applied (truth_of c.args.operation) (suc n) a b [] small c.requires.left_reduced c.requires.right_reduced).0)
    (joined_parts-returns-in_ok-other-in-Some-clause-joined t c)

-- ---- the branches

pub joined_branches-joined_within-requires : goal.joined_branches-joined_within-requires
joined_branches-joined_within-requires t c =
    let a = tree_view c.args.left.now in
    let b = tree_view c.args.right.now in
    let l = level_view c.args.level in
    let v = key_view (get_or c.deref-key-items.result.now c.loop-key.key-index no_key) in
    let m : size (tree_view c.part_at.result.now) + size (tree_view c.part_at-in-loop-key.result.now) < size a + size b = rw (c.part_at.ensures.part, c.part_at-in-loop-key.ensures.part) (parts_smaller a b l v c.requires.first) in
    let d = c.decreases in (
      omega (arith, m, d),
      (subst (λ (z : Plain). IsReduced z) (sym c.part_at.ensures.part) (part_at_reduced l v a c.requires.left_reduced), subst (λ (z : Plain). IsReduced z) (sym c.part_at-in-loop-key.ensures.part) (part_at_reduced l v b c.requires.right_reduced)),
    )

pub joined_branches-loop-key-preserved : goal.joined_branches-loop-key-preserved
joined_branches-loop-key-preserved t c =
    let a = tree_view c.args.left.now in
    let b = tree_view c.args.right.now in
    let l = level_view c.args.level in
    let items = c.deref-key-items.result.now in
    let i = c.loop-key.key-index in
    let v = key_view (get_or items i no_key) in
    let m : size (tree_view c.part_at.result.now) + size (tree_view c.part_at-in-loop-key.result.now) < size a + size b = rw (c.part_at.ensures.part, c.part_at-in-loop-key.ensures.part) (parts_smaller a b l v c.requires.first) in
    record {
      made = λ n h.
          let made = c.in_ok-next.ensures.joined n (omega (arith, m, h)) in
          let left = keys_left items i no_key c.loop-key-test.true in
          step_kept (λ v. apply (truth_of c.args.operation) n (part_at l v a) (part_at l v b)) c.is_carried-carried.result (made_view tree_view c.loop-key.made.items) _ _ (tree_view c.in_ok-next.next) v (keys_view (drop (i + 1) items)) _
          (rw (c.part_at.ensures.part, c.part_at-in-loop-key.ensures.part) at made)
          c.in_ok-add.ensures.made
          (rw left at (c.loop-key.invariant.made n h));
      stands_reduced = stands_kept _ c.is_carried-carried.result (made_view tree_view c.loop-key.made.items) _ v (tree_view c.in_ok-next.next) _ c.in_ok-add.ensures.made c.in_ok-next.ensures.reduced c.loop-key.invariant.stands_reduced;
      kinds = c.in_ok-add.ensures.kinds l c.loop-key.invariant.kinds
          (subst (λ (z : List Key). AreKeysOf l z) (sym c.deref-key-items.ensures.value) c.in_ok-keys.ensures.kinds i no_key c.loop-key-test.true);
    }

pub joined_branches-returns-clause-branches : goal.joined_branches-returns-clause-branches
joined_branches-returns-clause-branches t c n h =
    let a = tree_view c.args.left.now in
    let b = tree_view c.args.right.now in
    let l = level_view c.args.level in
    let items = c.deref-key-items.result.now in
    let none = drop_all c.loop-key.key-index items (omega arith) in
    sym (then_none (made_view tree_view c.loop-key.made.items)) ∙ rw (none, c.is_carried-carried.ensures) at (c.loop-key.invariant.made n h)
    ∙ ap (λ z. outs (λ v. apply (truth_of c.args.operation) n (part_at l v a) (part_at l v b)) (carries l) z (tree_view c.args.other.now)) (ap keys_view c.deref-key-items.ensures.value ∙ c.in_ok-keys.ensures.keys)

-- ---- what is known at once

pub joined_within-returns-in-Some-clause-joined : goal.joined_within-returns-in-Some-clause-joined
joined_within-returns-in-Some-clause-joined t c =
    let k = c.in-Some.ensures in
    IfOk-weaker c.made.result _ _
    (λ tree is n h. is ∙ at_once (truth_of c.args.operation) (tree_view c.args.left.now) (tree_view c.args.right.now) _ c.requires.left_reduced c.requires.right_reduced k.reduced k.truth n h)
    c.made.ensures

pub joined_within-returns-in-Some-clause-reduced : goal.joined_within-returns-in-Some-clause-reduced
joined_within-returns-in-Some-clause-reduced t c = IfOk-weaker c.made.result _ _ (λ tree is. subst (λ (z : Plain). IsReduced z) (sym is) c.in-Some.ensures.reduced) c.made.ensures

pub joined_parts-returns-in-None-clause-joined : goal.joined_parts-returns-in-None-clause-joined
joined_parts-returns-in-None-clause-joined t c =
    let a = tree_view c.args.left.now in
    let b = tree_view c.args.right.now in
    let op = truth_of c.args.operation in
    truths_joined op a b _ c.in-None.ensures
    (view_truth c.truth.result ∙ ap truth (c.truth.ensures ∙ ap (λ x. op x c.known-in-None.result) c.known.ensures ∙ ap (op (leaf_truth a)) c.known-in-None.ensures))

pub joined_parts-returns-in-None-clause-reduced : goal.joined_parts-returns-in-None-clause-reduced
joined_parts-returns-in-None-clause-reduced t c = subst (λ (z : Plain). IsReduced z) (sym (view_truth c.truth.result)) tt

pub joined_within-returns-clause-joined : goal.joined_within-returns-clause-joined
joined_within-returns-clause-joined t c = c.joined_parts.ensures.joined

pub joined_within-returns-clause-reduced : goal.joined_within-returns-clause-reduced
joined_within-returns-clause-reduced t c = c.joined_parts.ensures.reduced
