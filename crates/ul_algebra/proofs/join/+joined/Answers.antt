use Rattle.std.proofs.Common.{◌≡◌, ℕ, zero, suc, List, [], ◌+◌, ◌<◌, ap, sym, ◌∙◌, arith, drop, subst, true, get_or, Global, Ok, Vec}
use Rattle.std.specs.Prelude.{IfOk}
use Rattle.std.specs.List.{All}
use Rattle.std.proofs.lemmas.List.{drop_all}
use Rattle.ul_base.proofs.ForCallers.{made_holds}
use Rattle.ul_interner.specs.Known.{Known, Knows}
use Rattle.ul_interner.proofs.ForCallers.{known_stays, knows_then}
use Rattle.ul_nodes.specs.Plain.{Plain, truth}
use Rattle.ul_nodes.specs.Reduced.{IsReduced}
use Rattle.ul_nodes.specs.Apply.{size, apply, close, leaf_truth, part_at}
use Rattle.ul_nodes.specs.Keys.{level_view, key_view, keys_view, has_kind}
use Rattle.ul_nodes.specs.declared.level.Key.{Key}
use Rattle.ul_tree.proofs.ForCallers.{applied}
use Rattle.ul_tree.proofs.ForCallers.{rests_smaller, parts_smaller}
use Rattle.ul_nodes.proofs.ForCallers.{then_none, stands_kept}
use Rattle.ul_tree.proofs.ForCallers.{no_key, step_kept, keys_left, applied_is, closed_reduced, rest_at_reduced, part_at_reduced}
use Rattle.ul_algebra.specs.Spelled.{tree_of}
use Rattle.ul_algebra.specs.Made.{Seen, diagrams_made}
use Rattle.ul_algebra.specs.Joinings.{truth_of, at_once_tree, IsJoin}
use Rattle.ul_algebra.proofs.Rows.{all_more}
use Rattle.ul_algebra.proofs.Joins.{joined_at_once, swapped, truths_joined}
use Rattle.ul_algebra.proofs.Kept.{diagram_stays, part_diagram, if_share, if_handed, made_both, made_then}
use Rattle.ul_algebra.proofs.join.+joined.Goals as goal
use Rattle.ul_algebra.proofs.join.+joined.Goals.{joined_anew-In_ok-rest-in-Some}

-- ---- joined

pub joined-returns-in-Some-clause-joined : goal.joined-returns-in-Some-clause-joined
joined-returns-in-Some-clause-joined g t c =
    let a = tree_of c.args.a.now in
    let b = tree_of c.args.b.now in
    let k = at_once_tree a b c.in-Some.found in
    made_then c.taken.result (λ m. tree_of m ≡ k) (λ m. IsJoin c.args.op c.args.a.now c.args.b.now m)
    (λ m e. joined_at_once (truth_of c.args.op) a b k (tree_of m) c.requires.a.reduced c.requires.b.reduced c.in-Some.ensures e) c.taken.ensures.tree

pub joined-returns-in-Some-clause-reduced : goal.joined-returns-in-Some-clause-reduced
joined-returns-in-Some-clause-reduced g t c =
    let k = at_once_tree (tree_of c.args.a.now) (tree_of c.args.b.now) c.in-Some.found in
    made_then c.taken.result (λ m. tree_of m ≡ k) (λ m. IsReduced (tree_of m)) (λ m e. subst (λ (z : Plain). IsReduced z) (sym e) c.in-Some.ensures.reduced) c.taken.ensures.tree

pub joined-returns-then-is_before-clause-joined : goal.joined-returns-then-is_before-clause-joined
joined-returns-then-is_before-clause-joined g t c =
    made_both c.joined_once.result (λ d. IsReduced (tree_of d)) (λ d. IsJoin c.args.op c.args.b.now c.args.a.now d) (λ d. IsJoin c.args.op c.args.a.now c.args.b.now d)
    (λ d r j. swapped (truth_of c.args.op) (tree_of c.args.a.now) (tree_of c.args.b.now) (tree_of d) (c.commutes.ensures c.if-commutes.true) c.requires.a.reduced c.requires.b.reduced r j) c.joined_once.ensures.reduced c.joined_once.ensures.joined

pub joined-joined_once-requires : goal.joined-joined_once-requires
joined-joined_once-requires g t c =
    let d = c.decreases in λ κs o. (omega (arith, d), (o, (c.requires.b, c.requires.a)))

pub joined-joined_once-requires-2 : goal.joined-joined_once-requires-2
joined-joined_once-requires-2 g t c =
    let d = c.decreases in λ κs o. (omega (arith, d), (o, (c.requires.a, c.requires.b)))

-- ---- joined_once

pub joined_once-returns-in-Some-clause-reduced : goal.joined_once-returns-in-Some-clause-reduced
joined_once-returns-in-Some-clause-reduced g t c =
    let a = tree_of c.args.a.now in
    let b = tree_of c.args.b.now in
    let n = size a + size b in
    let small : n < suc n = omega arith in
    let e = c.in-Some.ensures.answer (suc n) small in
    if_share c.share.result c.in-Some.found.now (λ d. IsReduced (tree_of d)) c.share.ensures
    (subst (λ (z : Plain). IsReduced z) (sym e) (applied (truth_of c.args.op) (suc n) a b [] small c.requires.a.reduced c.requires.b.reduced).0)

pub joined_once-remembered-requires-clause-a : goal.joined_once-remembered-requires-clause-a
joined_once-remembered-requires-clause-a g t c = known_stays c.args.algebra.now c.joined_anew.new.algebra c.in_ok-made.ensures.knows c.args.a.now c.requires.a.known

pub joined_once-remembered-requires-clause-b : goal.joined_once-remembered-requires-clause-b
joined_once-remembered-requires-clause-b g t c = known_stays c.args.algebra.now c.joined_anew.new.algebra c.in_ok-made.ensures.knows c.args.b.now c.requires.b.known

pub joined_once-remembered-requires-clause-known : goal.joined_once-remembered-requires-clause-known
joined_once-remembered-requires-clause-known g t c = c.in_ok-made.ensures.known

pub joined_once-remembered-requires-clause-answer : goal.joined_once-remembered-requires-clause-answer
joined_once-remembered-requires-clause-answer g t c = c.in_ok-made.ensures.joined

pub joined_once-joined_anew-requires : goal.joined_once-joined_anew-requires
joined_once-joined_anew-requires g t c =
    let d = c.decreases in λ κs o. (omega (arith, d), (o, (c.requires.a, c.requires.b)))

pub joined_once-returns-in-Some-clause-joined : goal.joined_once-returns-in-Some-clause-joined
joined_once-returns-in-Some-clause-joined g t c =
    if_share c.share.result c.in-Some.found.now (λ d. IsJoin c.args.op c.args.a.now c.args.b.now d) c.share.ensures c.in-Some.ensures.answer

pub joined_once-returns-in-Some-clause-known : goal.joined_once-returns-in-Some-clause-known
joined_once-returns-in-Some-clause-known g t c = if_share c.share.result c.in-Some.found.now (λ d. Known c.args.algebra.now d) c.share.ensures c.in-Some.ensures.known

pub joined_once-returns-clause-knows : goal.joined_once-returns-clause-knows
joined_once-returns-clause-knows g t c = subst (λ h. Knows c.args.algebra.now h) (sym c.remembered.ensures.same) c.in_ok-made.ensures.knows

pub joined_once-returns-clause-joined : goal.joined_once-returns-clause-joined
joined_once-returns-clause-joined g t c =
    if_share c.remembered.result c.in_ok-made.made (λ d. IsJoin c.args.op c.args.a.now c.args.b.now d) c.remembered.ensures.answer c.in_ok-made.ensures.joined

pub joined_once-returns-clause-known : goal.joined_once-returns-clause-known
joined_once-returns-clause-known g t c =
    if_share c.remembered.result c.in_ok-made.made (λ d. Known c.remembered.new.self d) c.remembered.ensures.answer
    (subst (λ h. Known h c.in_ok-made.made) (sym c.remembered.ensures.same) c.in_ok-made.ensures.known)

pub joined_once-returns-clause-reduced : goal.joined_once-returns-clause-reduced
joined_once-returns-clause-reduced g t c =
    if_share c.remembered.result c.in_ok-made.made (λ d. IsReduced (tree_of d)) c.remembered.ensures.answer c.in_ok-made.ensures.reduced

-- ---- joined_anew

pub joined_anew-returns-in-None-clause-joined : goal.joined_anew-returns-in-None-clause-joined
joined_anew-returns-in-None-clause-joined g t c =
    let a = tree_of c.args.a.now in
    let b = tree_of c.args.b.now in
    let op = truth_of c.args.op in
    made_then c.truth-in-None.result (λ d. tree_of d ≡ truth c.truth.result) (λ d. IsJoin c.args.op c.args.a.now c.args.b.now d)
    (λ d e. truths_joined op a b (tree_of d) c.in-None.ensures (e ∙ ap truth (c.truth.ensures ∙ ap (λ x. op x c.known-in-None.result) c.known.ensures ∙ ap (op (leaf_truth a)) c.known-in-None.ensures)))
    c.truth-in-None.ensures.tree

pub joined_anew-joined-requires : goal.joined_anew-joined-requires
joined_anew-joined-requires g t c =
    let a = tree_of c.args.a.now in
    let b = tree_of c.args.b.now in
    let l = level_view c.in-Some.level in
    let h = c.args.algebra.now in
    let m : size (tree_of c.rest_at.result.now) + size (tree_of c.rest_at-in-Some.result.now) < size a + size b = rw (c.rest_at.ensures.part, c.rest_at-in-Some.ensures.part) (rests_smaller a b l c.in-Some.ensures) in
    let d = c.decreases in λ κs o. (
      omega (arith, m, d),
      (
        o,
        (
          record { known = c.rest_at.ensures.below h c.requires.a.known; reduced = subst (λ (z : Plain). IsReduced z) (sym c.rest_at.ensures.part) (rest_at_reduced l a c.requires.a.reduced) },
          record { known = c.rest_at-in-Some.ensures.below h c.requires.b.known; reduced = subst (λ (z : Plain). IsReduced z) (sym c.rest_at-in-Some.ensures.part) (rest_at_reduced l b c.requires.b.reduced) },
        ),
      ),
    )

pub joined_anew-branches-made-requires : goal.joined_anew-branches-made-requires
joined_anew-branches-made-requires g t c =
    let more = c.in_ok-other-in-Some.ensures.knows in
    let d = c.decreases in λ κs o. (
      omega (arith, d),
      (
        o,
        (
          diagram_stays c.args.algebra.now c.joined.new.algebra c.args.a.now more c.requires.a,
          (
            diagram_stays c.args.algebra.now c.joined.new.algebra c.args.b.now more c.requires.b,
            (
              record { known = c.in_ok-other-in-Some.ensures.known; reduced = c.in_ok-other-in-Some.ensures.reduced },
              (c.in-Some.ensures, subst (λ (z : List Key). All (λ k. has_kind (level_view c.in-Some.level) k ≡ true) z) (sym c.deref.ensures.value) c.in_ok-keys-in-Some.ensures.kinds),
            ),
          ),
        ),
      ),
    )

pub joined_anew-returns-in_err-rest-in-Some-clause-knows : goal.joined_anew-returns-in_err-rest-in-Some-clause-knows
joined_anew-returns-in_err-rest-in-Some-clause-knows g t c = knows_then _ _ _ c.in_ok-other-in-Some.ensures.knows c.branches-made.ensures.knows

-- what the branches told of what they made holds of what was handed on
told : (g : _) (t : ℕ) (c : joined_anew-In_ok-rest-in-Some g t) (P : Vec (Key × Seen) Global → Type 0) → IfOk c.branches-made.result P → P c.in_ok-rest-in-Some.made
told g t c P h =
    let made = c.in_ok-rest-in-Some.made in
    made_holds c.branches-made.result made P (made_holds c.made_from.result made (λ v. c.branches-made.result ≡ Ok v) c.in_ok-rest-in-Some.ensures.1 c.made_from.ensures) h

pub joined_anew-closed-requires-clause-kinds : goal.joined_anew-closed-requires-clause-kinds
joined_anew-closed-requires-clause-kinds g t c = told g t (goal.at.joined_anew-closed-requires-clause-kinds g t c).In_ok-rest-in-Some _ c.branches-made.ensures.kinds

pub joined_anew-closed-requires-clause-parts : goal.joined_anew-closed-requires-clause-parts
joined_anew-closed-requires-clause-parts g t c = told g t (goal.at.joined_anew-closed-requires-clause-parts g t c).In_ok-rest-in-Some _ c.branches-made.ensures.parts

pub joined_anew-closed-requires-clause-other : goal.joined_anew-closed-requires-clause-other
joined_anew-closed-requires-clause-other g t c =
    let h = c.branches-made.new.algebra in
    subst (λ z. Known h z) (sym c.in_ok-rest-in-Some.ensures.0) (known_stays c.joined.new.algebra h c.branches-made.ensures.knows c.in_ok-other-in-Some.other c.in_ok-other-in-Some.ensures.known)

pub joined_anew-closed-requires-clause-reduced : goal.joined_anew-closed-requires-clause-reduced
joined_anew-closed-requires-clause-reduced g t c =
    let a = tree_of c.args.a.now in
    let b = tree_of c.args.b.now in
    let l = level_view c.in-Some.level in
    let n = size a + size b in
    let small : n < suc n = omega arith in
    let m : size (tree_of c.rest_at.result.now) + size (tree_of c.rest_at-in-Some.result.now) < n = rw (c.rest_at.ensures.part, c.rest_at-in-Some.ensures.part) (rests_smaller a b l c.in-Some.ensures) in
    let end = c.in_ok-other-in-Some.ensures.joined n m in
    let made = told g t (goal.at.joined_anew-closed-requires-clause-reduced g t c).In_ok-rest-in-Some _ c.branches-made.ensures.made in
    let bs = diagrams_made c.in_ok-rest-in-Some.made.items in
    subst (λ z. IsReduced (close l (tree_of z) bs)) (sym c.in_ok-rest-in-Some.ensures.0)
    (closed_reduced (truth_of c.args.op) n a b l (tree_of c.in_ok-other-in-Some.other) bs (keys_view c.deref.result.now) small c.requires.a.reduced c.requires.b.reduced c.in-Some.ensures
    (rw (c.rest_at.ensures.part, c.rest_at-in-Some.ensures.part) at end)
    (ap keys_view c.deref.ensures.value ∙ c.in_ok-keys-in-Some.ensures.keys)
    (made n small))

pub joined_anew-returns-in_ok-rest-in-Some-clause-knows : goal.joined_anew-returns-in_ok-rest-in-Some-clause-knows
joined_anew-returns-in_ok-rest-in-Some-clause-knows g t c = knows_then _ _ _ c.in_ok-other-in-Some.ensures.knows (knows_then _ _ _ c.branches-made.ensures.knows c.closed.ensures.knows)

-- a closed level has the joined truth
joins : (g : _) (t : ℕ) (c : joined_anew-In_ok-rest-in-Some g t) (d : Seen) → tree_of d ≡ close (level_view c.in-Some.level) (tree_of c.in_ok-rest-in-Some.rest) (diagrams_made c.in_ok-rest-in-Some.made.items) → IsJoin c.args.op c.args.a.now c.args.b.now d
joins g t c d e zero h = absurd (omega arith)
joins g t c d e (suc n) h =
    let a = tree_of c.args.a.now in
    let b = tree_of c.args.b.now in
    let l = level_view c.in-Some.level in
    let m : size (tree_of c.rest_at.result.now) + size (tree_of c.rest_at-in-Some.result.now) < size a + size b = rw (c.rest_at.ensures.part, c.rest_at-in-Some.ensures.part) (rests_smaller a b l c.in-Some.ensures) in
    let end = c.in_ok-other-in-Some.ensures.joined n (omega (arith, m, h)) in
    let bs = diagrams_made c.in_ok-rest-in-Some.made.items in
    applied_is (truth_of c.args.op) n a b l (tree_of d) (tree_of c.in_ok-other-in-Some.other) bs (keys_view c.deref.result.now) c.in-Some.ensures
    (rw (c.rest_at.ensures.part, c.rest_at-in-Some.ensures.part) at end)
    (ap keys_view c.deref.ensures.value ∙ c.in_ok-keys-in-Some.ensures.keys)
    (told g t c _ c.branches-made.ensures.made n h)
    (e ∙ ap (λ z. close l (tree_of z) bs) c.in_ok-rest-in-Some.ensures.0)

pub joined_anew-returns-in_ok-rest-in-Some-clause-joined : goal.joined_anew-returns-in_ok-rest-in-Some-clause-joined
joined_anew-returns-in_ok-rest-in-Some-clause-joined g t c =
    if_handed c.closed.result c.made_from-in-Some.result (λ d. IsJoin c.args.op c.args.a.now c.args.b.now d) c.made_from-in-Some.ensures
    (made_then c.closed.result _ (λ d. IsJoin c.args.op c.args.a.now c.args.b.now d) (joins g t (goal.at.joined_anew-returns-in_ok-rest-in-Some-clause-joined g t c).In_ok-rest-in-Some) c.closed.ensures.tree)

pub joined_anew-returns-in_ok-rest-in-Some-clause-known : goal.joined_anew-returns-in_ok-rest-in-Some-clause-known
joined_anew-returns-in_ok-rest-in-Some-clause-known g t c = if_handed c.closed.result c.made_from-in-Some.result (λ d. Known c.closed.new.algebra d) c.made_from-in-Some.ensures c.closed.ensures.known

pub joined_anew-returns-in_ok-rest-in-Some-clause-reduced : goal.joined_anew-returns-in_ok-rest-in-Some-clause-reduced
joined_anew-returns-in_ok-rest-in-Some-clause-reduced g t c =
    let a = tree_of c.args.a.now in
    let b = tree_of c.args.b.now in
    let n = size a + size b in
    let small : n < suc n = omega arith in
    made_then c.made_from-in-Some.result (λ d. IsJoin c.args.op c.args.a.now c.args.b.now d) (λ d. IsReduced (tree_of d))
    (λ d j. subst (λ (z : Plain). IsReduced z) (sym (j (suc n) small)) (applied (truth_of c.args.op) (suc n) a b [] small c.requires.a.reduced c.requires.b.reduced).0) (joined_anew-returns-in_ok-rest-in-Some-clause-joined g t c)

-- ---- branches

pub branches-joined-requires : goal.branches-joined-requires
branches-joined-requires g t c =
    let a = tree_of c.args.a.now in
    let b = tree_of c.args.b.now in
    let l = level_view c.args.level in
    let h = c.args.algebra.now in
    let v = key_view (get_or c.args.keys.now c.loop-key.key-index no_key) in
    let m : size (tree_of c.part_at.result.now) + size (tree_of c.part_at-in-loop-key.result.now) < size a + size b = rw (c.part_at.ensures.part, c.part_at-in-loop-key.ensures.part) (parts_smaller a b l v c.requires.first) in
    let d = c.decreases in λ κs o. (
      omega (arith, m, d),
      (
        o,
        (
          part_diagram h c.loop-key.algebra c.args.a.now c.part_at.result.now (part_at l v a) c.loop-key.invariant.knows c.requires.a c.part_at.ensures.below c.part_at.ensures.part (part_at_reduced l v a c.requires.a.reduced),
          part_diagram h c.loop-key.algebra c.args.b.now c.part_at-in-loop-key.result.now (part_at l v b) c.loop-key.invariant.knows c.requires.b c.part_at-in-loop-key.ensures.below c.part_at-in-loop-key.ensures.part (part_at_reduced l v b c.requires.b.reduced),
        ),
      ),
    )

pub branches-returns-in_err-next-clause-knows : goal.branches-returns-in_err-next-clause-knows
branches-returns-in_err-next-clause-knows g t c = knows_then _ _ _ c.loop-key.invariant.knows c.in_err-next.ensures.knows

pub branches-add-requires-clause-other_known : goal.branches-add-requires-clause-other_known
branches-add-requires-clause-other_known g t c = known_stays c.args.algebra.now c.joined.new.algebra (knows_then _ _ _ c.loop-key.invariant.knows c.in_ok-next.ensures.knows) c.args.other.now c.requires.other.known

pub branches-add-requires-clause-made_known : goal.branches-add-requires-clause-made_known
branches-add-requires-clause-made_known g t c =
    all_more (λ e. Known c.loop-key.algebra e.1) (λ e. Known c.joined.new.algebra e.1) c.loop-key.made.items (λ e k. known_stays c.loop-key.algebra c.joined.new.algebra c.in_ok-next.ensures.knows e.1 k) c.loop-key.invariant.parts

pub branches-returns-in_err-add-clause-knows : goal.branches-returns-in_err-add-clause-knows
branches-returns-in_err-add-clause-knows g t c = knows_then _ _ _ c.loop-key.invariant.knows c.in_ok-next.ensures.knows

pub branches-loop-key-preserved : goal.branches-loop-key-preserved
branches-loop-key-preserved g t c =
    let a = tree_of c.args.a.now in
    let b = tree_of c.args.b.now in
    let l = level_view c.args.level in
    let items = c.args.keys.now in
    let i = c.loop-key.key-index in
    let v = key_view (get_or items i no_key) in
    let m : size (tree_of c.part_at.result.now) + size (tree_of c.part_at-in-loop-key.result.now) < size a + size b = rw (c.part_at.ensures.part, c.part_at-in-loop-key.ensures.part) (parts_smaller a b l v c.requires.first) in
    record {
      knows = knows_then _ _ _ c.loop-key.invariant.knows c.in_ok-next.ensures.knows;
      made = λ n h.
          let made = c.in_ok-next.ensures.joined n (omega (arith, m, h)) in
          let left = keys_left items i no_key c.loop-key-test.true in
          step_kept (λ v. apply (truth_of c.args.op) n (part_at l v a) (part_at l v b)) c.is_carried-carried.result (diagrams_made c.loop-key.made.items) _ _ (tree_of c.in_ok-next.next) v (keys_view (drop (i + 1) items)) _
          (rw (c.part_at.ensures.part, c.part_at-in-loop-key.ensures.part) at made)
          c.in_ok-add.ensures.made
          (rw left at (c.loop-key.invariant.made n h));
      stands_reduced = stands_kept _ c.is_carried-carried.result (diagrams_made c.loop-key.made.items) _ v (tree_of c.in_ok-next.next) _ c.in_ok-add.ensures.made c.in_ok-next.ensures.reduced c.loop-key.invariant.stands_reduced;
      kinds = c.in_ok-add.ensures.kinds l c.loop-key.invariant.kinds (c.requires.kinds i no_key c.loop-key-test.true);
      parts = c.in_ok-add.ensures.known;
    }

pub branches-returns-clause-made : goal.branches-returns-clause-made
branches-returns-clause-made g t c = λ n h.
    let all = c.loop-key.invariant.made n h in
    let none = drop_all c.loop-key.key-index c.args.keys.now (omega arith) in
    sym (then_none (diagrams_made c.loop-key.made.items)) ∙ rw (none, c.is_carried-carried.ensures) at all
