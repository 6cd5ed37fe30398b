use Rattle.std.proofs.Common.{◌<◌, ◌≡◌, ◌++◌, ◌∷◌, [], ℕ, List, Option, Global, Vec, ap, sym, ◌∙◌, refl, subst, arith, get_or, false}
use Rattle.std.specs.Prelude.{IfOk}
use Rattle.ul_base.proofs.ForCallers.{made_holds}
use Rattle.ul_interner.specs.Known.{Known, Knows}
use Rattle.std.specs.Option.{option_map}
use Rattle.ul_interner.proofs.ForCallers.{known_stays, knows_then}
use Rattle.ul_nodes.specs.Plain.{Plain, truth}
use Rattle.ul_nodes.specs.Reduced.{IsReduced}
use Rattle.ul_nodes.specs.Apply.{size, rest_at, part_at}
use Rattle.ul_nodes.specs.Keys.{level_view, key_view, keys_view}
use Rattle.ul_tree.specs.SimplifyViews.{is_above as is_above_plain}
use Rattle.ul_tree.specs.Simplify.{Simplifies, Pieces, Piece, settled_level}
use Rattle.ul_tree.proofs.ForCallers.{no_key}
use Rattle.ul_tree.proofs.ForCallers.{tree_part, tree_rest, region_part, region_rest, part_smaller, rest_smaller, piece_outside, piece_inside, truth_done, all_done, lowered_done, level_done, result_reduced, results_reduced, simpler_reduced}
use Rattle.ul_nodes.specs.declared.level.Key.{Key}
use Rattle.ul_algebra.specs.Spelled.{tree_of}
use Rattle.ul_algebra.specs.Made.{Seen, result_diagrams, OwnKnown}
use Rattle.ul_algebra.proofs.Rows.{all_more, all_push}
use Rattle.ul_tree.proofs.ForCallers.{results_step, results_end, kind_step}
use Rattle.ul_algebra.proofs.Kept.{diagram_stays, part_diagram, own_more, if_handed, if_share, made_then}
use Rattle.ul_algebra.proofs.simplify.+simplify.Goals as goal
use Rattle.ul_algebra.proofs.simplify.+simplify.Goals.{simplified_at-In_ok-pieces}

-- ---- piece

pub piece-returns-then-is_false-clause-piece : goal.piece-returns-then-is_false-clause-piece
piece-returns-then-is_false-clause-piece g t c = piece_outside (tree_of c.args.f.now) (tree_of c.args.c.now) (sym c.is_false.ensures ∙ c.if-is_false.true)

pub piece-returns-clause-piece : goal.piece-returns-clause-piece
piece-returns-clause-piece g t c = piece_inside (tree_of c.args.f.now) (tree_of c.args.c.now) (tree_of c.in_ok-d.d) (sym c.is_false.ensures ∙ c.if-is_false.false) c.in_ok-d.ensures.rule

-- ---- results

pub results-piece-result-requires : goal.results-piece-result-requires
results-piece-result-requires g t c =
    let l = level_view c.args.level in
    let f = tree_of c.args.f.now in
    let r = tree_of c.args.region.now in
    let h = c.args.algebra.now in
    let v = key_view (get_or c.args.keys.now c.loop-key.key-index no_key) in
    let m : size (tree_of c.part_at.result.now) < size f = part_smaller l v f (tree_of c.part_at.result.now) c.requires.top c.part_at.ensures.part in
    let d = c.decreases in λ κs o. (
      omega (arith, m, d),
      (
        o,
        (
          part_diagram h c.loop-key.algebra c.args.f.now c.part_at.result.now (part_at l v f) c.loop-key.invariant.knows c.requires.f c.part_at.ensures.below c.part_at.ensures.part (tree_part l v f c.requires.top c.requires.f.reduced),
          part_diagram h c.loop-key.algebra c.args.region.now c.part_at-in-loop-key.result.now (part_at l v r) c.loop-key.invariant.knows c.requires.region c.part_at-in-loop-key.ensures.below c.part_at-in-loop-key.ensures.part (region_part l v r c.requires.not_above c.requires.region.reduced),
        ),
      ),
    )

pub results-returns-in_err-made-clause-knows : goal.results-returns-in_err-made-clause-knows
results-returns-in_err-made-clause-knows g t c = knows_then _ _ _ c.loop-key.invariant.knows c.piece-result.ensures.knows

pub results-loop-key-preserved : goal.results-loop-key-preserved
results-loop-key-preserved g t c =
    let l = level_view c.args.level in
    let h = c.piece-result.new.algebra in
    let before = c.loop-key.made.items in
    let after = c.in_ok-made.made.items in
    let more = c.in_ok-made.ensures in
    let one = more.0 in
    let pair = made_holds c.beside.result one _ more.1 c.beside.ensures in
    let is = more.2 ∙ ap (λ k. before ++ (k, one.1) ∷ []) pair.0 in
    record {
      knows = knows_then _ _ _ c.loop-key.invariant.knows c.piece-result.ensures.knows;
      known = all_push (λ r. OwnKnown h r.1) before after one more.2
          (all_more (λ r. OwnKnown c.loop-key.algebra r.1) (λ r. OwnKnown h r.1) before (λ r k. own_more c.loop-key.algebra h c.piece-result.ensures.knows r.1 k) c.loop-key.invariant.known)
          (made_holds c.piece-result.result one.1 _ pair.1 c.piece-result.ensures.known);
      pieces = results_step tree_of l (tree_of c.args.f.now) (tree_of c.args.region.now) c.args.keys.now c.loop-key.key-index _ one.1 before after
          (tree_of c.part_at.result.now) (tree_of c.part_at-in-loop-key.result.now) c.loop-key-test.true is c.part_at.ensures.part c.part_at-in-loop-key.ensures.part
          (made_holds c.piece-result.result one.1 _ pair.1 c.piece-result.ensures.piece) c.loop-key.invariant.pieces;
      kinds = kind_step l c.args.keys.now c.loop-key.key-index _ one.1 before after c.loop-key-test.true is c.requires.kinds c.loop-key.invariant.kinds;
    }

pub results-returns-clause-pieces : goal.results-returns-clause-pieces
results-returns-clause-pieces g t c =
    results_end tree_of (level_view c.args.level) (tree_of c.args.f.now) (tree_of c.args.region.now) c.args.keys.now c.loop-key.key-index c.loop-key.made.items (omega arith) c.loop-key.invariant.pieces

-- ---- simplified

pub simplified-simplified_anew-requires : goal.simplified-simplified_anew-requires
simplified-simplified_anew-requires g t c =
    let d = c.decreases in λ κs o. (omega (arith, d), (o, (c.requires.f, (c.requires.c, c.requires.not_false))))

pub simplified-returns-then-stays-clause-known : goal.simplified-returns-then-stays-clause-known
simplified-returns-then-stays-clause-known g t c = if_share c.share.result c.args.f.now (λ d. Known c.args.algebra.now d) c.share.ensures c.requires.f.known

pub simplified-returns-in-Some-clause-known : goal.simplified-returns-in-Some-clause-known
simplified-returns-in-Some-clause-known g t c = if_share c.share-in-Some.result c.in-Some.found.now (λ d. Known c.args.algebra.now d) c.share-in-Some.ensures c.in-Some.ensures.known

pub simplified-returns-in-Some-clause-rule : goal.simplified-returns-in-Some-clause-rule
simplified-returns-in-Some-clause-rule g t c =
    if_share c.share-in-Some.result c.in-Some.found.now (λ d. Simplifies (tree_of c.args.f.now) (tree_of c.args.c.now) (tree_of d)) c.share-in-Some.ensures c.in-Some.ensures.answer

pub simplified-returns-clause-knows : goal.simplified-returns-clause-knows
simplified-returns-clause-knows g t c = subst (λ h. Knows c.args.algebra.now h) (sym c.remembered.ensures.same) c.in_ok-made.ensures.knows

pub simplified-returns-clause-known : goal.simplified-returns-clause-known
simplified-returns-clause-known g t c =
    if_share c.remembered.result c.in_ok-made.made (λ d. Known c.remembered.new.self d) c.remembered.ensures.answer
    (subst (λ h. Known h c.in_ok-made.made) (sym c.remembered.ensures.same) c.in_ok-made.ensures.known)

pub simplified-returns-clause-rule : goal.simplified-returns-clause-rule
simplified-returns-clause-rule g t c =
    if_share c.remembered.result c.in_ok-made.made (λ d. Simplifies (tree_of c.args.f.now) (tree_of c.args.c.now) (tree_of d)) c.remembered.ensures.answer c.in_ok-made.ensures.rule

pub simplified-remembered-requires-clause-a : goal.simplified-remembered-requires-clause-a
simplified-remembered-requires-clause-a g t c = known_stays c.args.algebra.now c.simplified_anew.new.algebra c.in_ok-made.ensures.knows c.args.f.now c.requires.f.known

pub simplified-remembered-requires-clause-b : goal.simplified-remembered-requires-clause-b
simplified-remembered-requires-clause-b g t c = known_stays c.args.algebra.now c.simplified_anew.new.algebra c.in_ok-made.ensures.knows c.args.c.now c.requires.c.known

-- ---- simplified_anew

pub simplified_anew-simplified_at-d-requires : goal.simplified_anew-simplified_at-d-requires
simplified_anew-simplified_at-d-requires g t c =
    let l = level_view c.in-Some.level in
    let h = c.args.algebra.now in
    let more = c.in_ok-made-in-Some.ensures.knows in
    let low = c.in_ok-made-in-Some.ensures.lowered in
    let d = c.decreases in λ κs o. (
      omega (arith, d),
      (
        o,
        (
          diagram_stays h c.lowered.new.algebra c.args.f.now more c.requires.f,
          (
            record {
              known = c.region.ensures.known c.lowered.new.algebra c.in_ok-made-in-Some.ensures.known (known_stays h c.lowered.new.algebra more c.args.c.now c.requires.c.known);
              reduced = subst (λ (z : Plain). IsReduced z) (sym c.region.ensures.part) low.lowers.reduced;
            },
            (
              c.in-Some.ensures,
              (
                subst (λ (z : Plain). z ≡ truth false → ⊥) (sym c.region.ensures.part) low.lowers.not_false,
                subst (λ (z : Plain). is_above_plain l z ≡ false) (sym c.region.ensures.part) low.not_above,
              ),
            ),
          ),
        ),
      ),
    )

pub simplified_anew-returns-in_ok-made-in-Some-clause-knows : goal.simplified_anew-returns-in_ok-made-in-Some-clause-knows
simplified_anew-returns-in_ok-made-in-Some-clause-knows g t c = knows_then _ _ _ c.in_ok-made-in-Some.ensures.knows c.simplified_at-d.ensures.knows

pub simplified_anew-returns-in_ok-made-in-Some-clause-known : goal.simplified_anew-returns-in_ok-made-in-Some-clause-known
simplified_anew-returns-in_ok-made-in-Some-clause-known g t c = if_handed c.simplified_at-d.result c.made_from.result (λ d. Known c.simplified_at-d.new.algebra d) c.made_from.ensures c.simplified_at-d.ensures.known

pub simplified_anew-returns-in_ok-made-in-Some-clause-rule : goal.simplified_anew-returns-in_ok-made-in-Some-clause-rule
simplified_anew-returns-in_ok-made-in-Some-clause-rule g t c =
    let f = tree_of c.args.f.now in
    let r = tree_of c.args.c.now in
    let w = tree_of c.region.result.now in
    if_handed c.simplified_at-d.result c.made_from.result (λ d. Simplifies f r (tree_of d)) c.made_from.ensures
    (made_then c.simplified_at-d.result (λ d. Simplifies f w (tree_of d)) (λ d. Simplifies f r (tree_of d))
    (λ d s. lowered_done f r _ (tree_of d) (level_view c.in-Some.level) c.in-Some.ensures c.in_ok-made-in-Some.ensures.lowered (subst (λ (z : Plain). Simplifies f z (tree_of d)) c.region.ensures.part s))
    c.simplified_at-d.ensures.rule)

pub simplified_anew-returns-in-None-clause-rule : goal.simplified_anew-returns-in-None-clause-rule
simplified_anew-returns-in-None-clause-rule g t c =
    let f = tree_of c.args.f.now in
    let r = tree_of c.args.c.now in
    if_share c.share.result c.args.f.now (λ d. Simplifies f r (tree_of d)) c.share.ensures (truth_done f r f c.in-None.ensures refl)

-- ---- simplified_at

pub simplified_at-returns-then-known-clause-rule : goal.simplified_at-returns-then-known-clause-rule
simplified_at-returns-then-known-clause-rule g t c =
    let f = tree_of c.args.f.now in
    let r = tree_of c.args.region.now in
    if_share c.share.result c.args.f.now (λ d. Simplifies f r (tree_of d)) c.share.ensures (all_done f r f (sym c.known.ensures ∙ c.if-known.true) refl)

pub simplified_at-piece-rest-requires : goal.simplified_at-piece-rest-requires
simplified_at-piece-rest-requires g t c =
    let l = level_view c.args.level in
    let f = tree_of c.args.f.now in
    let r = tree_of c.args.region.now in
    let h = c.args.algebra.now in
    let more = c.results-found.ensures.knows in
    let m = rest_smaller l f (tree_of c.rest_at-other.result.now) c.requires.top c.rest_at-other.ensures.part in
    let d = c.decreases in λ κs o. (
      omega (arith, m, d),
      (
        o,
        (
          part_diagram h c.results-found.new.algebra c.args.f.now c.rest_at-other.result.now (rest_at l f) more c.requires.f c.rest_at-other.ensures.below c.rest_at-other.ensures.part (tree_rest l f c.requires.top c.requires.f.reduced),
          part_diagram h c.results-found.new.algebra c.args.region.now c.rest_at.result.now (rest_at l r) more c.requires.region c.rest_at.ensures.below c.rest_at.ensures.part (region_rest l r c.requires.not_above c.requires.region.reduced),
        ),
      ),
    )

-- what the calls told of the results holds of what was handed on
told : (g : _) (t : ℕ) (c : simplified_at-In_ok-pieces g t) (P : Vec (Key × Option Seen) Global → Type 0) → IfOk c.results-found.result P → P c.in_ok-pieces.pieces
told g t c P h = subst P (sym c.in_ok-pieces.ensures.0) (made_holds c.results-found.result c.in_ok-results.results P c.in_ok-results.ensures h)

rest_told : (g : _) (t : ℕ) (c : simplified_at-In_ok-pieces g t) (P : Option Seen → Type 0) → IfOk c.piece-rest.result P → P c.in_ok-pieces.rest
rest_told g t c P h = made_holds c.piece-rest.result c.in_ok-pieces.rest P c.in_ok-pieces.ensures.1 h

-- the level put together from the results
settles : (g : _) (t : ℕ) (c : simplified_at-In_ok-pieces g t) → Simplifies (tree_of c.args.f.now) (tree_of c.args.region.now)
    (settled_level (level_view c.args.level) (result_diagrams c.in_ok-pieces.pieces.items) (option_map tree_of c.in_ok-pieces.rest) (rest_at (level_view c.args.level) (tree_of c.args.f.now)))
settles g t c =
    let l = level_view c.args.level in
    let f = tree_of c.args.f.now in
    let r = tree_of c.args.region.now in
    let rs = result_diagrams c.in_ok-pieces.pieces.items in
    let o = option_map tree_of c.in_ok-pieces.rest in
    level_done f r (settled_level l rs o (rest_at l f)) l (keys_view c.in_ok-keys.keys.items) rs o c.requires.top c.requires.not_above c.requires.not_false
    (sym c.known.ensures ∙ c.if-known.false) c.in_ok-keys.ensures.keys
    (subst (λ (z : List Key). Pieces l f r (keys_view z) rs) c.deref.ensures.value (told g t c _ c.results-found.ensures.pieces))
    (subst (λ (z : Plain). Piece z (rest_at l r) o) c.rest_at-other.ensures.part (subst (λ (z : Plain). Piece (tree_of c.rest_at-other.result.now) z o) c.rest_at.ensures.part (rest_told g t c _ c.piece-rest.ensures.piece)))
    refl

pub simplified_at-returns-clause-rule : goal.simplified_at-returns-clause-rule
simplified_at-returns-clause-rule g t c =
    let l = level_view c.args.level in
    let f = tree_of c.args.f.now in
    let r = tree_of c.args.region.now in
    let settled = settled_level l (result_diagrams c.in_ok-pieces.pieces.items) (option_map tree_of c.in_ok-pieces.rest) in
    made_then c.settled.result (λ d. tree_of d ≡ settled (tree_of c.rest_at-other.result.now)) (λ d. Simplifies f r (tree_of d))
    (λ d e. subst (λ (z : Plain). Simplifies f r z) (sym (e ∙ ap settled c.rest_at-other.ensures.part)) (settles g t (goal.at.simplified_at-returns-clause-rule g t c).In_ok-pieces)) c.settled.ensures.tree

pub simplified_at-settled-requires-clause-kinds : goal.simplified_at-settled-requires-clause-kinds
simplified_at-settled-requires-clause-kinds g t c = told g t (goal.at.simplified_at-settled-requires-clause-kinds g t c).In_ok-pieces _ c.results-found.ensures.kinds

pub simplified_at-settled-requires-clause-rest_known : goal.simplified_at-settled-requires-clause-rest_known
simplified_at-settled-requires-clause-rest_known g t c = rest_told g t (goal.at.simplified_at-settled-requires-clause-rest_known g t c).In_ok-pieces _ c.piece-rest.ensures.known

pub simplified_at-settled-requires-clause-results_reduced : goal.simplified_at-settled-requires-clause-results_reduced
simplified_at-settled-requires-clause-results_reduced g t c =
    let l = level_view c.args.level in
    let f = tree_of c.args.f.now in
    let r = tree_of c.args.region.now in
    results_reduced (told g t (goal.at.simplified_at-settled-requires-clause-results_reduced g t c).In_ok-pieces _ c.results-found.ensures.pieces) (λ v. tree_part l v f c.requires.top c.requires.f.reduced) (λ v. region_part l v r c.requires.not_above c.requires.region.reduced)

pub simplified_at-settled-requires-clause-rest_reduced : goal.simplified_at-settled-requires-clause-rest_reduced
simplified_at-settled-requires-clause-rest_reduced g t c =
    let l = level_view c.args.level in
    let f = tree_of c.args.f.now in
    let r = tree_of c.args.region.now in
    result_reduced (tree_of c.rest_at-other.result.now) (tree_of c.rest_at.result.now) (option_map tree_of c.in_ok-pieces.rest) (rest_told g t (goal.at.simplified_at-settled-requires-clause-rest_reduced g t c).In_ok-pieces _ c.piece-rest.ensures.piece)
    (subst (λ (z : Plain). IsReduced z) (sym c.rest_at-other.ensures.part) (tree_rest l f c.requires.top c.requires.f.reduced))
    (subst (λ (z : Plain). IsReduced z) (sym c.rest_at.ensures.part) (region_rest l r c.requires.not_above c.requires.region.reduced))

pub simplified_at-settled-requires-clause-otherwise_reduced : goal.simplified_at-settled-requires-clause-otherwise_reduced
simplified_at-settled-requires-clause-otherwise_reduced g t c =
    subst (λ (z : Plain). IsReduced z) (sym c.rest_at-other.ensures.part) (tree_rest (level_view c.args.level) (tree_of c.args.f.now) c.requires.top c.requires.f.reduced)

pub simplified_at-settled-requires-clause-reduced : goal.simplified_at-settled-requires-clause-reduced
simplified_at-settled-requires-clause-reduced g t c =
    let l = level_view c.args.level in
    let rs = result_diagrams c.in_ok-pieces.pieces.items in
    let o = option_map tree_of c.in_ok-pieces.rest in
    subst (λ (z : Plain). IsReduced (settled_level l rs o z)) (sym c.rest_at-other.ensures.part)
    (simpler_reduced (tree_of c.args.f.now) (tree_of c.args.region.now) (settled_level l rs o (rest_at l (tree_of c.args.f.now)))
    (settles g t (goal.at.simplified_at-settled-requires-clause-reduced g t c).In_ok-pieces) c.requires.f.reduced c.requires.region.reduced)

pub simplified_at-settled-requires-clause-results_known : goal.simplified_at-settled-requires-clause-results_known
simplified_at-settled-requires-clause-results_known g t c =
    all_more (λ r. OwnKnown c.results-found.new.algebra r.1) (λ r. OwnKnown c.piece-rest.new.algebra r.1) c.in_ok-pieces.pieces.items (λ r k. own_more c.results-found.new.algebra c.piece-rest.new.algebra c.piece-rest.ensures.knows r.1 k)
    (told g t (goal.at.simplified_at-settled-requires-clause-results_known g t c).In_ok-pieces _ c.results-found.ensures.known)

pub simplified_at-settled-requires-clause-otherwise_known : goal.simplified_at-settled-requires-clause-otherwise_known
simplified_at-settled-requires-clause-otherwise_known g t c =
    c.rest_at-other.ensures.below c.piece-rest.new.algebra (known_stays c.args.algebra.now c.piece-rest.new.algebra (knows_then _ _ _ c.results-found.ensures.knows c.piece-rest.ensures.knows) c.args.f.now c.requires.f.known)

pub simplified_at-returns-in_err-pieces-clause-knows : goal.simplified_at-returns-in_err-pieces-clause-knows
simplified_at-returns-in_err-pieces-clause-knows g t c = knows_then _ _ _ c.results-found.ensures.knows c.piece-rest.ensures.knows

pub simplified_at-returns-clause-knows : goal.simplified_at-returns-clause-knows
simplified_at-returns-clause-knows g t c = knows_then _ _ _ c.results-found.ensures.knows (knows_then _ _ _ c.piece-rest.ensures.knows c.settled.ensures.knows)
