use Rattle.std.proofs.Common.{◌≡◌, ◌≢◌, false, ◌<◌, ◌++◌, ◌∷◌, [], List, Option, Global, Vec, ap, sym, ◌∙◌, refl, subst, arith}
use Rattle.std.specs.Option.{option_map}
use Rattle.std.proofs.lemmas.Result.{IfOk-weaker}
use Rattle.ul_nodes.specs.Plain.{Plain, truth}
use Rattle.ul_nodes.specs.Reduced.{IsReduced}
use Rattle.ul_nodes.specs.Apply.{size, rest_at}
use Rattle.ul_tree.specs.Views.{tree_view}
use Rattle.ul_nodes.specs.Keys.{level_view, keys_view, AreKeysOf, KeysOf}
use Rattle.ul_nodes.specs.Rows.{results_view}
use Rattle.ul_tree.specs.Simplify.{Simplifies, Pieces, Piece, settled_level}
use Rattle.ul_tree.specs.SimplifyViews.{is_above}
use Rattle.ul_tree.proofs.SimplifySteps.{not_false_is, tree_part, tree_rest, region_part, region_rest, part_smaller, rest_smaller, piece_outside, piece_inside, truth_done, all_done, lowered_done, level_done, result_reduced, results_reduced, simpler_reduced}
use Rattle.ul_base.proofs.ForCallers.{made_holds}
use Rattle.ul_tree.proofs.PartRegions.{stands_as}
use Rattle.ul_tree.proofs.PiecesInCode.{results_step, results_end, kind_step}
use Rattle.ul_nodes.specs.declared.level.Key.{Key}
use Rattle.ul_tree.specs.declared.tree.Tree.{Tree}
use Rattle.ul_tree.proofs.simplify.+simplify.Goals as goal

pub piece-returns-then-is_false : goal.piece-returns-then-is_false
piece-returns-then-is_false t c = piece_outside (tree_view c.args.whole.now) (tree_view c.args.within.now) (sym c.is_false.ensures ∙ c.if-is_false.true)

pub piece-returns : goal.piece-returns
piece-returns t c = piece_inside (tree_view c.args.whole.now) (tree_view c.args.within.now) (tree_view c.in_ok-tree.tree) (sym c.is_false.ensures ∙ c.if-is_false.false) c.in_ok-tree.ensures

pub results-piece-result-requires : goal.results-piece-result-requires
results-piece-result-requires t c =
    let l = level_view c.args.level in
    let f = tree_view c.args.whole.now in
    let r = tree_view c.args.region.now in
    let m : size (tree_view c.part_at.result.now) < size f = part_smaller l _ f (tree_view c.part_at.result.now) c.requires.top c.part_at.ensures.part in
    let d = c.decreases in (
      omega (arith, m, d),
      (
        subst (λ (z : Plain). IsReduced z) (sym c.part_at.ensures.part) (tree_part l _ f c.requires.top c.requires.whole_reduced),
        subst (λ (z : Plain). IsReduced z) (sym c.part_at-in-loop-key.ensures.part) (region_part l _ r c.requires.not_above c.requires.region_reduced),
      ),
    )

pub results-returns-clause-pieces : goal.results-returns-clause-pieces
results-returns-clause-pieces t c =
    results_end tree_view (level_view c.args.level) (tree_view c.args.whole.now) (tree_view c.args.region.now) c.args.keys.now c.loop-key.key-index c.loop-key.made.items (omega arith) c.loop-key.invariant.pieces

pub simplified-returns-in-None : goal.simplified-returns-in-None
simplified-returns-in-None t c =
    IfOk-weaker c.copy.result _ _ (λ tree is. truth_done (tree_view c.args.whole.now) (tree_view c.args.within.now) (tree_view tree) c.in-None.ensures is) c.copy.ensures

pub simplified_at-returns-then-known : goal.simplified_at-returns-then-known
simplified_at-returns-then-known t c =
    IfOk-weaker c.copy.result _ _ (λ tree is. all_done (tree_view c.args.whole.now) (tree_view c.args.region.now) (tree_view tree) (sym c.known.ensures ∙ c.if-known.true) is) c.copy.ensures

pub results-loop-key-preserved : goal.results-loop-key-preserved
results-loop-key-preserved t c =
    let l = level_view c.args.level in
    let before = c.loop-key.made.items in
    let after = c.in_ok-made.made.items in
    let more = c.in_ok-made.ensures in
    let one = more.0 in
    let pair = made_holds c.beside.result one _ more.1 c.beside.ensures in
    let found = made_holds c.piece-result.result one.1 _ pair.1 c.piece-result.ensures in
    let is = more.2 ∙ ap (λ k. before ++ (k, one.1) ∷ []) pair.0 in
    record {
      pieces = results_step tree_view l (tree_view c.args.whole.now) (tree_view c.args.region.now) c.args.keys.now c.loop-key.key-index _ one.1 before after
          (tree_view c.part_at.result.now) (tree_view c.part_at-in-loop-key.result.now) c.loop-key-test.true is c.part_at.ensures.part c.part_at-in-loop-key.ensures.part found c.loop-key.invariant.pieces;
      kinds = kind_step l c.args.keys.now c.loop-key.key-index _ one.1 before after c.loop-key-test.true is c.requires.kinds c.loop-key.invariant.kinds;
    }

pub pieces-piece-rest-requires : goal.pieces-piece-rest-requires
pieces-piece-rest-requires t c =
    let l = level_view c.args.level in
    let f = tree_view c.args.whole.now in
    let w = tree_view c.args.lower.now in
    let s = c.requires.lower in
    let m = rest_smaller l f (tree_view c.rest_at.result.now) c.requires.top c.rest_at.ensures.part in
    let d = c.decreases in (
      omega (arith, m, d),
      (
        subst (λ (z : Plain). IsReduced z) (sym c.rest_at.ensures.part) (tree_rest l f c.requires.top c.requires.whole_reduced),
        subst (λ (z : Plain). IsReduced z) (sym c.rest_at-2.ensures.part) (region_rest l w s.not_above s.reduced),
      ),
    )

pub pieces-returns-clause-settled : goal.pieces-returns-clause-settled
pieces-returns-clause-settled t c =
    let l = level_view c.args.level in
    let f = tree_view c.args.whole.now in
    let r = tree_view c.args.region.now in
    let w = tree_view c.args.lower.now in
    let s = c.requires.lower in
    let found = made_holds c.results.result c.in_ok-results.results _ c.in_ok-results.ensures c.results.ensures.pieces in
    IfOk-weaker c.beside.result _ _
    (λ both told.
    let rs = results_view tree_view both.0.items in
    let o = option_map tree_view both.1 in
    let pieces = subst (λ (z : Vec (Key × Option Tree) Global). Pieces l f w (keys_view c.deref.result.now) (results_view tree_view z.items)) (sym told.0) found in
    let rest = made_holds c.piece-rest.result both.1 _ told.1 c.piece-rest.ensures in
    level_done f r (settled_level l rs o (rest_at l f)) l (keys_view c.in_ok-keys.keys.items) rs o c.requires.top c.requires.not_above c.requires.not_false c.requires.not_true c.in_ok-keys.ensures.keys
    (subst (λ (z : List Key). Pieces l f r (keys_view z) rs) c.deref.ensures.value (s.parts _ rs pieces))
    (s.rest o (subst (λ (z : Plain). Piece z (rest_at l w) o) c.rest_at.ensures.part (subst (λ (z : Plain). Piece (tree_view c.rest_at.result.now) z o) c.rest_at-2.ensures.part rest)))
    refl)
    c.beside.ensures

pub pieces-returns-clause-results_reduced : goal.pieces-returns-clause-results_reduced
pieces-returns-clause-results_reduced t c =
    let l = level_view c.args.level in
    let f = tree_view c.args.whole.now in
    let w = tree_view c.args.lower.now in
    let s = c.requires.lower in
    let found = made_holds c.results.result c.in_ok-results.results _ c.in_ok-results.ensures c.results.ensures.pieces in
    IfOk-weaker c.beside.result _ _
    (λ both told.
    let pieces = subst (λ (z : Vec (Key × Option Tree) Global). Pieces l f w (keys_view c.deref.result.now) (results_view tree_view z.items)) (sym told.0) found in
    results_reduced pieces (λ v. tree_part l v f c.requires.top c.requires.whole_reduced) (λ v. region_part l v w s.not_above s.reduced))
    c.beside.ensures

pub pieces-returns-clause-rest_reduced : goal.pieces-returns-clause-rest_reduced
pieces-returns-clause-rest_reduced t c =
    let l = level_view c.args.level in
    let f = tree_view c.args.whole.now in
    let w = tree_view c.args.lower.now in
    let s = c.requires.lower in
    IfOk-weaker c.beside.result _ _
    (λ both told.
    result_reduced (tree_view c.rest_at.result.now) (tree_view c.rest_at-2.result.now) (option_map tree_view both.1) (made_holds c.piece-rest.result both.1 _ told.1 c.piece-rest.ensures)
    (subst (λ (z : Plain). IsReduced z) (sym c.rest_at.ensures.part) (tree_rest l f c.requires.top c.requires.whole_reduced))
    (subst (λ (z : Plain). IsReduced z) (sym c.rest_at-2.ensures.part) (region_rest l w s.not_above s.reduced)))
    c.beside.ensures

pub simplified-returns-in_ok-made-in-Some : goal.simplified-returns-in_ok-made-in-Some
simplified-returns-in_ok-made-in-Some t c =
    let f = tree_view c.args.whole.now in
    let w = tree_view c.args.within.now in
    IfOk-weaker c.made_from.result _ _
    (λ tree is.
    let made = made_holds c.simplified_at.result tree _ is c.simplified_at.ensures in
    lowered_done f w _ (tree_view tree) (level_view c.in-Some.level) c.in-Some.ensures c.in_ok-made-in-Some.ensures (subst (λ (z : Plain). Simplifies f z (tree_view tree)) c.standing_region-region.ensures made))
    c.made_from.ensures

pub simplified_at-settled-requires-clause-otherwise_reduced : goal.simplified_at-settled-requires-clause-otherwise_reduced
simplified_at-settled-requires-clause-otherwise_reduced t c =
    subst (λ (z : Plain). IsReduced z) (sym c.rest_at.ensures.part) (tree_rest (level_view c.args.level) (tree_view c.args.whole.now) c.requires.top c.requires.whole_reduced)

pub simplified_at-settled-requires-clause-reduced : goal.simplified_at-settled-requires-clause-reduced
simplified_at-settled-requires-clause-reduced t c =
    let l = level_view c.args.level in
    let f = tree_view c.args.whole.now in
    let results = c.in_ok-results.results in
    let rest = c.in_ok-results.rest in
    let rs = results_view tree_view results.items in
    let o = option_map tree_view rest in
    let settles = made_holds c.pieces-found.result (results, rest) _ c.in_ok-results.ensures c.pieces-found.ensures.settled in
    subst (λ (z : Plain). IsReduced (settled_level l rs o z)) (sym c.rest_at.ensures.part)
    (simpler_reduced f (tree_view c.args.region.now) (settled_level l rs o (rest_at l f)) settles c.requires.whole_reduced c.requires.region_reduced)

pub piece-simplified-requires : goal.piece-simplified-requires
piece-simplified-requires t c =
    let d = c.decreases in
    (omega (arith, d), (c.requires.whole_reduced, (c.requires.within_reduced, not_false_is (tree_view c.args.within.now) (sym c.is_false.ensures ∙ c.if-is_false.false))))

pub pieces-results-requires : goal.pieces-results-requires
pieces-results-requires t c =
    let s = c.requires.lower in
    let d = c.decreases in
    (omega (arith, d), (c.requires.whole_reduced, (c.requires.top, (s.reduced, (s.not_above, subst (λ (z : List Key). AreKeysOf (level_view c.args.level) z) (sym c.deref.ensures.value) c.in_ok-keys.ensures.kinds)))))

pub simplified-simplified_at-requires : goal.simplified-simplified_at-requires
simplified-simplified_at-requires t c =
    let low = c.in_ok-made-in-Some.ensures in
    let e = sym c.standing_region-region.ensures in
    let d = c.decreases in (
      omega (arith, d),
      (
        c.requires.whole_reduced,
        (
          c.in-Some.ensures,
          (
            subst (λ (z : Plain). IsReduced z) e low.lowers.reduced,
            (subst (λ (z : Plain). z ≢ truth false) e low.lowers.not_false, subst (λ (z : Plain). is_above (level_view c.in-Some.level) z ≡ false) e low.not_above),
          ),
        ),
      ),
    )

pub simplified_at-pieces-found-requires : goal.simplified_at-pieces-found-requires
simplified_at-pieces-found-requires t c =
    let l = level_view c.args.level in
    let f = tree_view c.args.whole.now in
    let r = tree_view c.args.region.now in
    let w = tree_view c.standing_region-lower.result.now in
    let q = c.requires in
    let d = c.decreases in (
      omega (arith, d),
      (
        q.whole_reduced,
        (q.top, (q.region_reduced, (q.not_false, (sym c.known.ensures ∙ c.if-known.false, (q.not_above, stands_as l f r _ w c.standing_region-lower.ensures c.in_ok-made.ensures))))),
      ),
    )

pub simplified_at-returns : goal.simplified_at-returns
simplified_at-returns t c =
    let l = level_view c.args.level in
    let results = c.in_ok-results.results in
    let rest = c.in_ok-results.rest in
    IfOk-weaker c.settled.result _ _
    (λ tree is.
    subst (λ (z : Plain). Simplifies (tree_view c.args.whole.now) (tree_view c.args.region.now) z)
    (sym (is ∙ ap (settled_level l (results_view tree_view results.items) (option_map tree_view rest)) c.rest_at.ensures.part))
    (made_holds c.pieces-found.result (results, rest) _ c.in_ok-results.ensures c.pieces-found.ensures.settled))
    c.settled.ensures

pub simplified_at-settled-requires-clause-kinds : goal.simplified_at-settled-requires-clause-kinds
simplified_at-settled-requires-clause-kinds t c = made_holds c.pieces-found.result (c.in_ok-results.results, c.in_ok-results.rest) _ c.in_ok-results.ensures c.pieces-found.ensures.kinds

pub simplified_at-settled-requires-clause-results_reduced : goal.simplified_at-settled-requires-clause-results_reduced
simplified_at-settled-requires-clause-results_reduced t c = made_holds c.pieces-found.result (c.in_ok-results.results, c.in_ok-results.rest) _ c.in_ok-results.ensures c.pieces-found.ensures.results_reduced

pub simplified_at-settled-requires-clause-rest_reduced : goal.simplified_at-settled-requires-clause-rest_reduced
simplified_at-settled-requires-clause-rest_reduced t c = made_holds c.pieces-found.result (c.in_ok-results.results, c.in_ok-results.rest) _ c.in_ok-results.ensures c.pieces-found.ensures.rest_reduced

pub pieces-returns-clause-kinds : goal.pieces-returns-clause-kinds
pieces-returns-clause-kinds t c =
    IfOk-weaker c.beside.result _ _
    (λ both told.
    subst (λ (z : Vec (Key × Option Tree) Global). KeysOf (level_view c.args.level) z.items) (sym told.0)
    (made_holds c.results.result c.in_ok-results.results _ c.in_ok-results.ensures c.results.ensures.kinds))
    c.beside.ensures
