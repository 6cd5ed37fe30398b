use Rattle.std.proofs.Common.{◌≡◌, ◌<◌, ◌≤◌, ◌+◌, ◌-◌, ap, sym, ◌∙◌, subst, arith, length, get_or, List, drop, take, ◌++◌, ◌∷◌, []}
use Rattle.std.specs.Prelude.{Vec}
use Rattle.std.specs.declared.alloc.Global.{Global}
use Rattle.std.proofs.lemmas.List.{map-append, length-drop}
use Rattle.std.proofs.lemmas.Result.{IfOk-weaker}
use Rattle.ul_tree.specs.Fans.{parts_of, tree_of}
use Rattle.ul_nodes.specs.Keys.{level_view}
use Rattle.ul_tree.specs.PathLaws.{step_level}
use Rattle.ul_tree.specs.Views.{tree_view}
use Rattle.ul_marker_text.specs.Nodes.{Part, Keeps, KeepFirst, front_count, parts_view}
use Rattle.ul_marker_text.specs.StepViews.{above_view, fan_from, paths_from, step_view}
use Rattle.ul_marker_text.specs.declared.steps.Step.{Step}
use Rattle.ul_marker_text.proofs.BuildFacts.{built, first_built, group_kept, ended_kept, none_kept, rest_slice}
use Rattle.ul_marker_text.proofs.Grouped.{group_fan, group_some}
use Rattle.ul_marker_text.proofs.Levels.{within_drop, within_take}
use Rattle.ul_marker_text.proofs.NodeFacts.{parts_fit}
use Rattle.ul_marker_text.proofs.building.+build.Goals as goal

pub build-node_of-requires-clause-parts : goal.build-node_of-requires-clause-parts
build-node_of-requires-clause-parts t c = parts_fit _ (parts_view c.in_ok-parts.parts.items) (level_view c.step_level-level.result) c.in_ok-parts.ensures

pub build-node_of-requires-clause-level : goal.build-node_of-requires-clause-level
build-node_of-requires-clause-level t c =
    let d = c.first-item.result in
    let e = c.index.result.now in
    let place = c.args.place in
    let k0 : place < length d.items = omega (arith, c.len.ensures, c.if-len-place.false, d.ok) in
    let k = subst (λ (r : Vec Step Global). place < length r.items) c.first-item.is k0 in
    let f = c.step_level-level.ensures ∙ ap (λ z. step_level (step_view z)) (c.index.ensures ∙ ap (λ r. get_or r.items place e) c.first-item.is) in
    first_built _ _ _ _ (level_view c.step_level-level.result) (parts_view c.in_ok-parts.parts.items) (group_fan c.args.paths.now 0 place d e c.in-len1-up.len_at_least k) f c.in_ok-parts.ensures

pub build-returns : goal.build-returns
build-returns t c =
    let d = c.first-item.result in
    let e = c.index.result.now in
    let place = c.args.place in
    let k0 : place < length d.items = omega (arith, c.len.ensures, c.if-len-place.false, d.ok) in
    let k = subst (λ (r : Vec Step Global). place < length r.items) c.first-item.is k0 in
    let f = c.step_level-level.ensures ∙ ap (λ z. step_level (step_view z)) (c.index.ensures ∙ ap (λ r. get_or r.items place e) c.first-item.is) in
    IfOk-weaker c.node_of.result _ _
    (λ tree kept. built _ _ _ _ (level_view c.step_level-level.result) (above_view c.args.above) (parts_view c.in_ok-parts.parts.items) (tree_view tree)
    (group_fan c.args.paths.now 0 place d e c.in-len1-up.len_at_least k) f c.in_ok-parts.ensures kept) c.node_of.ensures

pub parts-loop-from-smaller : goal.parts-loop-from-smaller
parts-loop-from-smaller t c =
    let d = c.index-paths-from.result in
    let e = c.index.result.now in
    let place = c.args.place in
    let k0 : place < length d.items = omega (arith, c.len.ensures, c.if-len-place.false, d.ok) in
    let k = subst (λ (r : Vec Step Global). place < length r.items) c.index-paths-from.is k0 in
    let same = c.index.ensures ∙ ap (λ r. get_or r.items place e) c.index-paths-from.is in
    let some = group_some c.args.paths.now c.loop-from.from place d e c.loop-from-test.true k in
    let count = c.group_len-count.ensures.count ∙ ap (λ z. front_count (step_view z) (paths_from place (take (length c.args.paths.now - c.loop-from.from) (drop c.loop-from.from c.args.paths.now)))) same
    ∙ ap (λ z. front_count (step_view (get_or (get_or c.args.paths.now c.loop-from.from d).items place e)) (paths_from place z)) (rest_slice c.args.paths.now c.loop-from.from) in
    omega (arith, some, count, c.loop-from-test.true)

pub parts-loop-from-preserved : goal.parts-loop-from-preserved
parts-loop-from-preserved t c =
    let d = c.index-paths-from.result in
    let e = c.index.result.now in
    let place = c.args.place in
    let paths = c.args.paths.now in
    let from = c.loop-from.from in
    let l = level_view c.args.level in
    let made = c.loop-from.made.items in
    let k0 : place < length d.items = omega (arith, c.len.ensures, c.if-len-place.false, d.ok) in
    let k = subst (λ (r : Vec Step Global). place < length r.items) c.index-paths-from.is k0 in
    let same = c.index.ensures ∙ ap (λ r. get_or r.items place e) c.index-paths-from.is in
    let count = c.group_len-count.ensures.count ∙ ap (λ z. front_count (step_view z) (paths_from place (take (length paths - from) (drop from paths)))) same
    ∙ ap (λ z. front_count (step_view (get_or (get_or paths from d).items place e)) (paths_from place z)) (rest_slice paths from) in
    let whole : fan_from (place + 1) (take (from + c.group_len-count.result - from) (drop from paths)) ≡ fan_from (place + 1) (take c.group_len-count.result (drop from paths)) =
    ap (λ z. fan_from (place + 1) (take z (drop from paths))) (omega (arith)) in
    let kept = group_kept paths from place c.group_len-count.result d e l _ (parts_view made) (tree_view c.in_ok-tree.tree) c.loop-from-test.true k count
    (subst (λ z. Keeps l (tree_of z) (tree_view c.in_ok-tree.tree)) whole c.in_ok-tree.ensures) c.loop-from.invariant.kept in
    let q = tree_view c.in_ok-tree.tree in
    let told : parts_view c.push_back.new.self.items ≡ parts_view made ++ (step_view (get_or (get_or paths from d).items place e), q) ∷ [] =
    ap (λ z. parts_view z) c.in_ok-push_back.ensures.items ∙ map-append (λ p. (step_view p.0, tree_view p.1)) made ((e, c.in_ok-tree.tree) ∷ [])
    ∙ ap (λ z. parts_view made ++ (step_view z, q) ∷ []) same in
    let short = subst (λ (z : List (Vec Step Global)). c.group_len-count.result ≤ length z) (rest_slice paths from) c.group_len-count.ensures.within in
    record {
      within = let e1 = length-drop from paths in omega (arith, short, e1, c.loop-from-test.true);
      kept = subst (λ (z : List Part). KeepFirst l (parts_of (fan_from place paths)) z (parts_of (fan_from place (drop (from + c.group_len-count.result) paths)))) (sym told) kept;
    }

pub parts-returns-then-len-place : goal.parts-returns-then-len-place
parts-returns-then-len-place t c = ended_kept c.args.paths.now c.loop-from.from c.args.place c.index-paths-from.result (level_view c.args.level) _ (parts_view c.loop-from.made.items) c.loop-from-test.true (subst (λ (r : Vec Step Global). length r.items ≤ c.args.place) c.index-paths-from.is (omega (arith, c.len.ensures, c.if-len-place.true, c.index-paths-from.result.ok))) c.loop-from.invariant.kept

pub parts-returns : goal.parts-returns
parts-returns t c = none_kept c.args.paths.now c.loop-from.from c.args.place (level_view c.args.level) _ (parts_view c.loop-from.made.items) c.loop-from-test.false c.loop-from.invariant.kept

pub parts-build-requires : goal.parts-build-requires
parts-build-requires t c =
    let d = c.decreases in
    let n = c.args.place + 1 + c.args.room in
    (omega (arith, d), within_take n (drop c.loop-from.from c.args.paths.now) _ (within_drop n c.args.paths.now c.loop-from.from c.requires))
