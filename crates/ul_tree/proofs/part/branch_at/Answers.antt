use Rattle.std.proofs.Common.{◌≡◌, ◌<◌, ◌+◌, suc, ap, sym, ◌∙◌, arith, subst, length, get_or, add-one, ◌∷◌, []}
use Rattle.std.proofs.lemmas.List.{get_or_read}
use Rattle.ul_nodes.specs.Plain.{Plain, branch}
use Rattle.ul_nodes.specs.Reduced.{IsReduced}
use Rattle.ul_tree.specs.Views.{tree_view}
use Rattle.ul_nodes.specs.Keys.{branch_count, branches_of, branches_from}
use Rattle.ul_tree.proofs.Shapes.{view_extra, view_python, view_text, points_count, pieces_count, has_pieces, python_from}
use Rattle.ul_tree.proofs.part.branch_at.Goals as goal
use Rattle.ul_tree.proofs.part.branch_at.Goals.{In-Python}

pub point_at-requires : goal.point_at-requires
point_at-requires c =
    let e = ap (λ t. branch_count (branches_of (tree_view t))) c.in-Extra.is ∙ ap (λ t. branch_count (branches_of t)) (view_extra c.in-Extra.points c.in-Extra.other) ∙ points_count c.in-Extra.points.items in
    omega (arith, e, ap length c.deref.ensures.value, c.requires.within)

pub point_at-requires-in-Text : goal.point_at-requires-in-Text
point_at-requires-in-Text c =
    let e = ap (λ t. branch_count (branches_of (tree_view t))) c.in-Text.is ∙ ap (λ t. branch_count (branches_of t)) (view_text c.in-Text.variable c.in-Text.points c.in-Text.other) ∙ points_count c.in-Text.points.items in
    omega (arith, e, ap length c.deref-in-Text.ensures.value, c.requires.within)

-- a place after the first, of starts and of parts
place_within : (c : In-Python) → (c.args.index + 1 < length c.in-Python.starts.items) × (c.args.index + 1 < length c.in-Python.parts.items)
place_within c =
    let v = ap tree_view c.in-Python.is ∙ view_python c.in-Python.starts c.in-Python.parts in
    let r = subst (λ (t : Plain). IsReduced t) v c.requires.reduced in
    let n = pieces_count c.in-Python.starts.items c.in-Python.parts.items r in
    let e = ap (λ t. branch_count (branches_of t)) v in
    let p = (has_pieces c.in-Python.starts.items c.in-Python.parts.items r).even in
    (omega (arith, n, e, p, c.requires.within), omega (arith, n, e, p, c.requires.within))

pub overflow_add-place : goal.overflow_add-place
overflow_add-place c = let p = (place_within (goal.at.overflow_add-place c).In-Python).0 in omega (arith, p, c.in-Python.starts.ok, c.in-Python.starts.small)

pub index-requires : goal.index-requires
index-requires c = let p = (place_within (goal.at.index-requires c).In-Python).0 in omega (arith, p, c.in-Python.starts.ok)

pub index-requires-in-Python : goal.index-requires-in-Python
index-requires-in-Python c = let p = (place_within (goal.at.index-requires-in-Python c).In-Python).1 in omega (arith, p, c.in-Python.parts.ok)

pub returns-in-Python-clause-found : goal.returns-in-Python-clause-found
returns-in-Python-clause-found c =
    let i = c.args.index in
    let ss = c.in-Python.starts.items in
    let ts = c.in-Python.parts.items in
    let w = place_within (goal.at.returns-in-Python-clause-found c).In-Python in
    let v = ap tree_view c.in-Python.is ∙ view_python c.in-Python.starts c.in-Python.parts in
    let p : suc i < length ss = omega (arith, w.0) in
    let bs = branches_of (tree_view c.args.tree.now) in
    let r : branches_from i bs ≡ branch (get_or ss (suc i) 0 ∷ []) (tree_view (get_or ts (suc i) c.index-in-Python.result.now)) (branches_from (suc i) bs) =
    rw v (python_from ss ts i c.index-in-Python.result.now (subst (λ (t : Plain). IsReduced t) v c.requires.reduced) p) in
    r
    ∙ ap (λ j. branch (get_or ss j 0 ∷ []) (tree_view (get_or ts j c.index-in-Python.result.now)) (branches_from (suc i) bs)) (sym (add-one i))
    ∙ ap (λ n. branch (n ∷ []) (tree_view (get_or ts (i + 1) c.index-in-Python.result.now)) (branches_from (suc i) bs)) (sym (get_or_read ss (i + 1) c.index.result.now w.0 c.index.ensures 0))
    ∙ ap (λ t. branch (c.index.result.now ∷ []) (tree_view t) (branches_from (suc i) bs)) (sym c.index-in-Python.ensures)
