use Rattle.std.proofs.Common.{ap, ◌∙◌, arith, subst}
use Rattle.ul_nodes.specs.Plain.{Plain}
use Rattle.ul_nodes.specs.Reduced.{IsReduced}
use Rattle.ul_tree.specs.Views.{tree_view}
use Rattle.ul_nodes.specs.Keys.{branch_count, branches_of}
use Rattle.ul_tree.proofs.Shapes.{view_extra, view_python, view_text, points_count, pieces_count}
use Rattle.ul_tree.proofs.part.branch_count.Goals as goal

pub returns-in-Extra : goal.returns-in-Extra
returns-in-Extra c =
    let e = ap (λ t. branch_count (branches_of (tree_view t))) c.in-Extra.is ∙ ap (λ t. branch_count (branches_of t)) (view_extra c.in-Extra.points c.in-Extra.other) ∙ points_count c.in-Extra.points.items in
    omega (arith, c.len.ensures, c.in-Extra.points.ok, e)

pub returns-in-Text : goal.returns-in-Text
returns-in-Text c =
    let e = ap (λ t. branch_count (branches_of (tree_view t))) c.in-Text.is ∙ ap (λ t. branch_count (branches_of t)) (view_text c.in-Text.variable c.in-Text.points c.in-Text.other) ∙ points_count c.in-Text.points.items in
    omega (arith, c.len-in-Text.ensures, c.in-Text.points.ok, e)

pub returns-in-Python : goal.returns-in-Python
returns-in-Python c =
    let v = ap tree_view c.in-Python.is ∙ view_python c.in-Python.starts c.in-Python.parts in
    let n = pieces_count c.in-Python.starts.items c.in-Python.parts.items (subst (λ (t : Plain). IsReduced t) v c.requires) in
    let e = ap (λ t. branch_count (branches_of t)) v in
    omega (arith, n, e, c.len-in-Python.ensures, c.in-Python.starts.ok)
