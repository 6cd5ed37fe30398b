use Rattle.std.proofs.Common.{◌≡◌, ◌∷◌, [], Box, Global, Result, Ok, ap, sym, ◌∙◌, subst}
use Rattle.std.specs.Prelude.{IfOk}
use Rattle.std.specs.declared.alloc.AllocError.{AllocError}
use Rattle.ul_base.proofs.ForCallers.{made_holds}
use Rattle.ul_nodes.specs.Plain.{node, branch, done}
use Rattle.ul_nodes.specs.Levels.{extra_level, text_level, atom_level}
use Rattle.ul_nodes.specs.Closing.{closed_view, IsEven}
use Rattle.ul_nodes.specs.Keys.{level_view}
use Rattle.ul_nodes.specs.declared.closing.Closed.{Closed}
use Rattle.ul_nodes.proofs.ForCallers.{one_mark}
use Rattle.ul_tree.specs.Views.{tree_view, points_view}
use Rattle.ul_tree.specs.declared.tree.Tree.{Tree}
use Rattle.ul_tree.proofs.Shapes.{view_extra, view_python, view_text, view_opaque}
use Rattle.ul_tree.proofs.join.closed.Goals as goal

-- a tree that is there
abbrev given : Tree → Result Tree AllocError
given t = Ok t

-- a value in memory of its own
boxed_is : (t : Tree) (b : Box Tree Global) (made : Result (Box Tree Global) AllocError) → made ≡ Ok b → IfOk made (λ place. given t ≡ Ok place.value) → b.value ≡ t
boxed_is t b made e h = let p : given t ≡ Ok b.value = made_holds made b _ e h in cc

pub closed_level-requires-clause-one : goal.closed_level-requires-clause-one
closed_level-requires-clause-one c = one_mark tree_view (level_view c.args.level) (tree_view c.args.other) c.args.made.items c.requires.reduced

pub returns-in-Part : goal.returns-in-Part
returns-in-Part c = sym (ap (closed_view tree_view) c.in-Part.is) ∙ c.in_ok-lists.ensures.tree tree_view

-- ---- the extra

pub points_of-requires : goal.points_of-requires
points_of-requires c = subst (λ (z : Closed Tree). IsEven z) c.in-Extra.is c.in_ok-lists.ensures.even

pub returns-in_ok-points-in-Extra : goal.returns-in_ok-points-in-Extra
returns-in_ok-points-in-Extra c =
    let points = c.in_ok-points-in-Extra.points in
    let other = c.in_ok-points-in-Extra.other in
    let both = c.in_ok-points-in-Extra.ensures in
    let alone = boxed_is c.in-Extra.other other c.boxed.result both.1 c.boxed.ensures in
    view_extra points other
    ∙ ap (λ t. node extra_level (tree_view t) (points_view points.items)) alone
    ∙ ap (node extra_level (tree_view c.in-Extra.other)) (made_holds c.points_of.result points _ both.0 c.points_of.ensures)
    ∙ sym (ap (closed_view tree_view) c.in-Extra.is) ∙ c.in_ok-lists.ensures.tree tree_view

-- ---- a text variable

pub points_of-requires-in-Text : goal.points_of-requires-in-Text
points_of-requires-in-Text c = subst (λ (z : Closed Tree). IsEven z) c.in-Text.is c.in_ok-lists.ensures.even

pub returns-in_ok-points-in-Text : goal.returns-in_ok-points-in-Text
returns-in_ok-points-in-Text c =
    let l = text_level c.in-Text.variable in
    let points = c.in_ok-points-in-Text.points in
    let other = c.in_ok-points-in-Text.other in
    let both = c.in_ok-points-in-Text.ensures in
    let alone = boxed_is c.in-Text.other other c.boxed-in-Text.result both.1 c.boxed-in-Text.ensures in
    view_text c.in-Text.variable points other
    ∙ ap (λ t. node l (tree_view t) (points_view points.items)) alone
    ∙ ap (node l (tree_view c.in-Text.other)) (made_holds c.points_of-in-Text.result points _ both.0 c.points_of-in-Text.ensures)
    ∙ sym (ap (closed_view tree_view) c.in-Text.is) ∙ c.in_ok-lists.ensures.tree tree_view

-- ---- the interpreter

pub returns-in-Python : goal.returns-in-Python
returns-in-Python c = view_python c.in-Python.starts c.in-Python.parts ∙ sym (ap (closed_view tree_view) c.in-Python.is) ∙ c.in_ok-lists.ensures.tree tree_view

-- ---- an opaque comparison

pub returns-in_ok-atom-in-Opaque : goal.returns-in_ok-atom-in-Opaque
returns-in_ok-atom-in-Opaque c =
    let a = c.in-Opaque.atom.now in
    let d = tree_view c.in-Opaque.fails in
    let atom = c.in_ok-atom-in-Opaque.atom in
    let sides = c.in_ok-atom-in-Opaque.sides in
    let made = c.in_ok-atom-in-Opaque.ensures in
    let both = made_holds c.made_both-sides.result sides _ made.1 c.made_both-sides.ensures in
    let yes = boxed_is c.in-Opaque.holds sides.0 c.boxed-in-Opaque.result both.0 c.boxed-in-Opaque.ensures in
    let no = boxed_is c.in-Opaque.fails sides.1 c.boxed-in-Opaque-2.result both.1 c.boxed-in-Opaque-2.ensures in
    view_opaque atom sides.0 sides.1
    ∙ ap (λ b. node (atom_level b) (tree_view sides.1.value) (branch (1 ∷ []) (tree_view sides.0.value) done)) (made_holds c.copy.result atom _ made.0 c.copy.ensures)
    ∙ ap (λ t. node (atom_level a) (tree_view t) (branch (1 ∷ []) (tree_view sides.0.value) done)) no
    ∙ ap (λ t. node (atom_level a) d (branch (1 ∷ []) (tree_view t) done)) yes
    ∙ sym (ap (closed_view tree_view) c.in-Opaque.is) ∙ c.in_ok-lists.ensures.tree tree_view
