use Rattle.std.proofs.Common.{◌≡◌, Ok, [], ◌∷◌, ◌++◌, map, ap, sym, ◌∙◌, arith, drop, ◌+◌, string_bytes, append_assoc}
use Rattle.std.proofs.lemmas.List.{append-nil, drop_all, drop_more, map-append}
use Rattle.ul_nodes.specs.Plain.{node, done, branch}
use Rattle.ul_nodes.specs.Levels.{extra_level, text_level, atom_level}
use Rattle.ul_nodes.specs.Keys.{then_branches}
use Rattle.ul_nodes.specs.Closing.{python_of}
use Rattle.ul_nodes.proofs.ForCallers.{then_none}
use Rattle.ul_tree.specs.Views.{tree_view, points_view}
use Rattle.ul_base.proofs.ForCallers.{made_holds}
use Rattle.ul_tree.proofs.Shapes.{view_truth, view_extra, view_python, view_text, view_opaque}
use Rattle.ul_tree.proofs.Rebuilt.{points_copied}
use Rattle.ul_tree.proofs.Shortcuts.{truth_is}
use Rattle.ul_tree.proofs.copy.+copy.Goals as goal

pub copy_within-returns-in-Some : goal.copy_within-returns-in-Some
copy_within-returns-in-Some t c = view_truth c.in-Some.value ∙ truth_is (tree_view c.args.tree.now) c.in-Some.value c.in-Some.ensures

pub copy_node-returns-in_ok-points-in-Extra : goal.copy_node-returns-in_ok-points-in-Extra
copy_node-returns-in_ok-points-in-Extra t c =
    let points = c.in_ok-points-in-Extra.points in
    let other = c.in_ok-points-in-Extra.other in
    let both = c.in_ok-points-in-Extra.ensures in
    let told = made_holds c.copy_points.result points _ both.0 c.copy_points.ensures in
    let alone = made_holds c.boxed.result other _ both.1 c.boxed.ensures in
    let part = made_holds c.copy_within.result other.value _ alone c.copy_within.ensures in
    view_extra points other
    ∙ ap (node extra_level (tree_view other.value)) (told ∙ ap points_view c.deref.ensures.value)
    ∙ ap (λ z. node extra_level z (points_view c.in-Extra.points.items)) (part ∙ ap tree_view c.deref-in-Extra.ensures)
    ∙ sym (ap tree_view c.in-Extra.is ∙ view_extra c.in-Extra.points c.in-Extra.other)

pub copy_node-returns-in_ok-points-in-Text : goal.copy_node-returns-in_ok-points-in-Text
copy_node-returns-in_ok-points-in-Text t c =
    let points = c.in_ok-points-in-Text.points in
    let other = c.in_ok-points-in-Text.other in
    let variable = c.in-Text.variable in
    let both = c.in_ok-points-in-Text.ensures in
    let told = made_holds c.copy_points-in-Text.result points _ both.0 c.copy_points-in-Text.ensures in
    let alone = made_holds c.boxed-in-Text.result other _ both.1 c.boxed-in-Text.ensures in
    let part = made_holds c.copy_within-in-Text.result other.value _ alone c.copy_within-in-Text.ensures in
    view_text variable points other
    ∙ ap (node (text_level variable) (tree_view other.value)) (told ∙ ap points_view c.deref-in-Text.ensures.value)
    ∙ ap (λ z. node (text_level variable) z (points_view c.in-Text.points.items)) (part ∙ ap tree_view c.deref-in-Text-2.ensures)
    ∙ sym (ap tree_view c.in-Text.is ∙ view_text variable c.in-Text.points c.in-Text.other)

pub copy_node-returns-in_ok-starts-in-Python : goal.copy_node-returns-in_ok-starts-in-Python
copy_node-returns-in_ok-starts-in-Python t c =
    let starts = c.in_ok-starts-in-Python.starts in
    let parts = c.in_ok-starts-in-Python.parts in
    let both = c.in_ok-starts-in-Python.ensures in
    let copied = made_holds c.from_slice.result starts _ both.0 c.from_slice.ensures.items in
    let told = made_holds c.copy_parts.result parts _ both.1 c.copy_parts.ensures in
    view_python starts parts
    ∙ ap (λ z. python_of z (map tree_view parts.items)) (copied ∙ c.as_slice.ensures.value)
    ∙ ap (python_of c.in-Python.starts.items) (told ∙ ap (map tree_view) c.deref-in-Python.ensures.value)
    ∙ sym (ap tree_view c.in-Python.is ∙ view_python c.in-Python.starts c.in-Python.parts)

pub copy_node-returns-in_ok-atom-in-Opaque : goal.copy_node-returns-in_ok-atom-in-Opaque
copy_node-returns-in_ok-atom-in-Opaque t c =
    let atom = c.in_ok-atom-in-Opaque.atom in
    let sides = c.in_ok-atom-in-Opaque.sides in
    let made = c.in_ok-atom-in-Opaque.ensures in
    let of = c.in-Opaque.atom in
    let same = made_holds c.copy.result atom _ made.0 c.copy.ensures in
    let both = made_holds c.made_both-sides.result sides _ made.1 c.made_both-sides.ensures in
    let held = made_holds c.boxed-in-Opaque.result sides.0 _ both.0 c.boxed-in-Opaque.ensures in
    let failed = made_holds c.boxed-in-Opaque-2.result sides.1 _ both.1 c.boxed-in-Opaque-2.ensures in
    let yes = made_holds c.copy_within-in-Opaque.result sides.0.value _ held c.copy_within-in-Opaque.ensures in
    let no = made_holds c.copy_within-in-Opaque-2.result sides.1.value _ failed c.copy_within-in-Opaque-2.ensures in
    view_opaque atom sides.0 sides.1
    ∙ ap (λ z. node (atom_level z) (tree_view sides.1.value) (branch (1 ∷ []) (tree_view sides.0.value) done)) same
    ∙ ap (λ z. node (atom_level of) z (branch (1 ∷ []) (tree_view sides.0.value) done)) (no ∙ ap tree_view c.deref-in-Opaque-2.ensures)
    ∙ ap (λ z. node (atom_level of) (tree_view c.in-Opaque.no.value) (branch (1 ∷ []) z done)) (yes ∙ ap tree_view c.deref-in-Opaque.ensures)
    ∙ sym (ap tree_view c.in-Opaque.is ∙ view_opaque of c.in-Opaque.yes c.in-Opaque.no)

pub copy_points-returns : goal.copy_points-returns
copy_points-returns t c =
    let n = drop_all c.loop-point.point-index c.args.points.now (omega arith) in
    sym (then_none (points_view c.loop-point.copied.items)) ∙ ap (λ z. then_branches (points_view c.loop-point.copied.items) (points_view z)) (sym n) ∙ c.loop-point.invariant

pub copy_points-loop-point-preserved : goal.copy_points-loop-point-preserved
copy_points-loop-point-preserved t c =
    let items = c.args.points.now in
    let i = c.loop-point.point-index in
    let more = c.in_ok-copied.ensures in
    let one = more.0 in
    let text = made_holds c.named-made.result one (λ p. string_bytes p.0 ≡ c.as_str.result.now) more.1 c.named-made.ensures.text in
    let made = made_holds c.named-made.result one (λ p. c.copy_within.result ≡ Ok p.1) more.1 c.named-made.ensures.made in
    let part = made_holds c.copy_within.result one.1 (λ z. tree_view z ≡ tree_view c.point-item.result.1) made c.copy_within.ensures in
    ap (λ xs. then_branches (points_view xs) (points_view (drop (i + 1) items))) more.2
    ∙ points_copied c.loop-point.copied.items items i c.point-item.result one.0 one.1 c.loop-point-test.true c.point-item.is (text ∙ c.as_str.ensures.value) part
    ∙ c.loop-point.invariant

pub copy_parts-loop-part-preserved : goal.copy_parts-loop-part-preserved
copy_parts-loop-part-preserved t c =
    let items = c.args.parts.now in
    let i = c.loop-part.part-index in
    let before = c.loop-part.copied.items in
    let left = map tree_view (drop (i + 1) items) in
    let more = c.in_ok-copied.ensures in
    let told = made_holds c.copy_within.result more.0 _ more.1 c.copy_within.ensures in
    ap (λ z. map tree_view z ++ left) more.2
    ∙ ap (λ z. z ++ left) (map-append tree_view before (more.0 ∷ []))
    ∙ append_assoc (map tree_view before) (tree_view more.0 ∷ []) left
    ∙ ap (λ z. map tree_view before ++ (z ∷ left)) (told ∙ ap tree_view c.part-item.is)
    ∙ sym (ap (λ z. map tree_view before ++ map tree_view z) (drop_more items i c.part-item.result c.loop-part-test.true))
    ∙ c.loop-part.invariant

pub copy_parts-returns : goal.copy_parts-returns
copy_parts-returns t c =
    let copied = map tree_view c.loop-part.copied.items in
    let over = drop_all c.loop-part.part-index c.args.parts.now c.loop-part-test.false in
    sym (append-nil copied) ∙ ap (λ z. copied ++ map tree_view z) (sym over) ∙ c.loop-part.invariant
