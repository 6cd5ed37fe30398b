use Rattle.std.proofs.Common.{List, ◌++◌, ◌+◌, drop, ap, sym, ◌∙◌, subst, true, false, map}
use Rattle.std.specs.Prelude.{All}
use Rattle.std.proofs.lemmas.List.{drop_more}
use Rattle.std.proofs.lemmas.List.Elements.{All-push}
use Rattle.ul_comparison.specs.Formulas.{AreFormulas}
use Rattle.std.specs.Str.{bytes_eq}
use Rattle.ul_comparison.specs.Truth.{as_asked, equals_extra, is_listed, marker_holds, python_release}
use Rattle.ul_marker.specs.Views.{marker_view, markers_view}
use Rattle.ul_marker.specs.declared.marker.Marker.{Marker}
use Rattle.ul_tree.specs.TreeFacts.{IsTree, HoldsAtWorlds}
use Rattle.ul_tree.specs.declared.tree.Tree.{Tree}
use Rattle.ul_base.proofs.ForCallers.{made_holds}
use Rattle.ul_comparison.specs.Worlds.{text_at}
use Rattle.ul_tree.specs.Joining.{joint, truths_of}
use Rattle.ul_tree.proofs.Joint.{all_joint, any_joint, made_then, truths_all, truths_more}
use Rattle.ul_tree.proofs.MarkerViews.{marker_all, marker_any, marker_extra, marker_list, marker_opaque, marker_python, marker_text}
use Rattle.ul_tree.proofs.markers.+of_marker.Goals as goal

pub of_marker-returns-in-Extra-clause-truth : goal.of_marker-returns-in-Extra-clause-truth
of_marker-returns-in-Extra-clause-truth t c =
    let literal = c.in-Extra.literal in
    let equal = c.in-Extra.equal in
    made_then c.extra_tree.result _ _
    (λ tree truth w x h.
    truth w x ∙ ap (λ z. as_asked equal (equals_extra z x)) c.as_str.ensures.value
    ∙ sym (ap (λ f. marker_holds f w x) (ap marker_view c.in-Extra.is ∙ marker_extra literal equal)))
    c.extra_tree.ensures.truth

pub of_marker-returns-in-Python-clause-truth : goal.of_marker-returns-in-Python-clause-truth
of_marker-returns-in-Python-clause-truth t c =
    made_then c.clause_tree.result _ _
    (λ tree truth w x h. truth w x h ∙ sym (ap (λ f. marker_holds f w x) (ap marker_view c.in-Python.is ∙ marker_python c.in-Python.full c.in-Python.clause)))
    c.clause_tree.ensures.truth

pub of_marker-returns-in-PythonList-clause-truth : goal.of_marker-returns-in-PythonList-clause-truth
of_marker-returns-in-PythonList-clause-truth t c =
    let full = c.in-PythonList.full in
    let within = c.in-PythonList.within in
    made_then c.list_tree.result _ _
    (λ tree truth w x h.
    truth w x h ∙ ap (λ z. as_asked within (is_listed z (python_release full w))) c.deref.ensures.value
    ∙ sym (ap (λ f. marker_holds f w x) (ap marker_view c.in-PythonList.is ∙ marker_list full c.in-PythonList.versions within)))
    c.list_tree.ensures.truth

pub of_marker-returns-in-Text-clause-truth : goal.of_marker-returns-in-Text-clause-truth
of_marker-returns-in-Text-clause-truth t c =
    let variable = c.in-Text.variable in
    let equal = c.in-Text.equal in
    made_then c.text_tree.result _ _
    (λ tree truth w x h.
    truth w x ∙ ap (λ z. as_asked equal (bytes_eq (text_at w variable) z)) c.as_str-in-Text.ensures.value
    ∙ sym (ap (λ f. marker_holds f w x) (ap marker_view c.in-Text.is ∙ marker_text variable c.in-Text.literal equal)))
    c.text_tree.ensures.truth

pub of_marker-returns-in-Opaque-clause-truth : goal.of_marker-returns-in-Opaque-clause-truth
of_marker-returns-in-Opaque-clause-truth t c =
    made_then c.opaque_tree.result _ _
    (λ tree truth w x h. truth w x ∙ sym (ap (λ f. marker_holds f w x) (ap marker_view c.in-Opaque.is ∙ marker_opaque c.in-Opaque.atom c.in-Opaque.positive)))
    c.opaque_tree.ensures.truth

pub of_marker-returns-in_ok-trees-in-All-clause-truth : goal.of_marker-returns-in_ok-trees-in-All-clause-truth
of_marker-returns-in_ok-trees-in-All-clause-truth t c =
    let parts = c.in-All.parts in
    made_then c.joined.result _ _
    (λ tree truth w x h.
    truth w x
    ∙ ap (joint true) (c.in_ok-trees-in-All.ensures.truth w x h ∙ ap (map (λ m. marker_holds (marker_view m) w x)) c.deref-in-All.ensures.value)
    ∙ all_joint parts.items w x
    ∙ sym (ap (λ f. marker_holds f w x) (ap marker_view c.in-All.is ∙ marker_all parts)))
    c.joined.ensures.truth

pub of_marker-returns-in_ok-trees-in-Any-clause-truth : goal.of_marker-returns-in_ok-trees-in-Any-clause-truth
of_marker-returns-in_ok-trees-in-Any-clause-truth t c =
    let parts = c.in-Any.parts in
    made_then c.joined-in-Any.result _ _
    (λ tree truth w x h.
    truth w x
    ∙ ap (joint false) (c.in_ok-trees-in-Any.ensures.truth w x h ∙ ap (map (λ m. marker_holds (marker_view m) w x)) c.deref-in-Any.ensures.value)
    ∙ any_joint parts.items w x
    ∙ sym (ap (λ f. marker_holds f w x) (ap marker_view c.in-Any.is ∙ marker_any parts)))
    c.joined-in-Any.ensures.truth

pub of_markers-loop-part-preserved : goal.of_markers-loop-part-preserved
of_markers-loop-part-preserved t c =
    let more = c.in_ok-trees.ensures in
    let trees = c.loop-part.trees.items in
    let items = c.args.parts.now in
    let i = c.loop-part.part-index in
    let reduced = made_holds c.of_marker.result more.0 IsTree more.1 c.of_marker.ensures.reduced in
    let truth = made_holds c.of_marker.result more.0 (λ t. HoldsAtWorlds t (marker_holds (marker_view c.part-item.result))) more.1 c.of_marker.ensures.truth in
    let next = ap markers_view (drop_more items i c.part-item.result c.loop-part-test.true) in
    record {
      left = (subst AreFormulas next c.loop-part.invariant.left).1;
      reduced = subst (λ (xs : List Tree). All IsTree xs) (sym more.2) (All-push IsTree trees more.0 c.loop-part.invariant.reduced reduced);
      truth = λ w x h.
          let f = λ (m : Marker). marker_holds (marker_view m) w x in
          ap (λ z. truths_of z w x ++ map f (drop (i + 1) items)) more.2
          ∙ truths_more f trees more.0 items i c.part-item.result w x c.loop-part-test.true c.part-item.is (truth w x h) (c.loop-part.invariant.truth w x h);
    }

pub of_markers-returns-clause-truth : goal.of_markers-returns-clause-truth
of_markers-returns-clause-truth t c w x h =
    truths_all (λ (m : Marker). marker_holds (marker_view m) w x) c.loop-part.trees.items c.args.parts.now c.loop-part.part-index w x c.loop-part-test.false (c.loop-part.invariant.truth w x h)

pub of_marker-returns-in-Extra-clause-reduced : goal.of_marker-returns-in-Extra-clause-reduced
of_marker-returns-in-Extra-clause-reduced t c = c.extra_tree.ensures.reduced

pub of_marker-returns-in-Python-clause-reduced : goal.of_marker-returns-in-Python-clause-reduced
of_marker-returns-in-Python-clause-reduced t c = c.clause_tree.ensures.reduced

pub of_marker-returns-in-PythonList-clause-reduced : goal.of_marker-returns-in-PythonList-clause-reduced
of_marker-returns-in-PythonList-clause-reduced t c = c.list_tree.ensures.reduced

pub of_marker-returns-in-Text-clause-reduced : goal.of_marker-returns-in-Text-clause-reduced
of_marker-returns-in-Text-clause-reduced t c = c.text_tree.ensures.reduced

pub of_marker-returns-in-Opaque-clause-reduced : goal.of_marker-returns-in-Opaque-clause-reduced
of_marker-returns-in-Opaque-clause-reduced t c = c.opaque_tree.ensures.reduced

pub of_marker-returns-in_ok-trees-in-All-clause-reduced : goal.of_marker-returns-in_ok-trees-in-All-clause-reduced
of_marker-returns-in_ok-trees-in-All-clause-reduced t c = c.joined.ensures.reduced

pub of_marker-returns-in_ok-trees-in-Any-clause-reduced : goal.of_marker-returns-in_ok-trees-in-Any-clause-reduced
of_marker-returns-in_ok-trees-in-Any-clause-reduced t c = c.joined-in-Any.ensures.reduced
