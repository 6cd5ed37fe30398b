use Rattle.std.proofs.Common.{◌∙◌, ap, sym, map, arith}
use Rattle.ul_comparison.specs.Formulas.{extra, python, python_list, text, opaque, all, any, formulas_of}
use Rattle.ul_marker.specs.Views.{marker_view}
use Rattle.ul_marker.proofs.MarkerViews.{view_all, view_any, view_extra, view_list, view_opaque, view_python, view_text}
use Rattle.ul_marker.proofs.Walks.{copied_all, copied_next}
use Rattle.ul_marker.proofs.marker.+copy.Goals as goal

pub copy-returns-in_ok-literal-in-Extra : goal.copy-returns-in_ok-literal-in-Extra
copy-returns-in_ok-literal-in-Extra t c =
    view_extra _ _ ∙ ap (λ b. extra b c.in-Extra.equal) (c.in_ok-literal-in-Extra.ensures.ok ∙ c.as_str.ensures.value)
    ∙ sym (ap marker_view c.in-Extra.is ∙ view_extra c.in-Extra.literal c.in-Extra.equal)

pub copy-returns-in_ok-clause-in-Python : goal.copy-returns-in_ok-clause-in-Python
copy-returns-in_ok-clause-in-Python t c =
    view_python _ _ ∙ ap (python c.in-Python.full) c.in_ok-clause-in-Python.ensures
    ∙ sym (ap marker_view c.in-Python.is ∙ view_python c.in-Python.full c.in-Python.clause)

pub copy-returns-in_ok-versions-in-PythonList : goal.copy-returns-in_ok-versions-in-PythonList
copy-returns-in_ok-versions-in-PythonList t c =
    view_list _ _ _ ∙ ap (λ vs. python_list c.in-PythonList.full vs c.in-PythonList.within) (c.in_ok-versions-in-PythonList.ensures ∙ c.deref.ensures.value)
    ∙ sym (ap marker_view c.in-PythonList.is ∙ view_list c.in-PythonList.full c.in-PythonList.versions c.in-PythonList.within)

pub copy-returns-in_ok-literal-in-Text : goal.copy-returns-in_ok-literal-in-Text
copy-returns-in_ok-literal-in-Text t c =
    view_text _ _ _ ∙ ap (λ b. text c.in-Text.variable b c.in-Text.equal) (c.in_ok-literal-in-Text.ensures.ok ∙ c.as_str-in-Text.ensures.value)
    ∙ sym (ap marker_view c.in-Text.is ∙ view_text c.in-Text.variable c.in-Text.literal c.in-Text.equal)

pub copy-returns-in_ok-atom-in-Opaque : goal.copy-returns-in_ok-atom-in-Opaque
copy-returns-in_ok-atom-in-Opaque t c =
    view_opaque _ _ ∙ ap (λ a. opaque a c.in-Opaque.positive) c.in_ok-atom-in-Opaque.ensures
    ∙ sym (ap marker_view c.in-Opaque.is ∙ view_opaque c.in-Opaque.atom c.in-Opaque.positive)

pub copy-returns-in_ok-copy_parts-in-All : goal.copy-returns-in_ok-copy_parts-in-All
copy-returns-in_ok-copy_parts-in-All t c =
    view_all _ ∙ ap (λ fs. all (formulas_of fs)) (c.in_ok-copy_parts-in-All.ensures ∙ ap (map marker_view) c.deref-in-All.ensures.value)
    ∙ sym (ap marker_view c.in-All.is ∙ view_all c.in-All.parts)

pub copy-returns-in_ok-copy_parts-in-Any : goal.copy-returns-in_ok-copy_parts-in-Any
copy-returns-in_ok-copy_parts-in-Any t c =
    view_any _ ∙ ap (λ fs. any (formulas_of fs)) (c.in_ok-copy_parts-in-Any.ensures ∙ ap (map marker_view) c.deref-in-Any.ensures.value)
    ∙ sym (ap marker_view c.in-Any.is ∙ view_any c.in-Any.parts)

pub copy_parts-loop-part-preserved : goal.copy_parts-loop-part-preserved
copy_parts-loop-part-preserved t c =
    copied_next _ _ _ _ _ c.copy.result c.in_ok-copied-2.ensures c.copy.ensures c.loop-part-test.true c.part-item.is c.loop-part.invariant

pub copy_parts-returns : goal.copy_parts-returns
copy_parts-returns t c = copied_all c.args.parts.now _ c.loop-part.part-index (omega arith) c.loop-part.invariant
