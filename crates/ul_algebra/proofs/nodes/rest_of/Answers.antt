use Rattle.std.specs.List.{slice_get}
use Rattle.std.proofs.Common.{ap, sym, ◌∙◌, arith, ◌∷◌, []}
use Rattle.ul_nodes.specs.Levels.{extra_level, text_level, atom_level}
use Rattle.ul_nodes.specs.Keys.{rest_of}
use Rattle.ul_interner.specs.Marked.{parts_of}
use Rattle.ul_interner.proofs.ForCallers.{known_part}
use Rattle.ul_algebra.specs.declared.labels.DiagramLabel.TheVariants.{Extra, Python, Text, Opaque}
use Rattle.ul_algebra.proofs.Levels.{tree_as, reduced_as, truth_is, keyed_parts, keyed_other, python_shape, python_rest}
use Rattle.ul_algebra.proofs.nodes.rest_of.Goals as goal

pub returns-in-Truth-clause-part : goal.returns-in-Truth-clause-part
returns-in-Truth-clause-part c = let e = truth_is c.args.d.now c.in-Truth.field-0 (sym c.in-Truth.is ∙ c.label.ensures) c.requires in e ∙ sym (ap rest_of e)

pub part-requires : goal.part-requires
part-requires c = let p = keyed_parts extra_level c.in-Extra.points (parts_of c.args.d.now) (reduced_as c.args.d.now (Extra c.in-Extra.points) (sym c.in-Extra.is ∙ c.label.ensures) c.requires) in omega (arith, p, c.len.ensures)

pub returns-in-Extra-clause-part : goal.returns-in-Extra-clause-part
returns-in-Extra-clause-part c = keyed_other extra_level c.in-Extra.points (parts_of c.args.d.now) c.part.result.now (reduced_as c.args.d.now (Extra c.in-Extra.points) (sym c.in-Extra.is ∙ c.label.ensures) c.requires) (ap (slice_get (parts_of c.args.d.now)) (sym c.len.ensures) ∙ c.part.ensures) ∙ sym (ap rest_of (tree_as c.args.d.now (Extra c.in-Extra.points) (sym c.in-Extra.is ∙ c.label.ensures)))

pub returns-in-Extra-clause-known : goal.returns-in-Extra-clause-known
returns-in-Extra-clause-known c = λ h k. known_part h c.args.d.now _ c.part.result.now k c.part.ensures

pub part-requires-in-Text : goal.part-requires-in-Text
part-requires-in-Text c = let p = keyed_parts (text_level c.in-Text.variable) c.in-Text.points (parts_of c.args.d.now) (reduced_as c.args.d.now (Text c.in-Text.variable c.in-Text.points) (sym c.in-Text.is ∙ c.label.ensures) c.requires) in omega (arith, p, c.len-in-Text.ensures)

pub returns-in-Text-clause-part : goal.returns-in-Text-clause-part
returns-in-Text-clause-part c = keyed_other (text_level c.in-Text.variable) c.in-Text.points (parts_of c.args.d.now) c.part-in-Text.result.now (reduced_as c.args.d.now (Text c.in-Text.variable c.in-Text.points) (sym c.in-Text.is ∙ c.label.ensures) c.requires) (ap (slice_get (parts_of c.args.d.now)) (sym c.len-in-Text.ensures) ∙ c.part-in-Text.ensures) ∙ sym (ap rest_of (tree_as c.args.d.now (Text c.in-Text.variable c.in-Text.points) (sym c.in-Text.is ∙ c.label.ensures)))

pub returns-in-Text-clause-known : goal.returns-in-Text-clause-known
returns-in-Text-clause-known c = λ h k. known_part h c.args.d.now _ c.part-in-Text.result.now k c.part-in-Text.ensures

pub part-requires-in-Opaque : goal.part-requires-in-Opaque
part-requires-in-Opaque c = let p = keyed_parts (atom_level c.in-Opaque.atom) ((1 ∷ []) ∷ []) (parts_of c.args.d.now) (reduced_as c.args.d.now (Opaque c.in-Opaque.atom) (sym c.in-Opaque.is ∙ c.label.ensures) c.requires) in omega (arith, p)

pub returns-in-Opaque-clause-part : goal.returns-in-Opaque-clause-part
returns-in-Opaque-clause-part c = keyed_other (atom_level c.in-Opaque.atom) ((1 ∷ []) ∷ []) (parts_of c.args.d.now) c.part-in-Opaque.result.now (reduced_as c.args.d.now (Opaque c.in-Opaque.atom) (sym c.in-Opaque.is ∙ c.label.ensures) c.requires) c.part-in-Opaque.ensures ∙ sym (ap rest_of (tree_as c.args.d.now (Opaque c.in-Opaque.atom) (sym c.in-Opaque.is ∙ c.label.ensures)))

pub returns-in-Opaque-clause-known : goal.returns-in-Opaque-clause-known
returns-in-Opaque-clause-known c = λ h k. known_part h c.args.d.now _ c.part-in-Opaque.result.now k c.part-in-Opaque.ensures

pub part-requires-in-Python : goal.part-requires-in-Python
part-requires-in-Python c = let s = python_shape c.in-Python.starts (parts_of c.args.d.now) (reduced_as c.args.d.now (Python c.in-Python.starts) (sym c.in-Python.is ∙ c.label.ensures) c.requires) in omega (arith, s.some, s.even)

pub returns-in-Python-clause-part : goal.returns-in-Python-clause-part
returns-in-Python-clause-part c = python_rest c.in-Python.starts (parts_of c.args.d.now) c.part-in-Python.result.now (reduced_as c.args.d.now (Python c.in-Python.starts) (sym c.in-Python.is ∙ c.label.ensures) c.requires) c.part-in-Python.ensures ∙ sym (ap rest_of (tree_as c.args.d.now (Python c.in-Python.starts) (sym c.in-Python.is ∙ c.label.ensures)))

pub returns-in-Python-clause-known : goal.returns-in-Python-clause-known
returns-in-Python-clause-known c = λ h k. known_part h c.args.d.now _ c.part-in-Python.result.now k c.part-in-Python.ensures
