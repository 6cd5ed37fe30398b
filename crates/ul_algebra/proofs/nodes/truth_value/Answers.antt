use Rattle.std.proofs.Common.{ap, sym, ◌∙◌, map}
use Rattle.ul_nodes.specs.Apply.{truth_value}
use Rattle.ul_interner.specs.Marked.{parts_of}
use Rattle.ul_algebra.specs.Spelled.{tree_of}
use Rattle.ul_algebra.specs.declared.labels.DiagramLabel.TheVariants.{Extra, Python, Text, Opaque}
use Rattle.ul_algebra.proofs.Levels.{tree_as, truth_is, python_value}
use Rattle.ul_algebra.proofs.nodes.truth_value.Goals as goal

pub returns-in-Truth : goal.returns-in-Truth
returns-in-Truth c = sym (ap truth_value (truth_is c.args.d.now c.in-Truth.value (sym c.in-Truth.is ∙ c.label.ensures) c.requires))

pub returns-in-Extra : goal.returns-in-Extra
returns-in-Extra c = sym (ap truth_value (tree_as c.args.d.now (Extra c.in-Extra.points) (sym c.in-Extra.is ∙ c.label.ensures)))

pub returns-in-Text : goal.returns-in-Text
returns-in-Text c = sym (ap truth_value (tree_as c.args.d.now (Text c.in-Text.variable c.in-Text.points) (sym c.in-Text.is ∙ c.label.ensures)))

pub returns-in-Opaque : goal.returns-in-Opaque
returns-in-Opaque c = sym (ap truth_value (tree_as c.args.d.now (Opaque c.in-Opaque.atom) (sym c.in-Opaque.is ∙ c.label.ensures)))

pub returns-in-Python : goal.returns-in-Python
returns-in-Python c = sym (ap truth_value (tree_as c.args.d.now (Python c.in-Python.starts) (sym c.in-Python.is ∙ c.label.ensures)) ∙ python_value c.in-Python.starts (map tree_of (parts_of c.args.d.now)))
