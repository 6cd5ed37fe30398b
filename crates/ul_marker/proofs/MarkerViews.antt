-- Markers by their variants: the formula of each.
use Rattle.std.proofs.Common.{◌≡◌, Bool, Global, Vec, String, string_bytes, rules}
use Rattle.ul_version.specs.Fields.{Fields}
use Rattle.ul_specifier.specs.Clauses.{ClauseFields}
use Rattle.ul_comparison.specs.Atoms.{AtomFields}
use Rattle.ul_comparison.specs.Formulas.{extra, python, python_list, text, opaque, all, any}
use Rattle.ul_marker.specs.Views.{marker_view, markers_view}
use Rattle.ul_marker.specs.declared.marker.Marker.{Marker, Extra, Python, PythonList, Text, Opaque, All, Any, the_lemmas}
use Rattle.ul_comparison.specs.declared.variable.Variable.{Variable}

pub view_extra : (literal : String Global) (equal : Bool) → marker_view (Extra literal equal) ≡ extra (string_bytes literal) equal
view_extra literal equal = search (rules, the_lemmas)

pub view_python : (full : Bool) (clause : ClauseFields) → marker_view (Python full clause) ≡ python full clause
view_python full clause = search (rules, the_lemmas)

pub view_list : (full : Bool) (versions : Vec Fields Global) (within : Bool) → marker_view (PythonList full versions within) ≡ python_list full versions.items within
view_list full versions within = search (rules, the_lemmas)

pub view_text : (variable : Variable) (literal : String Global) (equal : Bool) → marker_view (Text variable literal equal) ≡ text variable (string_bytes literal) equal
view_text variable literal equal = search (rules, the_lemmas)

pub view_opaque : (atom : AtomFields) (positive : Bool) → marker_view (Opaque atom positive) ≡ opaque atom positive
view_opaque atom positive = search (rules, the_lemmas)

pub view_all : (parts : Vec Marker Global) → marker_view (All parts) ≡ all (markers_view parts.items)
view_all parts = search (rules, the_lemmas)

pub view_any : (parts : Vec Marker Global) → marker_view (Any parts) ≡ any (markers_view parts.items)
view_any parts = search (rules, the_lemmas)
