-- Markers by their variants.
use Rattle.std.proofs.Common.{◌≡◌, Bool, Global, Vec, String, string_bytes, rules}
use Rattle.ul_version.specs.Fields.{Fields}
use Rattle.ul_specifier.specs.Clauses.{ClauseFields}
use Rattle.ul_comparison.specs.Atoms.{AtomFields}
use Rattle.ul_comparison.specs.Formulas.{extra, python, python_list, text, opaque, all, any}
use Rattle.ul_marker.specs.Views.{marker_view, markers_view}
use Rattle.ul_marker.specs.declared.marker.Marker.{Marker, Extra, Python, PythonList, Text, Opaque, All, Any, the_lemmas}
use Rattle.ul_comparison.specs.declared.variable.Variable.{Variable}

pub marker_extra : (literal : String Global) (equal : Bool) → marker_view (Extra literal equal) ≡ extra (string_bytes literal) equal
marker_extra literal equal = search (rules, the_lemmas)

pub marker_python : (full : Bool) (clause : ClauseFields) → marker_view (Python full clause) ≡ python full clause
marker_python full clause = search (rules, the_lemmas)

pub marker_list : (full : Bool) (versions : Vec Fields Global) (within : Bool) → marker_view (PythonList full versions within) ≡ python_list full versions.items within
marker_list full versions within = search (rules, the_lemmas)

pub marker_text : (variable : Variable) (literal : String Global) (equal : Bool) → marker_view (Text variable literal equal) ≡ text variable (string_bytes literal) equal
marker_text variable literal equal = search (rules, the_lemmas)

pub marker_opaque : (atom : AtomFields) (positive : Bool) → marker_view (Opaque atom positive) ≡ opaque atom positive
marker_opaque atom positive = search (rules, the_lemmas)

pub marker_all : (parts : Vec Marker Global) → marker_view (All parts) ≡ all (markers_view parts.items)
marker_all parts = search (rules, the_lemmas)

pub marker_any : (parts : Vec Marker Global) → marker_view (Any parts) ≡ any (markers_view parts.items)
marker_any parts = search (rules, the_lemmas)
