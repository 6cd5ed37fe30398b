-- Printed comparisons of the code as plain data, and which formulas have none.
use Rattle.std.specs.Prelude.{◌≢◌, ◌<◌, ◌^◌, ◌&&◌, ◌==◌, ℕ, Bool, true, false, List, [], ◌∷◌, is_none}
use Rattle.ul_version.specs.Fields.{Fields, plain}
use Rattle.ul_comparison.specs.Formulas.{Formula}
use Rattle.ul_comparison.specs.Printed as Plain
use Rattle.ul_comparison.specs.Printed.{IsComparison, comparison_formula}
use Rattle.ul_marker.specs.declared.printed.Comparison.{Comparison}
use Rattle.ul_marker.specs.declared.printed.Comparison.TheVariants.{Bound, Extra, Text, Opaque}

-- a comparison as plain data
abbrev pub comparison_view : Comparison → Plain.Comparison
comparison_view (Bound lower python) = Plain.bound lower python.0 python.1 python.2
comparison_view (Extra literal equal) = Plain.extra_is literal.now equal
comparison_view (Text variable literal equal) = Plain.text_is variable literal.now equal
comparison_view (Opaque atom holds) = Plain.atom_is atom.now holds

-- no printed comparison says what a formula says
abbrev pub IsNoComparison : Formula → Type 0
IsNoComparison f = (c : Plain.Comparison) → IsComparison c → comparison_formula c ≢ f

-- a version that isn't three numbers below 2^32 and nothing else
abbrev pub IsNoInterpreter : Fields → Type 0
IsNoInterpreter V = (major minor patch : ℕ) → major < 2 ^ 32 → minor < 2 ^ 32 → patch < 2 ^ 32 → V ≢ plain (major ∷ minor ∷ patch ∷ [])

-- whether a list is empty
abbrev pub is_nil : {X : Type 0} → List X → Bool
is_nil [] = true
is_nil (x ∷ xs) = false

-- whether a version has a release alone
abbrev pub is_plain : Fields → Bool
is_plain V = V.epoch == 0 && (is_none V.pre && (is_none V.post && (is_none V.dev && is_nil V.local)))
