-- Worked examples of what lines say.
use Rattle.std.specs.Prelude.{◌≡◌, [], ◌∷◌, codes, true, None, Some, Err, Ok}
use Rattle.ul_comparison.specs.Formulas.{all, any, none, text}
use Rattle.ul_comparison.specs.declared.variable.AtomKind.TheVariants.{Contains}
use Rattle.ul_comparison.specs.declared.variable.Variable.TheVariants.{Extras, OsName}
use Rattle.ul_marker.specs.Comparisons.{opaquely}
use Rattle.ul_canonical.specs.Lines.{formula_of_line, formulas_of}

-- lines that say something, and the first that says nothing
pub record LineExamples : Type 0 where
  pub always : formula_of_line (codes "*\n") ≡ Some (all none)
  pub nowhere : formula_of_line (codes "never\n") ≡ Some (any none)
  pub marker : formula_of_line (codes "os_name == 'a'\n") ≡ Some (text OsName (codes "a") true)
  pub extra : formula_of_line (codes "extra == 'a'\n") ≡ None
  pub extras : formula_of_line (codes "'a' in extras\n") ≡ Some (opaquely Extras Contains (codes "a") true)
  pub blank_star : formula_of_line (codes " *\n") ≡ None
  pub not_ended : formula_of_line (codes "*") ≡ None
  pub nothing : formulas_of [] ≡ Ok []
  pub two : formulas_of (codes "*\nnever\n") ≡ Ok (all none ∷ any none ∷ [])
  pub second : formulas_of (codes "*\n\nnever") ≡ Err 2
  pub last : formulas_of (codes "*\nnever") ≡ Err 2
