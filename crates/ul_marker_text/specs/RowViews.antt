-- Rows of comparisons of the code as plain data.
use Rattle.std.specs.Prelude.{◌≢◌, List, map, All, Vec}
use Rattle.std.specs.declared.alloc.Global.{Global}
use Rattle.ul_marker.specs.declared.printed.Comparison.{Comparison}
use Rattle.ul_comparison.specs.Formulas.{Formula}
use Rattle.ul_comparison.specs.Printed as Printed
use Rattle.ul_marker.specs.PrintedPaths.{IsPath, path_formula}
use Rattle.ul_marker_text.specs.StepViews.{said}

-- what the comparisons of rows say
abbrev pub rows_view : List (Vec Comparison Global) → List (List Formula)
rows_view rows = map (λ row. map said row.items) rows

-- no paths say what formulas say
abbrev pub NoPathIn : List Formula → Type 0
NoPathIn fs = (paths : List (List Printed.Comparison)) → All IsPath paths → map path_formula paths ≢ fs
