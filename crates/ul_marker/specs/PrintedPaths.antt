-- Printed comparisons joined by `and` and by `or`, and what their texts are read as.
use Rattle.std.specs.Prelude.{◌≡◌, ℕ, List, [], ◌∷◌, ◌++◌, map, codes, Some, All, length, ◌<◌}
use Rattle.ul_comparison.specs.Formulas.{Formula}
use Rattle.ul_comparison.specs.Printed.{Comparison, IsComparison, comparison_formula, comparison_text}
use Rattle.ul_marker.specs.Reading.{chain_formula, printed_marker_of}
use Rattle.ul_marker.specs.declared.reading.Chain.TheVariants.{Conjunction, Disjunction}

-- comparisons joined by ` and `
abbrev pub path_text : List Comparison → List ℕ
path_text [] = []
path_text (c ∷ []) = comparison_text c
path_text (c ∷ d ∷ path) = comparison_text c ++ (codes " and " ++ path_text (d ∷ path))

-- paths joined by ` or `
abbrev pub paths_text : List (List Comparison) → List ℕ
paths_text [] = []
paths_text (path ∷ []) = path_text path
paths_text (path ∷ next ∷ paths) = path_text path ++ (codes " or " ++ paths_text (next ∷ paths))

-- a path of comparisons, of which there is one at least
abbrev pub IsPath : List Comparison → Type 0
IsPath path = (0 < length path) × All IsComparison path

-- what a path says
abbrev pub path_formula : List Comparison → Formula
path_formula path = chain_formula Conjunction (map comparison_formula path)

-- what paths say, of which one is enough
abbrev pub paths_formula : List (List Comparison) → Formula
paths_formula paths = chain_formula Disjunction (map path_formula paths)

-- a printed comparison is read as what it says
abbrev pub ComparisonReads : Type 0
ComparisonReads = (c : Comparison) → IsComparison c → printed_marker_of (comparison_text c) ≡ Some (comparison_formula c)

-- so are printed comparisons joined by ` and ` and by ` or `
abbrev pub PathsRead : Type 0
PathsRead = (paths : List (List Comparison)) → 0 < length paths → All IsPath paths → printed_marker_of (paths_text paths) ≡ Some (paths_formula paths)

-- comparisons that say the same are one
abbrev pub ComparisonsAreTold : Type 0
ComparisonsAreTold = (c d : Comparison) → comparison_formula c ≡ comparison_formula d → c ≡ d
