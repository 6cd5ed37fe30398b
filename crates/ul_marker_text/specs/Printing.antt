-- What the paths of a tree add to a text, behind what stands already.
use Rattle.std.specs.Prelude.{◌≡◌, ℕ, List, [], ◌∷◌, ◌++◌, map, codes}
use Rattle.ul_comparison.specs.Printed as Printed
use Rattle.ul_comparison.specs.Printed.{comparison_text}
use Rattle.ul_tree.specs.Comparisons.{Comparison, differs, path_comparisons}
use Rattle.ul_tree.specs.PathList.{Step}
use Rattle.ul_marker_text.specs.MarkerText.{printed_form}

-- a text behind others, with the separator between where others stand
abbrev pub separated_text : List ℕ → List ℕ → List ℕ → List ℕ
separated_text separator [] text = text
separated_text separator (b ∷ bs) text = (b ∷ bs) ++ (separator ++ text)

-- texts behind others, with the separator between each two
abbrev pub joined_onto : List ℕ → List ℕ → List (List ℕ) → List ℕ
joined_onto separator before [] = before
joined_onto separator before (text ∷ texts) = joined_onto separator (separated_text separator before text) texts

-- comparisons behind others of their path
abbrev pub and_joined : List ℕ → List Comparison → List ℕ
and_joined before cs = joined_onto (codes " and ") before (map (λ c. comparison_text (printed_form c)) cs)

-- a path whose first comparisons stand already
abbrev pub path_behind : List ℕ → List Step → List ℕ
path_behind prefix path = and_joined prefix (path_comparisons path)

-- paths behind others, whose first comparisons stand already
unfoldable pub paths_behind : List ℕ → List ℕ → List (List Step) → List ℕ
paths_behind before prefix paths = joined_onto (codes " or ") before (map (path_behind prefix) paths)

-- a comparison is written behind others of its path
abbrev pub IsAdded : List ℕ → Printed.Comparison → List ℕ → Type 0
IsAdded before c after = after ≡ separated_text (codes " and ") before (comparison_text c)

-- keys that a level has not, behind other comparisons
abbrev pub others_joined : List ℕ → List ℕ → List (List ℕ) → List ℕ
others_joined level before keys = and_joined before (map (differs level) keys)
