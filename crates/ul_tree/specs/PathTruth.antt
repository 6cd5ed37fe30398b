-- The truth of comparisons and of paths where each level has a value.
use Rattle.std.specs.Prelude.{ℕ, List, [], ◌∷◌, Bool, true, false, not}
use Rattle.std.specs.List.{list_all, list_any}
use Rattle.std.specs.Str.{bytes_eq}
use Rattle.std.specs.declared.cmp.Ordering.{Ordering}
use Rattle.std.specs.declared.cmp.Ordering.TheVariants.{Less, Equal, Greater}
use Rattle.ul_nodes.specs.Levels.{python_level}
use Rattle.ul_nodes.specs.Plain.{text_cmp}
use Rattle.ul_tree.specs.PathList.{Step}
use Rattle.ul_tree.specs.Comparisons.{Comparison, at_least, below, equals, differs, path_comparisons}

-- whether an order is `Less`
abbrev pub is_before : Ordering → Bool
is_before Less = true
is_before Equal = false
is_before Greater = false

-- the truth of a comparison
abbrev pub comparison_holds : (List ℕ → List ℕ) → Comparison → Bool
comparison_holds f (at_least n) = not (is_before (text_cmp (f python_level) (n ∷ [])))
comparison_holds f (below n) = is_before (text_cmp (f python_level) (n ∷ []))
comparison_holds f (equals l k) = bytes_eq (f l) k
comparison_holds f (differs l k) = not (bytes_eq (f l) k)

-- all comparisons of a path hold
abbrev pub path_holds : (List ℕ → List ℕ) → List Step → Bool
path_holds f path = list_all (comparison_holds f) (path_comparisons path)

-- some path holds
abbrev pub some_path_holds : (List ℕ → List ℕ) → List (List Step) → Bool
some_path_holds f paths = list_any (path_holds f) paths
