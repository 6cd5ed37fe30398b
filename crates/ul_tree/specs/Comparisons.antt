-- The comparisons of a path.
use Rattle.std.specs.Prelude.{ℕ, List, [], ◌∷◌, ◌++◌, ◌==◌, ◌^◌, map, if◌then◌else◌}
use Rattle.std.specs.List.{flat_map}
use Rattle.ul_tree.specs.PathList.{Step, interval, point, others}

-- an interpreter is at least this one, or below it; a level has this key, or another
pub data Comparison : Type 0 where
  at_least : ℕ → Comparison
  below : ℕ → Comparison
  equals : List ℕ → List ℕ → Comparison
  differs : List ℕ → List ℕ → Comparison

-- where a piece starts, unless it starts at the first interpreter
abbrev pub lower : ℕ → List Comparison
lower start = if start == 0 then [] else at_least start ∷ []

-- where a piece ends, unless it reaches up to the last interpreter
abbrev pub upper : ℕ → List Comparison
upper end = if end == 2 ^ 96 then [] else below end ∷ []

-- the comparisons of a step
abbrev pub comparisons_of : Step → List Comparison
comparisons_of (interval start end) = lower start ++ upper end
comparisons_of (point l k) = equals l k ∷ []
comparisons_of (others l ks) = map (differs l) ks

-- the comparisons of a path
abbrev pub path_comparisons : List Step → List Comparison
path_comparisons path = flat_map comparisons_of path
