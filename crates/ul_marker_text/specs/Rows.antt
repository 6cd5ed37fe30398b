-- The paths of a text that is read as a marker, and their steps.
use Rattle.std.specs.Prelude.{◌≡◌, ◌<◌, ◌≢◌, ◌^◌, ℕ, zero, suc, List, [], ◌∷◌, map, length, Bool, true, false, All, Option, Some, None, if◌then◌else◌}
use Rattle.std.specs.Str.{bytes_eq}
use Rattle.ul_comparison.specs.Formulas.{Formula, Formulas, extra, python, python_list, text, opaque, all, any, none, more}
use Rattle.ul_comparison.specs.Printed as Printed
use Rattle.ul_comparison.specs.Printed.{bound, extra_is, text_is, atom_is, comparison_formula, IsComparison}
use Rattle.ul_marker.specs.PrintedPaths.{IsPath, paths_formula}
use Rattle.ul_tree.specs.Comparisons.{Comparison, at_least, below, equals, differs}
use Rattle.ul_nodes.specs.Levels.{extra_level, text_level, atom_level}
use Rattle.ul_tree.specs.PathList.{Step, interval, point, others}
use Rattle.ul_tree.specs.Pieces.{packed_number}

-- ---- rows of comparisons

-- formulas in a row
abbrev pub formula_list : Formulas → List Formula
formula_list none = []
formula_list (more f fs) = f ∷ formula_list fs

-- the formulas that are joined by `or`, or one alone
abbrev pub disjuncts : Formula → List Formula
disjuncts (extra literal equal) = extra literal equal ∷ []
disjuncts (python full clause) = python full clause ∷ []
disjuncts (python_list full versions within) = python_list full versions within ∷ []
disjuncts (text variable literal equal) = text variable literal equal ∷ []
disjuncts (opaque atom positive) = opaque atom positive ∷ []
disjuncts (all fs) = all fs ∷ []
disjuncts (any fs) = formula_list fs

-- the formulas that are joined by `and`, or one alone
abbrev pub conjuncts : Formula → List Formula
conjuncts (extra literal equal) = extra literal equal ∷ []
conjuncts (python full clause) = python full clause ∷ []
conjuncts (python_list full versions within) = python_list full versions within ∷ []
conjuncts (text variable literal equal) = text variable literal equal ∷ []
conjuncts (opaque atom positive) = opaque atom positive ∷ []
conjuncts (all fs) = formula_list fs
conjuncts (any fs) = any fs ∷ []

-- a formula isn't joined by `or`
abbrev pub IsAlone : Formula → Type 0
IsAlone f = disjuncts f ≡ f ∷ []

-- no printed comparisons say what formulas say
abbrev pub IsNoRow : List Formula → Type 0
IsNoRow fs = (cs : List Printed.Comparison) → All IsComparison cs → map comparison_formula cs ≢ fs

-- no paths say what a formula says
abbrev pub IsNoRows : Formula → Type 0
IsNoRows f = (paths : List (List Printed.Comparison)) → 0 < length paths → All IsPath paths → paths_formula paths ≢ f

-- ---- what a printed comparison asks of a level

-- that a level has a key, or another
abbrev pub has_key_comparison : Bool → List ℕ → List ℕ → Comparison
has_key_comparison true level key = equals level key
has_key_comparison false level key = differs level key

-- the interpreter is at least a number, or below it
abbrev pub bound_comparison : Bool → ℕ → Comparison
bound_comparison true number = at_least number
bound_comparison false number = below number

-- what a printed comparison asks
abbrev pub comparison_asked : Printed.Comparison → Comparison
comparison_asked (bound lower major minor patch) = bound_comparison lower (packed_number major minor patch)
comparison_asked (extra_is literal equal) = has_key_comparison equal extra_level literal
comparison_asked (text_is variable literal equal) = has_key_comparison equal (text_level variable) literal
comparison_asked (atom_is atom holds) = has_key_comparison holds (atom_level atom) (1 ∷ [])

-- ---- steps

-- whether a comparison says that a level hasn't a key
abbrev pub is_other : List ℕ → Comparison → Bool
is_other level (at_least n) = false
is_other level (below n) = false
is_other level (equals m k) = false
is_other level (differs m k) = bytes_eq level m

-- the keys that a level has not, at the front of comparisons
abbrev pub front_keys : List ℕ → List Comparison → List (List ℕ)
front_keys level [] = []
front_keys level (at_least n ∷ cs) = []
front_keys level (below n ∷ cs) = []
front_keys level (equals m k ∷ cs) = []
front_keys level (differs m k ∷ cs) = if bytes_eq level m then k ∷ front_keys level cs else []

-- the comparisons after these
abbrev pub after_keys : List ℕ → List Comparison → List Comparison
after_keys level [] = []
after_keys level (at_least n ∷ cs) = at_least n ∷ cs
after_keys level (below n ∷ cs) = below n ∷ cs
after_keys level (equals m k ∷ cs) = equals m k ∷ cs
after_keys level (differs m k ∷ cs) = if bytes_eq level m then after_keys level cs else differs m k ∷ cs

-- a step, and the comparisons after it
abbrev pub Front : Type 0
Front = Option (Step × List Comparison)

-- an interval that starts at a number, and what follows it
abbrev pub interval_from : ℕ → List Comparison → Front
interval_from start (below end ∷ cs) = Some (interval start end, cs)
interval_from start [] = Some (interval start (2 ^ 96), [])
interval_from start (at_least n ∷ cs) = Some (interval start (2 ^ 96), at_least n ∷ cs)
interval_from start (equals l k ∷ cs) = Some (interval start (2 ^ 96), equals l k ∷ cs)
interval_from start (differs l k ∷ cs) = Some (interval start (2 ^ 96), differs l k ∷ cs)

-- the step at the front of comparisons
abbrev pub front_step : List Comparison → Front
front_step [] = None
front_step (at_least n ∷ cs) = interval_from n cs
front_step (below n ∷ cs) = Some (interval 0 n, cs)
front_step (equals l k ∷ cs) = Some (point l k, cs)
front_step (differs l k ∷ cs) = Some (others l (k ∷ front_keys l cs), after_keys l cs)

-- the step at the front, and those that a reader finds behind it
abbrev pub steps_with : (List Comparison → List Step) → Front → List Step
steps_with rest None = []
steps_with rest (Some front) = front.0 ∷ rest front.1

-- the steps of comparisons, so many at most
abbrev pub steps_of : ℕ → List Comparison → List Step
steps_of zero cs = []
steps_of (suc n) cs = steps_with (steps_of n) (front_step cs)
