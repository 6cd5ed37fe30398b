-- The formula of a tree in which no comparison with `extras` stands has none.
use Rattle.std.proofs.Common.{◌≡◌, ◌∙◌, ◌++◌, ◌||◌, ◌^◌, ℕ, zero, suc, List, [], ◌∷◌, map, Bool, true, false, cond, refl, ap}
use Rattle.std.specs.Prelude.{◌==◌}
use Rattle.std.specs.List.{AllByRecursion, list_any}
use Rattle.std.proofs.lemmas.Bool.{or_parts}
use Rattle.std.proofs.lemmas.List.Folds.{list_any-append}
use Rattle.ul_comparison.specs.Atoms.{AtomFields, is_extras}
use Rattle.ul_comparison.specs.Formulas.{Formula, formulas_of}
use Rattle.ul_comparison.specs.Printed.{comparison_formula}
use Rattle.ul_marker.specs.Parts.{asks_extras, atoms_in, atoms_of}
use Rattle.ul_marker.specs.PrintedPaths.{path_formula, paths_formula}
use Rattle.ul_marker.specs.Reading.{chain_formula}
use Rattle.ul_marker.specs.declared.reading.Chain.{Chain}
use Rattle.ul_marker.specs.declared.reading.Chain.TheVariants.{Conjunction, Disjunction}
use Rattle.ul_nodes.specs.Apply.{keys}
use Rattle.ul_nodes.specs.Plain.{Plain, truth, node, Branches, done, branch, carries}
use Rattle.ul_tree.specs.Comparisons.{Comparison, at_least, below, equals, differs, comparisons_of, lower, path_comparisons, upper}
use Rattle.ul_tree.specs.PathList.{Step, interval, point, others, longer_paths, paths_at, paths_from, paths_to_true, start_of}
use Rattle.ul_marker_text.specs.MarkerText.{key_comparison, printed_form, printed_path, printed_paths}
use Rattle.laws_exports.specs.Lines.{compares_extras, is_extras_level, some_compare_extras}

more : {A : Type 0} (P : A → Type 0) (xs ys : List A) → AllByRecursion P xs → AllByRecursion P ys
    → AllByRecursion P (xs ++ ys)
more P [] ys h k = k
more P (x ∷ xs) ys h k = (h.0, more P xs ys h.1 k)

-- ---- paths

-- no level of the step is such a comparison
abbrev StepIsOther : Step → Type 0
StepIsOther (interval start end) = Unit {0}
StepIsOther (point l k) = is_extras_level l ≡ false
StepIsOther (others l ks) = is_extras_level l ≡ false

abbrev PathIsOther : List Step → Type 0
PathIsOther path = AllByRecursion StepIsOther path

abbrev AreOther : List (List Step) → Type 0
AreOther paths = AllByRecursion PathIsOther paths

longer : (s : Step) (paths : List (List Step)) → StepIsOther s → AreOther paths → AreOther (longer_paths s paths)
longer s [] h k = tt
longer s (p ∷ paths) h k = ((h, k.0), longer s paths h k.1)

by_kind : (first points : List (List Step)) (b : Bool) → AreOther first → AreOther points → AreOther (cond b first points)
by_kind first points true h k = h
by_kind first points false h k = k

mutual
  paths_other : (t : Plain) → compares_extras t ≡ false → AreOther (paths_to_true t)
  paths_other (truth true) h = (tt, tt)
  paths_other (truth false) h = tt
  paths_other (node l d bs) h =
      let first = or_parts (is_extras_level l) (compares_extras d || some_compare_extras bs) h in
      let rest = or_parts (compares_extras d) (some_compare_extras bs) first.1 in
      let below = paths_other d rest.0 in
      by_kind (paths_from 0 (paths_to_true d) bs)
      (paths_at l bs ++ longer_paths (others l (keys bs)) (paths_to_true d)) (carries l) (from_other bs 0 (paths_to_true d) rest.1 below)
      (more PathIsOther (paths_at l bs) (longer_paths (others l (keys bs)) (paths_to_true d))
      (at_other l bs first.0 rest.1) (longer (others l (keys bs)) (paths_to_true d) first.0 below))

  from_other : (bs : Branches) (start : ℕ) (paths : List (List Step)) → some_compare_extras bs ≡ false
      → AreOther paths → AreOther (paths_from start paths bs)
  from_other done start paths h k = longer (interval start (2 ^ 96)) paths tt k
  from_other (branch key c rest) start paths h k =
      let parts = or_parts (compares_extras c) (some_compare_extras rest) h in
      more PathIsOther (longer_paths (interval start (start_of key)) paths)
      (paths_from (start_of key) (paths_to_true c) rest) (longer (interval start (start_of key)) paths tt k)
      (from_other rest (start_of key) (paths_to_true c) parts.1 (paths_other c parts.0))

  at_other : (l : List ℕ) (bs : Branches) → is_extras_level l ≡ false → some_compare_extras bs ≡ false
      → AreOther (paths_at l bs)
  at_other l done h k = tt
  at_other l (branch key c rest) h k =
      let parts = or_parts (compares_extras c) (some_compare_extras rest) k in
      more PathIsOther (longer_paths (point l key) (paths_to_true c)) (paths_at l rest)
      (longer (point l key) (paths_to_true c) h (paths_other c parts.0)) (at_other l rest h parts.1)

-- ---- comparisons

-- what is printed for the comparison says nothing of `extras`
abbrev SaysNoExtras : Comparison → Type 0
SaysNoExtras c = asks_extras (comparison_formula (printed_form c)) ≡ false

key_says : (equal : Bool) (l k : List ℕ) → is_extras_level l ≡ false
    → asks_extras (comparison_formula (key_comparison equal l k)) ≡ false
key_says equal [] k h = refl
key_says equal (zero ∷ []) k h = refl
key_says equal (suc zero ∷ []) k h = refl
key_says equal (suc (suc i) ∷ []) k h = refl
key_says equal (a ∷ b ∷ rest) k h = ap (λ x. x || false) h

differ_say : (l : List ℕ) (ks : List (List ℕ)) → is_extras_level l ≡ false
    → AllByRecursion SaysNoExtras (map (differs l) ks)
differ_say l [] h = tt
differ_say l (k ∷ ks) h = (key_says false l k h, differ_say l ks h)

lower_says : (start : ℕ) → AllByRecursion SaysNoExtras (lower start)
lower_says start = by_test (start == 0)
  where
    by_test : (b : Bool) → AllByRecursion SaysNoExtras (cond b [] (at_least start ∷ []))
    by_test true = tt
    by_test false = (refl, tt)

upper_says : (end : ℕ) → AllByRecursion SaysNoExtras (upper end)
upper_says end = by_test (end == 2 ^ 96)
  where
    by_test : (b : Bool) → AllByRecursion SaysNoExtras (cond b [] (below end ∷ []))
    by_test true = tt
    by_test false = (refl, tt)

step_says : (s : Step) → StepIsOther s → AllByRecursion SaysNoExtras (comparisons_of s)
step_says (interval start end) h = more SaysNoExtras (lower start) (upper end) (lower_says start) (upper_says end)
step_says (point l k) h = (key_says true l k h, tt)
step_says (others l ks) h = differ_say l ks h

path_says : (path : List Step) → PathIsOther path → AllByRecursion SaysNoExtras (path_comparisons path)
path_says [] h = tt
path_says (s ∷ path) h =
    more SaysNoExtras (comparisons_of s) (path_comparisons path) (step_says s h.0) (path_says path h.1)

-- ---- formulas

-- formulas without such a comparison
abbrev AreSilent : List Formula → Type 0
AreSilent fs = AllByRecursion (λ f. asks_extras f ≡ false) fs

both_false : (a b : Bool) → a ≡ false → b ≡ false → (a || b) ≡ false
both_false false b h k = k
both_false true b h k = absurd (cc h)

some_silent : (fs : List Formula) → AreSilent fs
    → list_any (λ (a : AtomFields). is_extras a.variable) (atoms_in (formulas_of fs)) ≡ false
some_silent [] h = refl
some_silent (f ∷ fs) h =
    list_any-append (λ (a : AtomFields). is_extras a.variable) (atoms_of f) (atoms_in (formulas_of fs))
    ∙ both_false (asks_extras f) _ h.0 (some_silent fs h.1)

chain_silent : (chain : Chain) (fs : List Formula) → AreSilent fs → asks_extras (chain_formula chain fs) ≡ false
chain_silent Conjunction [] h = refl
chain_silent Disjunction [] h = refl
chain_silent chain (f ∷ []) h = h.0
chain_silent Conjunction (f ∷ g ∷ fs) h = some_silent (f ∷ g ∷ fs) h
chain_silent Disjunction (f ∷ g ∷ fs) h = some_silent (f ∷ g ∷ fs) h

said_silent : (cs : List Comparison) → AllByRecursion SaysNoExtras cs
    → AreSilent (map comparison_formula (map printed_form cs))
said_silent [] h = tt
said_silent (c ∷ cs) h = (h.0, said_silent cs h.1)

all_silent : (paths : List (List Step)) → AreOther paths → AreSilent (map path_formula (map printed_path paths))
all_silent [] h = tt
all_silent (p ∷ paths) h = (
  chain_silent Conjunction (map comparison_formula (printed_path p))
      (said_silent (path_comparisons p) (path_says p h.0)),
  all_silent paths h.1,
)

-- the formula of a tree's paths compares no `extras`, where the tree doesn't
pub tree_silent : (t : Plain) → compares_extras t ≡ false → asks_extras (paths_formula (printed_paths t)) ≡ false
tree_silent t h =
    chain_silent Disjunction (map path_formula (printed_paths t)) (all_silent (paths_to_true t) (paths_other t h))
