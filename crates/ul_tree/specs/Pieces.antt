-- The pieces of the line of interpreters on each of which a clause has one truth.
use Rattle.std.specs.Prelude.{ℕ, ◌+◌, ◌-◌, ◌*◌, ◌/◌, ◌%◌, ◌^◌, List, [], ◌∷◌, Bool, not, min, slice_index, if◌then◌else◌}
use Rattle.ul_version.specs.Fields.{plain}
use Rattle.ul_specifier.specs.Clauses.{ClauseFields}
use Rattle.ul_specifier.specs.Meaning.{meets_clause}
use Rattle.ul_comparison.specs.Truth.{python_numbers}
use Rattle.ul_nodes.specs.Plain.{Plain, truth, Branches, done, branch}
use Rattle.ul_nodes.specs.Levels.{python_level}
use Rattle.ul_nodes.specs.Apply.{close, same_bool}

-- ---- interpreters as numbers

-- three numbers as one
abbrev pub packed_number : ℕ → ℕ → ℕ → ℕ
packed_number major minor patch = major * 2 ^ 64 + minor * 2 ^ 32 + patch

-- an interpreter's major number, by its number
abbrev pub major_of : ℕ → ℕ
major_of n = n / 2 ^ 32 / 2 ^ 32 % 2 ^ 32

-- an interpreter's minor number, by its number
abbrev pub minor_of : ℕ → ℕ
minor_of n = n / 2 ^ 32 % 2 ^ 32

-- an interpreter's patch number, by its number
abbrev pub patch_of : ℕ → ℕ
patch_of n = n % 2 ^ 32

-- whether the interpreter of a number meets a clause, by all three numbers or the first two
unfoldable pub meets_at : ClauseFields → Bool → ℕ → Bool
meets_at clause full n = meets_clause clause (plain (python_numbers full (major_of n) (minor_of n) (patch_of n)))

-- ---- where the truth may change

-- a number of a release, and at most the greatest that an interpreter may have
abbrev pub digit : List ℕ → ℕ → ℕ
digit release i = min (slice_index release i) (2 ^ 32 - 1)

-- at most the last interpreter
abbrev pub capped_number : ℕ → ℕ
capped_number n = min n (2 ^ 96 - 1)

-- the first interpreter that has the release's first number, its first two, and its first three, and the next
-- after all that have the first three, the first two, and the first
abbrev pub cuts_at : ℕ → ℕ → ℕ → List ℕ
cuts_at a b c =
    packed_number a 0 0 ∷ packed_number a b 0 ∷ packed_number a b c ∷ capped_number (packed_number a b c + 1) ∷ capped_number (packed_number a b 0 + 2 ^ 32) ∷ capped_number (packed_number a 0 0 + 2 ^ 64) ∷ []

-- the interpreters at which the truth of a clause with this release may change, in order
unfoldable pub cuts_of : List ℕ → List ℕ
cuts_of release = cuts_at (digit release 0) (digit release 1) (digit release 2)

-- those of a list at each of which a test changes, beginning with this truth
abbrev pub changes_of : (ℕ → Bool) → Bool → List ℕ → List ℕ
changes_of test held [] = []
changes_of test held (c ∷ cuts) = if same_bool (test c) held then changes_of test held cuts else c ∷ changes_of test (test c) cuts

-- the interpreters at which the truth of a clause changes
abbrev pub starts_of : ClauseFields → Bool → List ℕ
starts_of clause full = changes_of (meets_at clause full) (meets_at clause full 0) (cuts_of clause.version.release)

-- ---- a truth that changes

-- the branches of a truth that changes at each start
abbrev pub steps_of : Bool → List ℕ → Branches
steps_of held [] = done
steps_of held (s ∷ starts) = branch (s ∷ []) (truth (not held)) (steps_of (not held) starts)

-- the tree of a truth that changes at each start
abbrev pub stepped_of : Bool → List ℕ → Plain
stepped_of held starts = close python_level (truth held) (steps_of held starts)

-- the parts of a truth that changes at each start, after each
abbrev pub flipping : Bool → List ℕ → List Plain
flipping held [] = []
flipping held (s ∷ starts) = truth (not held) ∷ flipping (not held) starts
