-- Atoms in increasing order, each once, by a test.
use Rattle.std.specs.Prelude.{◌≡◌, ◌&&◌, ℕ, Bool, true, false, List, [], ◌∷◌}
use Rattle.std.specs.List.Sorted.{IsPartitionPoint}
use Rattle.std.specs.Ordering.{is_lt}
use Rattle.ul_comparison.specs.Atoms.{AtomFields, atom_cmp}

-- whether atoms increase, all of them after one
abbrev pub rises_after : AtomFields → List AtomFields → Bool
rises_after a [] = true
rises_after a (b ∷ rest) = is_lt (atom_cmp a b) && rises_after b rest

-- whether atoms increase
abbrev pub rises : List AtomFields → Bool
rises [] = true
rises (a ∷ rest) = rises_after a rest

-- so many of the atoms come before one, and no others
abbrev pub IsPlace : AtomFields → List AtomFields → ℕ → Type 0
IsPlace a atoms i = IsPartitionPoint (λ b. is_lt (atom_cmp b a) ≡ true) (λ b. is_lt (atom_cmp b a) ≡ false) atoms i
