-- The levels of decision trees over environments, from the top: the extra, the interpreter, the eight text
-- variables in their order, and opaque comparisons in their order; and the keys of each.
use Rattle.std.specs.Prelude.{ℕ, zero, suc, List, [], ◌∷◌, ◌<◌, ◌≡◌, ◌^◌, ◌⊎◌, true}
use Rattle.ul_base.specs.Names.{IsNormalName}
use Rattle.ul_comparison.specs.Atoms.{AtomFields, IsAtom, atom_key, is_literal, text_number}
use Rattle.ul_comparison.specs.declared.variable.Variable.{Variable}

-- the extra
abbrev pub extra_level : List ℕ
extra_level = 0 ∷ []

-- the interpreter
abbrev pub python_level : List ℕ
python_level = 1 ∷ []

-- a text variable
abbrev pub text_level : Variable → List ℕ
text_level v = suc (suc (text_number v)) ∷ []

-- an opaque comparison: below all others, in the order of atoms
abbrev pub atom_level : AtomFields → List ℕ
atom_level a = 10 ∷ atom_key a

-- an extra is empty or a name in its normal form
abbrev pub IsExtra : List ℕ → Type 0
IsExtra x = (x ≡ []) ⊎ IsNormalName x

-- the level of an atom that a marker's text can spell
abbrev pub IsAtomLevel : List ℕ → Type 0
IsAtomLevel l = (a : AtomFields) × IsAtom a × (l ≡ atom_level a)

-- what a branch of a level may have as its key: an extra; an interpreter as a number above 0, where its piece
-- starts; a literal; and the one key of an opaque comparison, which stands for that it holds
abbrev pub IsKey : List ℕ → List ℕ → Type 0
IsKey [] k = ⊥
IsKey (zero ∷ []) k = IsExtra k
IsKey (suc zero ∷ []) k = (x : ℕ) × (k ≡ x ∷ []) × (0 < x) × (x < 2 ^ 96)
IsKey (suc (suc i) ∷ []) k = (i < 8) × (is_literal k ≡ true)
IsKey (a ∷ b ∷ rest) k = IsAtomLevel (a ∷ b ∷ rest) × (k ≡ 1 ∷ [])
