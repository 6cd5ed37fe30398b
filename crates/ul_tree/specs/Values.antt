-- The value of each level at a world with an extra, and the truth of a tree there.
use Rattle.std.specs.Prelude.{ℕ, zero, suc, ◌+◌, ◌*◌, ◌^◌, List, [], ◌∷◌, Bool, true, false, slice_index_or}
use Rattle.std.specs.List.{list_any}
use Rattle.std.specs.Ordering.{is_eq}
use Rattle.ul_comparison.specs.Atoms.{AtomFields}
use Rattle.ul_comparison.specs.Worlds.{WorldFields}
use Rattle.ul_nodes.specs.Levels.{atom_level}
use Rattle.ul_nodes.specs.Plain.{Plain, text_cmp, holds_of}

-- the interpreter as one number, which orders interpreters
abbrev pub number_of : WorldFields → ℕ
number_of w = w.major * 2 ^ 64 + w.minor * 2 ^ 32 + w.patch

-- whether the atom of a level is in a list
abbrev pub has_level : List AtomFields → List ℕ → Bool
has_level atoms l = list_any (λ a. is_eq (text_cmp (atom_level a) l)) atoms

-- the value of an opaque comparison: 1 where it holds, 0 where it fails
abbrev pub mark_of : Bool → List ℕ
mark_of true = 1 ∷ []
mark_of false = 0 ∷ []

-- the extra, the interpreter's number, the text of a text variable, or whether an atom holds
abbrev pub value_of : WorldFields → List ℕ → List ℕ → List ℕ
value_of w x [] = []
value_of w x (zero ∷ []) = x
value_of w x (suc zero ∷ []) = number_of w ∷ []
value_of w x (suc (suc i) ∷ []) = slice_index_or w.texts i []
value_of w x (a ∷ b ∷ rest) = mark_of (has_level w.truths (a ∷ b ∷ rest))

-- the truth of a tree at a world with an extra
abbrev pub tree_holds : Plain → WorldFields → List ℕ → Bool
tree_holds t w x = holds_of t (value_of w x)
