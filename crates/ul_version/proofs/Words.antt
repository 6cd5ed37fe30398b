-- One of the words of a list, by the head and by what follows.
use Rattle.std.proofs.Common.{◌≡◌, ℕ, zero, suc, List, [], ◌∷◌, ◌<◌, ◌⊎◌, inl, inr, length, arith, sym, get_or}
use Rattle.std.specs.List.{Contains}

abbrev pub IsOneOf : List (List ℕ) → List ℕ → Type 0
IsOneOf [] text = ⊥
IsOneOf (word ∷ words) text = (text ≡ word) ⊎ IsOneOf words text

one_at : (words : List (List ℕ)) (text : List ℕ) (k : ℕ) → k < length words → get_or words k text ≡ text → IsOneOf words text
one_at [] text k l e = absurd (omega arith)
one_at (word ∷ words) text zero l e = inl (sym e)
one_at (word ∷ words) text (suc k) l e = inr (one_at words text k (omega arith) e)

pub one_of : (words : List (List ℕ)) (text : List ℕ) → Contains words text → IsOneOf words text
one_of words text h = one_at words text h.0 h.1 h.2

pub contains_word : (words : List (List ℕ)) (text : List ℕ) → IsOneOf words text → Contains words text
contains_word [] text h = absurd h
contains_word (word ∷ words) text (inl e) = (0, omega arith, sym e)
contains_word (word ∷ words) text (inr h) = (let r = contains_word words text h in let l = r.1 in (suc r.0, omega arith, r.2))
