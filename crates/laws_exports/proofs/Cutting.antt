-- A text that is cut into its lines.
use Rattle.std.proofs.Common.{◌≡◌, ℕ, List, [], ◌∷◌, ◌++◌, Bool, true, false, true≢false, eqb, refl, ap}
use Rattle.std.specs.Prelude.{◌==◌, ◌||◌, if◌then◌else◌}
use Rattle.std.specs.List.{list_any}
use Rattle.ul_lines.specs.Lines.{lines_of, onto_first}

-- a line in front is the first
pub first_line : (line rest : List ℕ) → list_any (λ b. b == 10) line ≡ false
    → lines_of (line ++ 10 ∷ rest) ≡ (line ++ 10 ∷ []) ∷ lines_of rest
unfolding lines_of
first_line [] rest h = refl
first_line (x ∷ line) rest h = by_first (eqb x 10) h (first_line line rest)
  where
    by_first : (t : Bool) → (t || list_any (λ b. b == 10) line) ≡ false
        → (list_any (λ b. b == 10) line ≡ false → lines_of (line ++ 10 ∷ rest) ≡ (line ++ 10 ∷ []) ∷ lines_of rest)
        → (if t then (10 ∷ []) ∷ lines_of (line ++ 10 ∷ rest) else onto_first x (lines_of (line ++ 10 ∷ rest)))
        ≡ (x ∷ (line ++ 10 ∷ [])) ∷ lines_of rest
    by_first true e again = absurd (true≢false e)
    by_first false e again = ap (onto_first x) (again e)
