-- Texts of lines.
use Rattle.std.specs.Prelude.{ℕ, List, [], ◌∷◌, length, Bool, false, ◌==◌, if◌then◌else◌}

-- a byte before the first line
abbrev pub onto_first : ℕ → List (List ℕ) → List (List ℕ)
onto_first x [] = (x ∷ []) ∷ []
onto_first x (l ∷ ls) = (x ∷ l) ∷ ls

-- the lines of a text, each with its LF; the last may have none
unfoldable pub lines_of : List ℕ → List (List ℕ)
lines_of [] = []
lines_of (x ∷ xs) = if x == 10 then (10 ∷ []) ∷ lines_of xs else onto_first x (lines_of xs)

-- an LF stands at the end of the text, and nowhere before
abbrev pub ends_line : List ℕ → Bool
ends_line [] = false
ends_line (x ∷ xs) = if x == 10 then (length xs == 0) else ends_line xs
