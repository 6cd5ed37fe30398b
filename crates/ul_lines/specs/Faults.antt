-- The first line that is wrong, where some lists of lines are right: `Right` says which.
use Rattle.std.specs.Prelude.{◌≡◌, ℕ, ◌+◌, List, [], ◌∷◌, ◌++◌, length}

-- these are the first lines of something that is right
abbrev pub IsFront : (List (List ℕ) → Type 0) → List (List ℕ) → Type 0
IsFront Right lines = (more : List (List ℕ)) × Right (lines ++ more)

-- what comes next is wrong: the line that follows, or the end
abbrev pub IsWrong : (List (List ℕ) → Type 0) → List (List ℕ) → List (List ℕ) → Type 0
IsWrong Right before [] = ¬ Right before
IsWrong Right before (l ∷ ls) = ¬ IsFront Right (before ++ l ∷ [])

-- n is the first line, from 1, such that the first n lines aren't the first lines of anything that is right; or the
-- number of lines plus one, where all lines are such, but no more is right than is there
pub record IsFault (Right : List (List ℕ) → Type 0) (lines : List (List ℕ)) (n : ℕ) : Type 0 where
  pub before : List (List ℕ)
  pub rest : List (List ℕ)
  pub whole : lines ≡ before ++ rest
  pub count : n ≡ length before + 1
  pub good : IsFront Right before
  pub wrong : IsWrong Right before rest
