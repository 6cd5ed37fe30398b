-- The numbers below 2 ^ 96 cut into half-open pieces, as the list of the pieces' starts. A version of three numbers a, b, c below
-- 2 ^ 32 is the number a * 2 ^ 64 + b * 2 ^ 32 + c, so the order of such numbers is that of the versions.
use Rattle.std.specs.Prelude.{◌≡◌, ℕ, ◌+◌, ◌^◌, ◌<◌, ◌≤◌, ◌⊎◌, ◌↔◌, List, length, Some, slice_get, slice_index, slice_index_or, All, Contains}
use Rattle.std.specs.List.Sorted.{IsStrictlyIncreasing}

-- the first piece starts at 0, each start is below the next, and all are below 2 ^ 96
pub record AreStarts (starts : List ℕ) : Type 0 where
  pub first : slice_get starts 0 ≡ Some 0
  pub rising : IsStrictlyIncreasing starts
  pub below : All (λ s. s < 2 ^ 96) starts

-- x lies in piece k: from its start on, and before the next start, or before 2 ^ 96 where it is the last piece
pub record IsPiece (starts : List ℕ) (k x : ℕ) : Type 0 where
  pub piece : k < length starts
  pub from : slice_index starts k ≤ x
  pub to : x < slice_index_or starts (k + 1) (2 ^ 96)

-- the pieces cut by both: their starts are those of either
pub record IsRefinement (a b starts : List ℕ) : Type 0 where
  pub cuts : AreStarts starts
  pub members : (x : ℕ) → Contains starts x ↔ (Contains a x ⊎ Contains b x)
