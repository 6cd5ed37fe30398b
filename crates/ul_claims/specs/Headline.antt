-- The main theorem of claims: what is known once the seats are put together.
use Rattle.std.specs.Prelude.{◌≤◌, ◌<◌, ◌↔◌, ℕ, List, Contains}
use Rattle.std.specs.List.Sorted.{IsStrictlyIncreasing}
use Rattle.ul_claims.specs.Seats.{ClaimsView, SeatView, IsDrawn, times_drawn, AreAll, HadNone}

-- the numbers that seats of these claims drew below the limit
pub record AreDrawn (claims : ClaimsView) (seats : List SeatView) (numbers : List ℕ) : Type 0 where
  -- they rise, so none stands twice
  pub rising : IsStrictlyIncreasing numbers
  -- they are the numbers below the limit that some seat drew
  pub exact : (n : ℕ) → Contains numbers n ↔ ((n < claims.limit) × IsDrawn seats n)
  -- no number was drawn twice, by one seat or by two
  pub apart : (n : ℕ) → times_drawn n seats ≤ 1
  -- where all seats are there, and one was answered None, they are all numbers below the limit
  pub whole : AreAll seats → HadNone seats → (n : ℕ) → n < claims.limit → Contains numbers n
