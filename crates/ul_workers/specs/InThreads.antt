-- What is asked and said of a call at each place of a list.
use Rattle.std.specs.Prelude.{ℕ, ◌+◌, ◌^◌, ◌<◌, List, length, slice_index_or}

-- a call is accepted at each place of a list that begins at this place of another
pub record AcceptsFrom {T : Type 0} (P : ℕ → T → Type 0) (base : ℕ) (xs : List T) : Type 0 where
  pub room : base + length xs < 2 ^ 64
  pub each : (k : ℕ) (d : T) → k < length xs → P (base + k) (slice_index_or xs k d)

-- a call was made at each place, which changed the one list into the other
pub record ChangesFrom {T : Type 0} (R : ℕ → T → T → Type 0) (base : ℕ) (xs ys : List T) : Type 0 where
  pub each : (k : ℕ) (d : T) → k < length xs → R (base + k) (slice_index_or xs k d) (slice_index_or ys k d)
