-- The index of a body: from a hash to the marks that have it, by buckets.
use Rattle.std.specs.Prelude.{◌≡◌, ◌≢◌, ℕ, suc, ◌*◌, ◌/◌, ◌%◌, ◌<◌, ◌≤◌, List, map, length, slice_index}
use Rattle.ul_interner.specs.Marked.{Marked, stored_hash}

-- the bucket of a hash, of so many
abbrev pub bucket_of : ℕ → ℕ → ℕ
bucket_of count hash = hash * 11400714819323198485 % 18446744073709551616 / 4294967296 % count

-- the buckets of the marks, in order
abbrev pub buckets : {L : Type 0} → ℕ → List (Marked L) → List ℕ
buckets count marks = map (λ m. bucket_of count (stored_hash m)) marks

-- Of the first k marks the newest one in the bucket b stands just below c, and c is 0 where there is none.
pub record IsNewest (of : List ℕ) (b k c : ℕ) : Type 0 where
  pub within : c ≤ k
  pub here : (p : ℕ) → suc p ≡ c → slice_index of p ≡ b
  pub none : (p : ℕ) → c ≤ p → p < k → slice_index of p ≢ b

-- Each bucket has its newest mark, and each mark the next older one of its bucket.
pub record IsIndex (of : List ℕ) (count : ℕ) (older newest : List ℕ) : Type 0 where
  pub newest_of : (b : ℕ) → b < count → IsNewest of b (length of) (slice_index newest b)
  pub older_of : (p : ℕ) → p < length of → IsNewest of (slice_index of p) p (slice_index older p)

-- the index of a body's marks
pub record IsIndexed {L : Type 0} (marks : List (Marked L)) (older newest : List ℕ) : Type 0 where
  pub some : 0 < length newest
  pub long : length older ≡ length marks
  pub index : IsIndex (buckets (length newest) marks) (length newest) older newest
