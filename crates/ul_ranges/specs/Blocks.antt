-- A set of numbers in blocks of 64 bits: number k is bit k % 64 of block k / 64, the lowest bit first.
use Rattle.std.specs.Prelude.{◌≡◌, ℕ, ◌+◌, ◌*◌, ◌/◌, ◌%◌, ◌^◌, ◌<◌, ◌≤◌, ◌==◌, ◌↔◌, List, length, Bool, false, get_or, slice_index, map, IsTrue}
use Rattle.std.specs.Int.{bit_at}
use Rattle.std.specs.List.{range_with_len}
use Rattle.ul_ranges.specs.Flags.{has}

-- how many blocks hold the flags of a size: a 64th of it, rounded up
abbrev pub block_count : ℕ → ℕ
block_count size = (size + 63) / 64

-- bit i of a word
unfoldable pub flag : ℕ → ℕ → Bool
flag word i = bit_at word i == 1

-- flag k of a list of blocks; past their end there is none
unfoldable pub flag_at : List ℕ → ℕ → Bool
flag_at blocks k = flag (get_or blocks (k / 64) 0) (k % 64)

-- the first `size` flags
unfoldable pub flags_of : ℕ → List ℕ → List Bool
flags_of size blocks = map (λ k. flag_at blocks k) (range_with_len 0 size)

-- there are as many blocks as a size needs, each has 64 bits, and no bit past the size is set
pub record IsExact (size : ℕ) (blocks : List ℕ) : Type 0 where
  pub count : length blocks ≡ block_count size
  pub words : (j : ℕ) → get_or blocks j 0 < 2 ^ 64
  pub clear : (k : ℕ) → size ≤ k → flag_at blocks k ≡ false

-- these are the blocks of a set: block k has bit i exactly where 64 * k + i is a member
pub record AreBlocksOf (s : List Bool) (blocks : List ℕ) : Type 0 where
  pub count : length blocks ≡ block_count (length s)
  pub bits : (k i : ℕ) → i < 64 → (bit_at (slice_index blocks k) i ≡ 1) ↔ IsTrue (has (64 * k + i) s)
