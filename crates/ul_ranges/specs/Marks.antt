-- Blocks in which the bits of some numbers are set.
use Rattle.std.specs.Prelude.{◌≡◌, ℕ, ◌-◌, ◌*◌, ◌^◌, ◌<◌, List, length, nat_eq, get_or, min}
use Rattle.std.specs.List.{list_any}
use Rattle.ul_ranges.specs.Blocks.{block_count, flag, flag_at}

-- the blocks of this size have the flags of these numbers and no others
pub record HasMarked (size : ℕ) (blocks members : List ℕ) : Type 0 where
  pub count : length blocks ≡ block_count size
  pub words : (j : ℕ) → get_or blocks j 0 < 2 ^ 64
  pub flags : (k : ℕ) → flag_at blocks k ≡ list_any (λ m. nat_eq m k) members

-- the word has the bits of these numbers and no others
pub record IsMarkedWord (word : ℕ) (members : List ℕ) : Type 0 where
  pub fits : word < 2 ^ 64
  pub flags : (k : ℕ) → k < 64 → flag word k ≡ list_any (λ m. nat_eq m k) members

-- a block of the numbers below a count: its lowest bits are set, as many as there are such numbers from its first on, and 64 at most
abbrev pub front_word : ℕ → ℕ → ℕ
front_word count place = 2 ^ min (count - 64 * place) 64 - 1
