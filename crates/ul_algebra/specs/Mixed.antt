-- Hashes that go on over texts and numbers.
use Rattle.std.specs.Prelude.{ℕ, ◌/◌, ◌%◌, ◌^◌, List}
use Rattle.std.specs.List.{fold}
use Rattle.ul_core.specs.Hashes.{next_hash}

-- the hash so far, with the bytes of a text
abbrev pub text_mixed : ℕ → List ℕ → ℕ
text_mixed h text = fold next_hash h text

-- with one text more, and its end
abbrev pub point_mixed : ℕ → List ℕ → ℕ
point_mixed h text = next_hash (text_mixed h text) 256

-- with one number more, by its two halves
abbrev pub start_mixed : ℕ → ℕ → ℕ
start_mixed h n = next_hash (next_hash h (n / 2 ^ 64)) (n % 2 ^ 64)
