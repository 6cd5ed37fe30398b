-- The numbers of the generator: one draw from the seed, a package and a requirement, by the multiplier and the increment of
-- Knuth's generator MMIX (The Art of Computer Programming, volume 2).
use Rattle.std.specs.Prelude.{ℕ, ◌+◌, ◌*◌, ◌/◌, ◌%◌, ◌^◌}

-- MMIX's multiplier
abbrev pub multiplier : ℕ
multiplier = 6364136223846793005

-- MMIX's increment
abbrev pub increment : ℕ
increment = 1442695040888963407

-- the draw: its low 33 bits, which repeat soonest, are dropped
unfoldable pub draw : ℕ → ℕ → ℕ → ℕ
draw seed a b = ((seed + 1 + a * multiplier + b * increment) * multiplier) % (2 ^ 64) / (2 ^ 33)

-- the package that a draw of package k leads to: one of the next sixteen
abbrev pub target_of : ℕ → ℕ → ℕ
target_of k drawn = k + 1 + drawn % 16

-- the least version that a draw asks for: 1 or 2
abbrev pub least_of : ℕ → ℕ
least_of drawn = 1 + drawn / 16 % 2
