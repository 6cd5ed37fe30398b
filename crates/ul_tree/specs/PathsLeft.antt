-- Paths to true that are counted up to a limit.
use Rattle.std.specs.Prelude.{ℕ, ◌+◌, ◌≤◌, ◌≡◌, Option, Some, None}
use Rattle.ul_nodes.specs.Plain.{Plain}
use Rattle.ul_tree.specs.Paths.{paths_of, levels_of}

-- how many of so many paths to true are left after those of a tree; none where the tree has more, or more levels than are allowed
abbrev pub AreLeft : ℕ → ℕ → Plain → Option ℕ → Type 0
AreLeft paths levels t (Some left) = (paths_of t + left ≡ paths) × (levels_of t ≤ levels)
AreLeft paths levels t None = paths_of t ≤ paths → levels_of t ≤ levels → ⊥
