-- The picks of the roots.
use Rattle.std.specs.Prelude.{ℕ, List, [], ◌∷◌}
use Rattle.ul_problem.specs.Best.{Picks}

-- each root at its one version
abbrev pub root_picks : List ℕ → Picks
root_picks [] = []
root_picks (n ∷ ns) = (n, 0) ∷ root_picks ns
