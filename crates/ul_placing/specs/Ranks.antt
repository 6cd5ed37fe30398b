-- The place of a reached node among the reached ones, and among all nodes.
use Rattle.std.specs.Prelude.{ℕ, ◌+◌, List, [], ◌∷◌, Option, Some, None, get_or}
use Rattle.ul_placing.specs.declared.aims.NodeAims.{NodeAims}

-- of each node how many are reached before it, from a number on
abbrev pub ranks_from : ℕ → List (Option NodeAims) → List ℕ
ranks_from r [] = []
ranks_from r (None ∷ aims) = r ∷ ranks_from r aims
ranks_from r (Some a ∷ aims) = r ∷ ranks_from (r + 1) aims

-- the places of the reached nodes, from a place on
abbrev pub places_from : ℕ → List (Option NodeAims) → List ℕ
places_from k [] = []
places_from k (None ∷ aims) = places_from (k + 1) aims
places_from k (Some a ∷ aims) = k ∷ places_from (k + 1) aims

-- the rank at a place
abbrev pub rank_in : List ℕ → ℕ → ℕ
rank_in ranks k = get_or ranks k 0
