-- What holds of trees made simpler, and worked examples.
use Rattle.std.specs.Prelude.{ℕ, List, [], ◌∷◌, true, false, ◌≡◌}
use Rattle.ul_nodes.specs.Plain.{Plain, truth, node, done, branch, holds_of}
use Rattle.ul_nodes.specs.Reduced.{IsReduced}
use Rattle.ul_tree.specs.Simplify.{Simplifies}

-- the result is reduced, and it has f's truth wherever the region holds; f and the region determine it, and a region
-- that isn't false has one; under the region of everything it is f
pub record SimplifyLaws : Type 0 where
  pub reduced : (f c t : Plain) → IsReduced f → IsReduced c → Simplifies f c t → IsReduced t
  pub agrees : (f c t : Plain) → IsReduced f → IsReduced c → Simplifies f c t → (v : List ℕ → List ℕ) → holds_of c v ≡ true → holds_of t v ≡ holds_of f v
  pub one_result : (f c s t : Plain) → Simplifies f c s → Simplifies f c t → s ≡ t
  pub some_result : (f c : Plain) → IsReduced f → IsReduced c → (c ≡ truth false → ⊥) → (t : Plain) × Simplifies f c t
  pub everywhere : (f t : Plain) → Simplifies f (truth true) t → t ≡ f

-- from interpreter 5 on, and below 9
abbrev pub from_to : Plain
from_to = node (1 ∷ []) (truth false) (branch (5 ∷ []) (truth true) (branch (9 ∷ []) (truth false) done))

-- from interpreter 5 on
abbrev pub from : Plain
from = node (1 ∷ []) (truth false) (branch (5 ∷ []) (truth true) done)

-- below interpreter 9
abbrev pub below : Plain
below = node (1 ∷ []) (truth true) (branch (9 ∷ []) (truth false) done)

-- a text variable is `w`
abbrev pub first_is_w : Plain
first_is_w = node (3 ∷ []) (truth false) (branch (119 ∷ []) (truth true) done)

-- a later text variable is `x`
abbrev pub second_is_x : Plain
second_is_x = node (4 ∷ []) (truth false) (branch (120 ∷ []) (truth true) done)

-- the text is `w` from interpreter 5 on
abbrev pub w_from : Plain
w_from = node (1 ∷ []) (truth false) (branch (5 ∷ []) first_is_w done)

-- `a` where the later variable is `x`, and `b`
abbrev pub a_or_b : Plain
a_or_b = node (3 ∷ []) (truth false) (branch (97 ∷ []) second_is_x (branch (98 ∷ []) (truth true) done))

-- a text variable is not `b`
abbrev pub not_b : Plain
not_b = node (3 ∷ []) (truth true) (branch (98 ∷ []) (truth false) done)

-- a text variable is not `a`
abbrev pub not_a : Plain
not_a = node (3 ∷ []) (truth true) (branch (97 ∷ []) (truth false) done)

-- trees, regions, and what the trees become
pub record SimplifyExamples : Type 0 where
  -- a lower bound that the region gives is left out
  pub bound : Simplifies from_to from below
  -- a point under itself is true
  pub same_point : Simplifies first_is_w first_is_w (truth true)
  -- a level of the region above f's is taken away by the union of its parts
  pub region_above : Simplifies first_is_w w_from (truth true)
  -- where the region is false, a piece takes the result of the nearest earlier one
  pub earlier : Simplifies a_or_b not_b (node (3 ∷ []) (truth false) (branch (97 ∷ []) second_is_x (branch (98 ∷ []) second_is_x done)))
  -- and where no earlier one has a result, that of the nearest later one
  pub later : Simplifies a_or_b not_a (node (3 ∷ []) (truth false) (branch (97 ∷ []) (truth true) (branch (98 ∷ []) (truth true) done)))
