-- Rows of keys, each with what its piece became: what is found in them, and how they are seen as plain data.
use Rattle.std.specs.Prelude.{ℕ, List, [], ◌∷◌, map, Bool, true, false, Option, Some, None, option_map, ◌≡◌}
use Rattle.ul_nodes.specs.Plain.{Plain, Branches, done, branch, carried_part}
use Rattle.ul_nodes.specs.Apply.{same}
use Rattle.ul_nodes.specs.Keys.{key_view, has_kind, then_branches, KeysOf}
use Rattle.ul_nodes.specs.declared.level.Key.{Key}

-- ---- results of pieces

-- the keys of the pieces in order, each with what its piece became, or with nothing where the region is false
abbrev pub Results : Type 0
Results = List (List ℕ × Option Plain)

-- a piece's own result, or another where it has none
abbrev pub own_or : {A : Type 0} → Option A → A → A
own_or (Some t) z = t
own_or None z = z

-- the first result, or z where there is none
abbrev pub first_result : {K A : Type 0} → List (K × Option A) → A → A
first_result [] z = z
first_result (r ∷ rs) z = own_or r.1 (first_result rs z)

-- the last result, or z where there is none
abbrev pub last_result : {K A : Type 0} → List (K × Option A) → A → A
last_result [] z = z
last_result (r ∷ rs) z = last_result rs (own_or r.1 z)

-- the first result of all pieces, which serves those before it; o is that of the piece without a key, which is the
-- first at the interpreter and the last at other levels
abbrev pub earliest : {K A : Type 0} → Bool → List (K × Option A) → Option A → A → A
earliest true rs o z = own_or o (first_result rs z)
earliest false rs o z = first_result rs (own_or o z)

-- the last result before the piece without a key, z where that piece is the first
abbrev pub latest : {K A : Type 0} → Bool → List (K × Option A) → A → A
latest true rs z = z
latest false rs z = last_result rs z

-- ---- parts and branches

-- the last part, or z where there is none
abbrev pub last_part : {K A : Type 0} → List (K × A) → A → A
last_part [] z = z
last_part (p ∷ ps) z = last_part ps p.1

-- the part that stands after branches: at the interpreter that of the last branch, elsewhere the other part
abbrev pub standing_part : {K A : Type 0} → Bool → List (K × A) → A → A
standing_part true parts other = last_part parts other
standing_part false parts other = other

-- the part that stands after branches: at the interpreter that of the last branch, elsewhere the other part
abbrev pub stands : Bool → Branches → Plain → Plain
stands m done d = d
stands m (branch k c rest) d = stands m rest (carried_part m c d)

-- ---- rows of any values, as plain data

-- pieces in a row, each with its key and its result
abbrev pub results_view : {A : Type 0} → (A → Plain) → List (Key × Option A) → Results
results_view view = map (λ r. (key_view r.0, option_map view r.1))

-- parts in a row, each with its key
abbrev pub parts_view : {A : Type 0} → (A → Plain) → List (Key × A) → List (List ℕ × Plain)
parts_view view = map (λ p. (key_view p.0, view p.1))

-- branches that were made, of parts that stand for plain trees
abbrev pub made_view : {A : Type 0} → (A → Plain) → List (Key × A) → Branches
made_view view [] = done
made_view view (p ∷ ps) = branch (key_view p.0) (view p.1) (made_view view ps)

-- a branch more, unless its part is the one that stands
abbrev pub more_branches : Bool → Branches → List ℕ → Plain → Branches
more_branches true bs k next = bs
more_branches false bs k next = then_branches bs (branch k next done)

-- the same of branches that were made
abbrev pub IsAdded : {A : Type 0} → (A → Plain) → Bool → A → Key → A → List (Key × A) → List (Key × A) → Type 0
IsAdded view carried other key next before after =
    made_view view after ≡ more_branches (same (view next) (stands carried (made_view view before) (view other))) (made_view view before) (key_view key) (view next)

-- a branch more keeps that the keys are those of a level
abbrev pub KeepsKeys : {A : Type 0} → Key → List (Key × A) → List (Key × A) → Type 0
KeepsKeys key before after = (l : List ℕ) → KeysOf l before → has_kind l key ≡ true → KeysOf l after

-- keys of a level stay keys of it
abbrev pub KeepsLevel : {A B : Type 0} → List (Key × A) → List (Key × B) → Type 0
KeepsLevel before after = (l : List ℕ) → KeysOf l before → KeysOf l after

-- a fact of what there is, if there is something
abbrev pub IfSome : {A : Type 0} → (A → Type 0) → Option A → Type 0
IfSome P None = Unit {0}
IfSome P (Some x) = P x
