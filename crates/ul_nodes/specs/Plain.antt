-- A decision tree as plain data: a node has a level, a part for where no branch stands, and branches in the
-- order of their keys. Levels and keys are lists of numbers, in the order of lists.
use Rattle.std.specs.Prelude.{ℕ, zero, suc, List, [], ◌∷◌, Bool, true, false}
use Rattle.std.specs.Cmp.Lexicographic.{slice_cmp}
use Rattle.std.specs.Ordering.{nat_cmp}
use Rattle.std.specs.declared.cmp.Ordering.{Ordering}
use Rattle.std.specs.declared.cmp.Ordering.TheVariants.{Less, Equal, Greater}

mutual
  pub data Plain : Type 0 where
    truth : Bool → Plain
    node : List ℕ → Plain → Branches → Plain

  pub data Branches : Type 0 where
    done : Branches
    branch : List ℕ → Plain → Branches → Branches

-- the order of levels and of keys
abbrev pub text_cmp : List ℕ → List ℕ → Ordering
text_cmp = slice_cmp nat_cmp

-- one of three, by an order
abbrev pub by_order : {A : Type 0} → Ordering → A → A → A → A
by_order Less a b c = a
by_order Equal a b c = b
by_order Greater a b c = c

-- whether a branch of this level reaches up to the next key, as the pieces of the interpreter do; at the other
-- levels a branch stands for its key alone
abbrev pub carries : List ℕ → Bool
carries (suc zero ∷ []) = true
carries _ = false

-- what stands after a branch: its own part where branches are carried, else what stood before
abbrev pub carried_part : {A : Type 0} → Bool → A → A → A
carried_part true c d = c
carried_part false c d = d

-- the part that a value takes
abbrev pub pick : Branches → Bool → List ℕ → Plain → Plain
pick done m v d = d
pick (branch k c rest) m v d = by_order (text_cmp v k) d c (pick rest m v (carried_part m c d))

-- the truth where each level has a value
abbrev mutual
  pub holds_of : Plain → (List ℕ → List ℕ) → Bool
  holds_of (truth b) f = b
  holds_of (node l d bs) f = holds_in bs (carries l) (f l) (holds_of d f) f

  pub holds_in : Branches → Bool → List ℕ → Bool → (List ℕ → List ℕ) → Bool
  holds_in done m v t f = t
  holds_in (branch k c rest) m v t f = by_order (text_cmp v k) t (holds_of c f) (holds_in rest m v (carried_part m (holds_of c f) t) f)
