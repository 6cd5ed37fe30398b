-- What is reached is in every closed set.
use Rattle.ul_base.specs.Reached.{Reached, begun, led}

-- a property of each beginning that each step keeps holds of all that is reached
pub reached_in : {A : Type 0} {B : A → Type 0} {S : A → A → Type 0} (P : A → Type 0)
    → ((a : A) → B a → P a)
    → ((a b : A) → Reached B S a → P a → S a b → P b)
    → {a : A} → Reached B S a → P a
reached_in P first next (begun a h) = first a h
reached_in P first next (led a b r h) = next a b r (reached_in P first next r) h
