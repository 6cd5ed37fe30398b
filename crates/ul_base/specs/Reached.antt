-- The least set that has its beginnings and is closed under steps.

-- what is reached: each beginning, and each element that a reached one leads to
pub data Reached {A : Type 0} (Begins : A → Type 0) (Leads : A → A → Type 0) : A → Type 0 where
  begun : (a : A) → Begins a → Reached Begins Leads a
  led : (a b : A) → Reached Begins Leads a → Leads a b → Reached Begins Leads b
