-- What is reached by way of the elements of a list, element by element: with one element more, what is reached without
-- it, or what is reached from it, where it is reached itself.
use Rattle.std.proofs.Common.{◌≡◌, ◌⊎◌, ◌↔◌, List, [], ◌∷◌, Contains, subst, inl, inr, ⊎_elim}
use Rattle.ul_base.specs.Reached.{Reached, begun, led}
use Rattle.ul_base.proofs.ForCallers.{contains_cases, contains_first, contains_later, none_in, reached_in}

-- a step from an element of the list
abbrev pub By : {A : Type 0} → List A → (A → A → Type 0) → A → A → Type 0
By ns Leads a b = Contains ns a × Leads a b

module _ {A : Type 0} (Leads : A → A → Type 0) where
  more : (Begins : A → Type 0) (n : A) (ns : List A) (q : A) → Reached Begins (By ns Leads) q
      → Reached Begins (By (n ∷ ns) Leads) q
  more Begins n ns q r = reached_in (λ a. Reached Begins (By (n ∷ ns) Leads) a) begun
      (λ a b _ h s. led a b h (contains_later n ns a s.0, s.1)) r

  joined : (Begins : A → Type 0) (n : A) (ns : List A) (q : A) → Reached Begins (By ns Leads) n
      → Reached (Leads n) (By ns Leads) q → Reached Begins (By (n ∷ ns) Leads) q
  joined Begins n ns q to from = reached_in (λ a. Reached Begins (By (n ∷ ns) Leads) a)
      (λ a s. led n a (more Begins n ns n to) (contains_first n ns, s))
      (λ a b _ h s. led a b h (contains_later n ns a s.0, s.1)) from

  -- what is reached without the element, or by way of it
  abbrev IsParted : (A → Type 0) → A → List A → A → Type 0
  IsParted Begins n ns q =
      Reached Begins (By ns Leads) q ⊎ (Reached Begins (By ns Leads) n × Reached (Leads n) (By ns Leads) q)

  parted : (Begins : A → Type 0) (n : A) (ns : List A) (q : A) → Reached Begins (By (n ∷ ns) Leads) q
      → IsParted Begins n ns q
  parted Begins n ns q r = reached_in (IsParted Begins n ns) (λ a h. inl (begun a h)) step r
    where
      here : (a : A) → a ≡ n → IsParted Begins n ns a → Reached Begins (By ns Leads) n
      here a e (inl h) = subst (Reached Begins (By ns Leads)) e h
      here a e (inr h) = h.0

      there : (a b : A) → Contains ns a → Leads a b → IsParted Begins n ns a → IsParted Begins n ns b
      there a b c s (inl h) = inl (led a b h (c, s))
      there a b c s (inr h) = inr (h.0, led a b h.1 (c, s))

      step : (a b : A) → Reached Begins (By (n ∷ ns) Leads) a → IsParted Begins n ns a → By (n ∷ ns) Leads a b
          → IsParted Begins n ns b
      step a b _ h s = ⊎_elim (λ e. inr (here a e h, begun b (subst (λ x. Leads x b) e s.1)))
          (λ c. there a b c s.1 h) (contains_cases n ns a s.0)

  -- with one element more
  pub one_more : (Begins : A → Type 0) (n : A) (ns : List A) (q : A)
      → (Reached Begins (By ns Leads) q ⊎ (Reached Begins (By ns Leads) n × Reached (Leads n) (By ns Leads) q))
      ↔ Reached Begins (By (n ∷ ns) Leads) q
  one_more Begins n ns q = (⊎_elim (more Begins n ns q) (λ h. joined Begins n ns q h.0 h.1), parted Begins n ns q)

  -- by way of nothing the beginnings alone are reached
  pub by_none : (Begins : A → Type 0) (q : A) → Begins q ↔ Reached Begins (By [] Leads) q
  by_none Begins q = (begun q, λ r. reached_in Begins (λ a h. h) (λ a b _ _ s. absurd (none_in a s.0)) r)

  -- by way of all that is reached and leads on everything is reached
  pub by_all : (Begins : A → Type 0) (ns : List A)
      → ((a b : A) → Reached Begins Leads a → Leads a b → Contains ns a) → (q : A)
      → Reached Begins (By ns Leads) q ↔ Reached Begins Leads q
  by_all Begins ns has q = (
    reached_in (Reached Begins Leads) begun (λ a b _ h s. led a b h s.1),
    reached_in (Reached Begins (By ns Leads)) begun (λ a b r h s. led a b h (has a b r s, s)),
  )
