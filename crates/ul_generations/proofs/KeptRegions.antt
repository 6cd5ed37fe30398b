-- What is kept by both parts of each split is true of each region of the fork answer.
use Rattle.std.proofs.Common.{◌≡◌, ℕ, List, [], ◌∷◌, ◌++◌, Option, Some, None, refl, ap, sym, subst}
use Rattle.std.specs.List.{AllByRecursion}
use Rattle.ul_generations.specs.declared.outcomes.Outcome.{Outcome}
use Rattle.ul_generations.specs.declared.outcomes.Outcome.TheVariants.{Done, Split, Refused}
use Rattle.ul_generations.specs.declared.rows.Leaf.{Leaf}
use Rattle.ul_generations.specs.declared.rows.Row.{Row}
use Rattle.ul_generations.specs.declared.rows.Row.TheVariants.{Closed, Open}
use Rattle.ul_generations.specs.Rows.{Refusal, start, leaves_of, first_refused, expand}
use Rattle.ul_generations.specs.Generations.{AreOutcomes, IsForkAnswer, leaves_are, refused_at}
use Rattle.ul_generations.proofs.Reached.{leaves_reached, refused_reached}

module _ {S D F : Type 0} (IsOutcome : S → Outcome S D F → Type 0) (Has : S → Type 0) (keeps : (r a b : S) → IsOutcome r (Split a b) → Has r → Has a × Has b) where
  -- each region of rows has it
  abbrev AllHave : List (Row S D) → Type 0
  AllHave [] = Unit {0}
  AllHave (Closed l ∷ rows) = Has l.region × AllHave rows
  AllHave (Open o ∷ rows) = Has o.region × AllHave rows

  goes : (rows : List (Row S D)) (os : List (Outcome S D F)) → AllHave rows → AreOutcomes IsOutcome rows os → first_refused rows os ≡ None → AllHave (expand rows os)
  goes [] os h are e = tt
  goes (Closed l ∷ rows) os h are e = (h.0, goes rows os h.1 are e)
  goes (Open o ∷ rows) [] h are e = tt
  goes (Open o ∷ rows) (Done d ∷ os) h are e = (h.0, goes rows os h.1 are.1 e)
  goes (Open o ∷ rows) (Split a b ∷ os) h are e =
      let both = keeps o.region a b are.0 h.0 in (both.0, (both.1, goes rows os h.1 are.1 e))
  goes (Open o ∷ rows) (Refused f ∷ os) h are e = absurd (cc)

  leaves_have : (rows : List (Row S D)) → AllHave rows → AllByRecursion (λ (l : Leaf S D). Has l.region) (leaves_of rows)
  leaves_have [] h = tt
  leaves_have (Closed l ∷ rows) h = (h.0, leaves_have rows h.1)
  leaves_have (Open o ∷ rows) h = leaves_have rows h.1

  some_same : (x y : Refusal S F) → (let a : Option (Refusal S F) = Some x in a) ≡ Some y → x ≡ y
  some_same x y e = cc

  first_has : (r : Refusal S F) (rows : List (Row S D)) (os : List (Outcome S D F)) → AllHave rows → first_refused rows os ≡ Some r → Has r.region
  first_has r [] os h e = absurd (cc)
  first_has r (Closed l ∷ rows) os h e = first_has r rows os h.1 e
  first_has r (Open o ∷ rows) [] h e = absurd (cc)
  first_has r (Open o ∷ rows) (Done d ∷ os) h e = first_has r rows os h.1 e
  first_has r (Open o ∷ rows) (Split a b ∷ os) h e = first_has r rows os h.1 e
  first_has r (Open o ∷ rows) (Refused f ∷ os) h e = subst (λ (x : Refusal S F). Has x.region) (some_same _ _ e) h.0

  -- each leaf's region has it
  pub each_leaf : (region : S) (counts : List ℕ) (ls : List (Leaf S D)) → Has region → IsForkAnswer IsOutcome region counts (leaves_are ls)
      → AllByRecursion (λ (l : Leaf S D). Has l.region) ls
  each_leaf region counts ls had h =
      let end = leaves_reached IsOutcome AllHave goes region counts ls (had, tt) h in
      subst (AllByRecursion (λ (l : Leaf S D). Has l.region)) (sym end.is) (leaves_have end.rows end.holds)

  -- and a refused region
  pub refused_has : (region : S) (counts : List ℕ) (r : Refusal S F) → Has region → IsForkAnswer IsOutcome region counts (refused_at r)
      → Has r.region
  refused_has region counts r had h =
      let end = refused_reached IsOutcome AllHave goes region counts r (had, tt) h in
      first_has r end.rows end.outcomes end.holds end.first
