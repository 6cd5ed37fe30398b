-- What is known of statements at worlds is known of those made of them: a decision at one world, or a tree of all
-- worlds.
use Rattle.std.proofs.Common.{◌⊎◌, ◌↔◌, List, [], ◌∷◌, Contains, subst, inl, inr, ⊎_elim}
use Rattle.ul_base.specs.Reached.{Reached}
use Rattle.ul_base.proofs.ForCallers.{contains_cases, contains_first, contains_later, none_in}
use Rattle.laws_trees.specs.Decided.{Decided}
use Rattle.laws_trees.proofs.Deciding.{both_decided, decided_as, either_decided}
use Rattle.laws_trees.proofs.Reaching.{By, by_none, one_more}

-- a kind of knowledge that statements made of others have, where those have it
pub record IsKept {W : Type 0} (Known : (W → Type 0) → Type 0) : Type 1 where
  pub either : (P Q : W → Type 0) → Known P → Known Q → Known (λ w. P w ⊎ Q w)
  pub both : (P Q : W → Type 0) → Known P → Known Q → Known (λ w. P w × Q w)
  pub same : (P Q : W → Type 0) → ((w : W) → P w ↔ Q w) → Known P → Known Q
  pub nowhere : Known (λ w. ⊥)

module _ {W : Type 0} (Known : (W → Type 0) → Type 0) (kept : IsKept Known) where
  -- of some element of a list
  pub some_known : {X : Type 0} (xs : List X) (P : X → W → Type 0) → ((x : X) → Contains xs x → Known (P x))
      → Known (λ w. (x : X) × Contains xs x × P x w)
  some_known {X} [] P h = kept.same (λ w. ⊥) (λ w. (x : X) × Contains [] x × P x w)
      (λ w. (λ z. absurd z, λ z. none_in z.0 z.1)) kept.nowhere
  some_known {X} (y ∷ ys) P h =
      kept.same (λ w. P y w ⊎ ((x : X) × Contains ys x × P x w)) (λ w. (x : X) × Contains (y ∷ ys) x × P x w)
      (λ w. (
        ⊎_elim (λ p. (y, contains_first y ys, p)) (λ z. (z.0, contains_later y ys z.0 z.1, z.2)),
        λ z. ⊎_elim (λ e. inl (subst (λ x. P x w) e z.2)) (λ c. inr (z.0, c, z.2)) (contains_cases y ys z.0 z.1),
      ))
      (kept.either (P y) (λ w. (x : X) × Contains ys x × P x w) (h y (contains_first y ys))
      (some_known ys P (λ x c. h x (contains_later y ys x c))))

  -- of what is reached by way of a list
  pub reached_known : {A : Type 0} (Leads : W → A → A → Type 0) → ((a b : A) → Known (λ w. Leads w a b)) → (ns : List A)
      (Begins : W → A → Type 0) → ((q : A) → Known (λ w. Begins w q)) → (q : A)
      → Known (λ w. Reached (Begins w) (By ns (Leads w)) q)
  reached_known Leads steps [] Begins begins q =
      kept.same (λ w. Begins w q) (λ w. Reached (Begins w) (By [] (Leads w)) q) (λ w. by_none (Leads w) (Begins w) q)
      (begins q)
  reached_known Leads steps (n ∷ ns) Begins begins q =
      kept.same
      (λ w. Reached (Begins w) (By ns (Leads w)) q
      ⊎ (Reached (Begins w) (By ns (Leads w)) n × Reached (Leads w n) (By ns (Leads w)) q))
      (λ w. Reached (Begins w) (By (n ∷ ns) (Leads w)) q) (λ w. one_more (Leads w) (Begins w) n ns q)
      (kept.either (λ w. Reached (Begins w) (By ns (Leads w)) q)
      (λ w. Reached (Begins w) (By ns (Leads w)) n × Reached (Leads w n) (By ns (Leads w)) q)
      (reached_known Leads steps ns Begins begins q)
      (kept.both (λ w. Reached (Begins w) (By ns (Leads w)) n) (λ w. Reached (Leads w n) (By ns (Leads w)) q)
      (reached_known Leads steps ns Begins begins n)
      (reached_known Leads steps ns (λ w. Leads w n) (λ b. steps n b) q)))

-- a decision at one world
pub decisions_kept : {W : Type 0} (w : W) → IsKept (λ (P : W → Type 0). Decided (P w))
decisions_kept w = record {
  either = λ P Q s t. either_decided s t;
  both = λ P Q s t. both_decided s t;
  same = λ P Q e s. decided_as s (e w).0 (e w).1;
  nowhere = inr (λ z. z);
}
