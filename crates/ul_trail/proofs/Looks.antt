-- What a look at a list of terms finds.
use Rattle.std.proofs.Common.{◌≡◌, ℕ, zero, suc, ◌+◌, List, [], ◌∷◌, ◌++◌, true, false, Option, Some, None, refl, ap, ◌∙◌, sym, subst, ◌<◌, ◌⊎◌, inl, inr, slice_get, get_or, length, take}
use Rattle.std.proofs.lemmas.Option.{none-some, same_Some, slice_get_read}
use Rattle.std.specs.Option.{is_some}
use Rattle.ul_problem.specs.declared.term.Term.{Term}
use Rattle.ul_problem.specs.declared.term.Relation.{Relation}
use Rattle.ul_problem.specs.declared.term.Relation.TheVariants.{Holds, Fails, Unknown}
use Rattle.ul_trail.specs.declared.fact.Fact.{Fact}
use Rattle.ul_trail.specs.Facts.{IsHeld, IsFailed, AreHeld, AreHeldBut}
use Rattle.ul_trail.specs.Standing.{IsCalm, IsToldBy}
use Rattle.ul_trail.specs.Findings.{IsLoose, IsSeen}
use Rattle.ul_trail.proofs.Places.{take_next, take_whole}

pub held_at : (facts : List Fact) (ts : List Term) (i : ℕ) (t : Term) → slice_get ts i ≡ Some t → AreHeld facts ts → IsHeld facts t
held_at facts [] i t e h = absurd (none-some t e)
held_at facts (x ∷ xs) zero t e h = subst (IsHeld facts) (same_Some x t e) h.0
held_at facts (x ∷ xs) (suc i) t e h = held_at facts xs i t e h.1

but_at : (facts : List Fact) (ts : List Term) (i : ℕ) (t u : Term) → slice_get ts i ≡ Some t → AreHeldBut facts u ts → (t ≡ u) ⊎ IsHeld facts t
but_at facts [] i t u e h = absurd h
but_at facts (x ∷ xs) zero t u e (inl h) = inl (sym (same_Some x t e) ∙ h.0)
but_at facts (x ∷ xs) zero t u e (inr h) = inr (subst (IsHeld facts) (same_Some x t e) h.0)
but_at facts (x ∷ xs) (suc i) t u e (inl h) = inr (held_at facts xs i t e h.1)
but_at facts (x ∷ xs) (suc i) t u e (inr h) = but_at facts xs i t u e h.1

but_held : (facts : List Fact) (ts : List Term) (u : Term) → AreHeldBut facts u ts → AreHeld facts ts → IsHeld facts u
but_held facts [] u h a = absurd h
but_held facts (x ∷ xs) u (inl h) a = subst (IsHeld facts) h.0 a.0
but_held facts (x ∷ xs) u (inr h) a = but_held facts xs u h.1 a.1

two_loose : (facts : List Fact) (ts : List Term) (i : ℕ) (t w : Term) → (AreHeld facts (take i ts) → ⊥) → slice_get ts i ≡ Some t → (IsHeld facts t → ⊥) → AreHeldBut facts w ts → ⊥
two_loose facts [] i t w n e f h = none-some t e
two_loose facts (x ∷ xs) zero t w n e f h = n tt
two_loose facts (x ∷ xs) (suc i) t w n e f (inl h) = f (held_at facts xs i t e h.1)
two_loose facts (x ∷ xs) (suc i) t w n e f (inr h) = two_loose facts xs i t w (λ a. n (h.0, a)) e f h.1

-- a term that fails
pub calm_failed : (sizes : List ℕ) (facts : List Fact) (ts : List Term) (i : ℕ) (t : Term) → slice_get ts i ≡ Some t → IsToldBy sizes facts t Fails → IsCalm facts ts
calm_failed sizes facts ts i t e h = record {
  free = λ a. h.1 (held_at facts ts i t e a);
  spent = λ u b. elim (but_at facts ts i t u e b) [ inl s ↦ subst (IsFailed facts) s h.0 | inr a ↦ absurd (h.1 a) ];
}

-- two terms that aren't held
pub calm_two : (sizes : List ℕ) (facts : List Fact) (ts : List Term) (i j : ℕ) (t : Term) → slice_get ts i ≡ Some t → IsToldBy sizes facts t Unknown → IsLoose sizes facts ts (take i ts) j → IsCalm facts ts
calm_two sizes facts ts i j t e h l = record {
  free = λ a. h.1 (held_at facts ts i t e a);
  spent = λ u b. absurd (two_loose facts ts i t u (λ a. l.free (but_held facts (take i ts) l.term l.but a)) e h.1 b);
}

held_push : (facts : List Fact) (ts : List Term) (t : Term) → AreHeld facts ts → IsHeld facts t → AreHeld facts (ts ++ t ∷ [])
held_push facts [] t h i = (i, tt)
held_push facts (x ∷ xs) t h i = (h.0, held_push facts xs t h.1 i)

but_push : (facts : List Fact) (ts : List Term) (t u : Term) → AreHeldBut facts u ts → IsHeld facts t → AreHeldBut facts u (ts ++ t ∷ [])
but_push facts [] t u h i = absurd h
but_push facts (x ∷ xs) t u (inl h) i = inl (h.0, held_push facts xs t h.1 i)
but_push facts (x ∷ xs) t u (inr h) i = inr (h.0, but_push facts xs t u h.1 i)

but_new : (facts : List Fact) (ts : List Term) (t : Term) → AreHeld facts ts → AreHeldBut facts t (ts ++ t ∷ [])
but_new facts [] t h = inl (refl, tt)
but_new facts (x ∷ xs) t h = inr (h.0, but_new facts xs t h.1)

seen_next : (sizes : List ℕ) (facts : List Fact) (ts : List Term) (i : ℕ) (t : Term) (o : Option ℕ) → slice_get ts i ≡ Some t → IsSeen sizes facts ts (take i ts ++ t ∷ []) o → IsSeen sizes facts ts (take (i + 1) ts) o
seen_next sizes facts ts i t o e h = subst (λ (l : List Term). IsSeen sizes facts ts l o) (sym (take_next ts t i e)) h

pub seen_held : (sizes : List ℕ) (facts : List Fact) (ts : List Term) (i : ℕ) (t : Term) (o : Option ℕ) → slice_get ts i ≡ Some t → IsToldBy sizes facts t Holds → IsSeen sizes facts ts (take i ts) o → IsSeen sizes facts ts (take (i + 1) ts) o
seen_held sizes facts ts i t None e h s = seen_next sizes facts ts i t None e (held_push facts (take i ts) t s h)
seen_held sizes facts ts i t (Some j) e h s = seen_next sizes facts ts i t (Some j) e (record { term = s.term; is = s.is; but = but_push facts (take i ts) t s.term s.but h; possible = s.possible; free = s.free; leaves = s.leaves })

pub seen_loose : (sizes : List ℕ) (facts : List Fact) (ts : List Term) (i : ℕ) (t : Term) → slice_get ts i ≡ Some t → IsToldBy sizes facts t Unknown → IsSeen sizes facts ts (take i ts) None → IsSeen sizes facts ts (take (i + 1) ts) (Some i)
seen_loose sizes facts ts i t e h s = seen_next sizes facts ts i t (Some i) e (record { term = t; is = e; but = but_new facts (take i ts) t s; possible = h.0; free = h.1; leaves = h.2 })

pub seen_all : (sizes : List ℕ) (facts : List Fact) (ts : List Term) (i : ℕ) (o : Option ℕ) → i ≡ length ts → IsSeen sizes facts ts (take i ts) o → IsSeen sizes facts ts ts o
seen_all sizes facts ts i o e s = subst (λ (l : List Term). IsSeen sizes facts ts l o) (ap (λ (k : ℕ). take k ts) e ∙ take_whole ts) s

-- as the code has it
pub failed_here : (sizes : List ℕ) (facts : List Fact) (ts : List Term) (i : ℕ) (t : Term) (r : Relation) → i < length ts → t ≡ get_or ts i t → IsToldBy sizes facts t r → r ≡ Fails → IsCalm facts ts
failed_here sizes facts ts i t r l e h f = calm_failed sizes facts ts i t (slice_get_read ts (length ts) i t refl l e) (subst (IsToldBy sizes facts t) f h)

pub two_here : (sizes : List ℕ) (facts : List Fact) (ts : List Term) (i : ℕ) (t : Term) (r : Relation) (o : Option ℕ) → i < length ts → t ≡ get_or ts i t → IsToldBy sizes facts t r → r ≡ Unknown → IsSeen sizes facts ts (take i ts) o → true ≡ is_some o → IsCalm facts ts
two_here sizes facts ts i t r None l e h f s b = cc
two_here sizes facts ts i t r (Some j) l e h f s b = calm_two sizes facts ts i j t (slice_get_read ts (length ts) i t refl l e) (subst (IsToldBy sizes facts t) f h) s

pub held_here : (sizes : List ℕ) (facts : List Fact) (ts : List Term) (i : ℕ) (t : Term) (r : Relation) (o o' : Option ℕ) → i < length ts → t ≡ get_or ts i t → IsToldBy sizes facts t r → r ≡ Holds → IsSeen sizes facts ts (take i ts) o → o' ≡ o → IsSeen sizes facts ts (take (i + 1) ts) o'
held_here sizes facts ts i t r o o' l e h f s b = subst (IsSeen sizes facts ts (take (i + 1) ts)) (sym b) (seen_held sizes facts ts i t o (slice_get_read ts (length ts) i t refl l e) (subst (IsToldBy sizes facts t) f h) s)

pub loose_here : (sizes : List ℕ) (facts : List Fact) (ts : List Term) (i : ℕ) (t : Term) (r : Relation) (o o' : Option ℕ) → i < length ts → t ≡ get_or ts i t → IsToldBy sizes facts t r → r ≡ Unknown → IsSeen sizes facts ts (take i ts) o → false ≡ is_some o → o' ≡ Some i → IsSeen sizes facts ts (take (i + 1) ts) o'
loose_here sizes facts ts i t r None o' l e h f s b g = subst (IsSeen sizes facts ts (take (i + 1) ts)) (sym g) (seen_loose sizes facts ts i t (slice_get_read ts (length ts) i t refl l e) (subst (IsToldBy sizes facts t) f h) s)
loose_here sizes facts ts i t r (Some j) o' l e h f s b g = cc
