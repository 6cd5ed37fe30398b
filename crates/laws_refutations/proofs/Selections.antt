-- Selections within a problem that have each root at its one version, and how one is changed at a node.
use Rattle.std.proofs.Common.{◌≡◌, ℕ, ◌<◌, inl, inr, List, Bool, cond, Option, Some, None, arith, refl, sym, ap, ◌∙◌, subst, nat_eq, eq-eqb}
use Rattle.std.specs.Prelude.{Contains}
use Rattle.std.proofs.lemmas.Bool.{cases_eq, ne_eqb}
use Rattle.std.proofs.lemmas.Option.{none-some, same_Some}
use Rattle.ul_problem.specs.Terms.{Selection}
use Rattle.ul_problem.specs.Plain.{Plain, size_of}
use Rattle.ul_problem.specs.Problems.{IsWellFormed}
use Rattle.ul_problem.proofs.ForCallers.{root_single}
use Rattle.laws_trees.specs.Decided.{Decided}
use Rattle.laws_trees.proofs.ForCallers.{member_decided}

-- the selection has versions of the problem's nodes alone, and each root at its one version
pub record IsTried (p : Plain) (σ : Selection) : Type 0 where
  pub within : (n v : ℕ) → σ n ≡ Some v → v < size_of p n
  pub rooted : (n : ℕ) → Contains p.roots n → σ n ≡ Some 0

-- the selection with another option of a node
abbrev pub changed : Selection → ℕ → Option ℕ → Selection
changed σ m o n = cond (nat_eq n m) o (σ n)

pub changed_here : (σ : Selection) (m : ℕ) (o : Option ℕ) → changed σ m o m ≡ o
changed_here σ m o = ap (λ (b : Bool). cond b o (σ m)) (eq-eqb m m refl)

pub changed_past : (σ : Selection) (m n : ℕ) (o : Option ℕ) → (n ≡ m → ⊥) → changed σ m o n ≡ σ n
changed_past σ m n o d = ap (λ (b : Bool). cond b o (σ n)) (ne_eqb n m d)

pub changed_tried : (p : Plain) (σ : Selection) (m : ℕ) (o : Option ℕ) → IsTried p σ → (Contains p.roots m → ⊥)
    → ((v : ℕ) → o ≡ Some v → v < size_of p m) → IsTried p (changed σ m o)
changed_tried p σ m o h free fits = record {
  within = λ n v e. elim (cases_eq n m) [
    | inl s ↦ (let at_m = subst (λ (k : ℕ). changed σ m o k ≡ Some v) s e in
        subst (λ (k : ℕ). v < size_of p k) (sym s) (fits v (sym (changed_here σ m o) ∙ at_m)))
    | inr d ↦ h.within n v (sym (changed_past σ m n o d) ∙ e)
  ];
  rooted = λ n i. changed_past σ m n o (λ s. free (subst (λ (k : ℕ). Contains p.roots k) s i)) ∙ h.rooted n i;
}

-- whether a number is one of a list
pub is_listed : (xs : List ℕ) (n : ℕ) → Decided (Contains xs n)
is_listed xs n = member_decided xs n (λ k. cases_eq k n)

-- the selection of the roots alone
at_first : {A : Type 0} → Decided A → Option ℕ
at_first (inl a) = Some 0
at_first (inr z) = None

first_of : {A : Type 0} (d : Decided A) (v : ℕ) → at_first d ≡ Some v → A × (v ≡ 0)
unfolding at_first
first_of (inl a) v e = (a, sym (same_Some 0 v e))
first_of (inr z) v e = absurd (none-some v e)

first_if : {A : Type 0} (d : Decided A) → A → at_first d ≡ Some 0
unfolding at_first
first_if (inl a) h = refl
first_if (inr z) h = absurd (z h)

pub roots_alone : Plain → Selection
roots_alone p n = at_first (is_listed p.roots n)

pub roots_tried : (p : Plain) → IsWellFormed p → IsTried p (roots_alone p)
unfolding roots_alone
roots_tried p wf = record {
  within =
      λ n v e. (let f = first_of (is_listed p.roots n) v e in let s = root_single p n wf f.0 in omega (arith, s, f.1));
  rooted = λ n i. first_if (is_listed p.roots n) i;
}
