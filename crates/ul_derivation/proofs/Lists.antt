-- Tests of a list, element by element.
use Rattle.std.proofs.Common.{◌≡◌, ℕ, ◌+◌, ◌<◌, List, ◌∷◌, drop, length, get_or, subst, sym, ap, ◌∙◌}
use Rattle.std.proofs.lemmas.List.{drop_more}
use Rattle.ul_problem.specs.Plain.{Plain}
use Rattle.ul_problem.specs.Steps.{IsTermOf, AreTermsOf, IsRootTerm, AreRootTerms}
use Rattle.ul_problem.specs.declared.term.Term.{Term}

-- each of the two gives the other
pub record IsAlike (P Q : Type 0) : Type 0 where
  pub to : P → Q
  pub from : Q → P

front_is : {A : Type 0} (xs : List A) (i : ℕ) (x : A) → i < length xs → x ≡ get_or xs i x → drop i xs ≡ x ∷ drop (i + 1) xs
front_is xs i x h e = drop_more xs i x h ∙ ap (λ y. y ∷ drop (i + 1) xs) (sym e)

pub terms_more : (p : Plain) (ts : List Term) (i : ℕ) (t : Term) (Q : Type 0) → i < length ts → t ≡ get_or ts i t → IsTermOf p t → IsAlike (AreTermsOf p (drop i ts)) Q → IsAlike (AreTermsOf p (drop (i + 1) ts)) Q
terms_more p ts i t Q h e f a =
    let g = front_is ts i t h e in
    record { to = λ r. a.to (subst (AreTermsOf p) (sym g) (f, r)); from = λ q. (subst (AreTermsOf p) g (a.from q)).1 }

pub terms_not : (p : Plain) (ts : List Term) (i : ℕ) (t : Term) (Q : Type 0) → i < length ts → t ≡ get_or ts i t → (IsTermOf p t → ⊥) → IsAlike (AreTermsOf p (drop i ts)) Q → Q → ⊥
terms_not p ts i t Q h e f a q = f (subst (AreTermsOf p) (front_is ts i t h e) (a.from q)).0

pub roots_more : (p : Plain) (ts : List Term) (i : ℕ) (t : Term) (Q : Type 0) → i < length ts → t ≡ get_or ts i t → IsRootTerm p t → IsAlike (AreRootTerms p (drop i ts)) Q → IsAlike (AreRootTerms p (drop (i + 1) ts)) Q
roots_more p ts i t Q h e f a =
    let g = front_is ts i t h e in
    record { to = λ r. a.to (subst (AreRootTerms p) (sym g) (f, r)); from = λ q. (subst (AreRootTerms p) g (a.from q)).1 }
