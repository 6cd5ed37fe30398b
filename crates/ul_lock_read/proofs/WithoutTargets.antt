-- The first package that leads nowhere, and packages that all lead on.
use Rattle.std.proofs.Common.{◌≡◌, ℕ, ◌+◌, List, [], ◌∷◌, Bool, true, false, cond, refl, sym, ap, ◌∙◌, Some, None}
use Rattle.std.specs.Prelude.{not}
use Rattle.std.specs.List.{list_all, position_from}
use Rattle.std.specs.Cmp.{first_so, second_so}
use Rattle.ul_lock.specs.declared.parts.Locked.{Locked}
use Rattle.ul_lock.specs.Targets.{package_leads_on, all_lead_on, first_without_target}

-- where each passes, none is the first that doesn't
none_of : {A : Type 0} (p : A → Bool) (n k : ℕ) (xs : List A) → list_all p xs ≡ true → position_from (λ x. not (p x)) n xs ≡ Some k → ⊥
none_of p n k [] h e = absurd cc
none_of p n k (x ∷ xs) h e = none_of p (n + 1) k xs (second_so _ _ h) (ap (λ b. cond (not b) (Some n) (position_from (λ x. not (p x)) (n + 1) xs)) (sym (first_so _ _ h)) ∙ e)

by_test : {A : Type 0} (p : A → Bool) (n : ℕ) (x : A) (xs : List A) (b : Bool) → p x ≡ b → (position_from (λ x. not (p x)) (n + 1) xs ≡ None → list_all p xs ≡ true)
    → cond (not b) (Some n) (position_from (λ x. not (p x)) (n + 1) xs) ≡ None → list_all p (x ∷ xs) ≡ true
by_test p n x xs false q again f = absurd cc
by_test p n x xs true q again f = rw q (again f)

-- where there is no first that doesn't, each passes
all_of : {A : Type 0} (p : A → Bool) (n : ℕ) (xs : List A) → position_from (λ x. not (p x)) n xs ≡ None → list_all p xs ≡ true
all_of p n [] e = refl
all_of p n (x ∷ xs) e = by_test p n x xs (p x) refl (all_of p (n + 1) xs) e

pub some_without_target : (bs : List Locked) (k : ℕ) → all_lead_on bs ≡ true → first_without_target bs ≡ Some k → ⊥
some_without_target bs k h e = none_of (package_leads_on bs) 0 k bs h e

pub none_without_target : (bs : List Locked) → first_without_target bs ≡ None → all_lead_on bs ≡ true
none_without_target bs e = all_of (package_leads_on bs) 0 bs e
