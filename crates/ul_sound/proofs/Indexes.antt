-- A list that has, in order, a right element for each wanted key is determined.
use Rattle.std.proofs.Common.{◌≡◌, ◌⊎◌, ◌↔◌, List, [], ◌∷◌, Bool, true, Contains, refl, sym, ap₂, ◌∙◌, subst, inl, inr, ⊎_elim}
use Rattle.ul_base.proofs.ForCallers.{contains_first, contains_later, contains_cases, none_in}
use Rattle.ul_lock.specs.Increasing.{Rising}
use Rattle.ul_sound.specs.Indexes.{IsIndex}
use Rattle.ul_sound.proofs.Strict.{IsStrict}

-- the first of a list that increases stands before each other element
pub before_all : {A : Type 0} (less : A → A → Bool) → IsStrict less → (x : A) (xs : List A) (y : A) → Rising less (x ∷ xs) → Contains xs y → less x y ≡ true
before_all less strict x [] y h m = absurd (none_in y m)
before_all less strict x (z ∷ zs) y h m = ⊎_elim (λ e. subst (λ a. less x a ≡ true) (sym e) h.0) (λ r. strict.through x z y h.0 (before_all less strict z zs y h.1 r)) (contains_cases z zs y m)

module _ {A : Type 0} (less : A → A → Bool) (strict : IsStrict less) where
  heads : (x y : A) (xs ys : List A) → Rising less (x ∷ xs) → Rising less (y ∷ ys) → (x ≡ y) ⊎ Contains ys x → (y ≡ x) ⊎ Contains xs y → x ≡ y
  heads x y xs ys h k (inl e) n = e
  heads x y xs ys h k (inr m) (inl e) = sym e
  heads x y xs ys h k (inr m) (inr n) = absurd (strict.never x (strict.through x y x (before_all less strict x xs y h n) (before_all less strict y ys x k m)))

  tail_in : (x y z : A) (xs ys : List A) → Rising less (x ∷ xs) → x ≡ y → Contains xs z → (z ≡ y) ⊎ Contains ys z → Contains ys z
  tail_in x y z xs ys h e m (inl d) = absurd (strict.never x (subst (λ a. less x a ≡ true) (d ∙ sym e) (before_all less strict x xs z h m)))
  tail_in x y z xs ys h e m (inr n) = n

  pub increasing_same : (xs ys : List A) → Rising less xs → Rising less ys → ((z : A) → Contains xs z ↔ Contains ys z) → xs ≡ ys
  increasing_same [] [] h k same = refl
  increasing_same [] (y ∷ ys) h k same = absurd (none_in y ((same y).1 (contains_first y ys)))
  increasing_same (x ∷ xs) [] h k same = absurd (none_in x ((same x).0 (contains_first x xs)))
  increasing_same (x ∷ xs) (y ∷ ys) h k same =
      let head : x ≡ y = heads x y xs ys h k (contains_cases y ys x ((same x).0 (contains_first x xs))) (contains_cases x xs y ((same y).1 (contains_first y ys))) in
      ap₂ ◌∷◌ head (increasing_same xs ys h.1 k.1 (λ z. (
        (λ m. tail_in x y z xs ys h head m (contains_cases y ys z ((same z).0 (contains_later x xs z m)))),
        (λ m. tail_in y x z ys xs k (sym head) m (contains_cases x xs z ((same z).1 (contains_later y ys z m)))),
      )))

  module _ {K : Type 0} (key : A → K) (Wanted : K → Type 0) (Right : A → Type 0) (once : (a b : A) → key a ≡ key b → Right a → Right b → a ≡ b) where
    member_too : (xs ys : List A) → IsIndex key less Wanted Right xs → IsIndex key less Wanted Right ys → (z : A) → Contains xs z → Contains ys z
    member_too xs ys h k z m =
        let found : (x : A) × Contains ys x × (key x ≡ key z) = k.each (key z) (h.wanted z m) in
        subst (Contains ys) (once found.0 z found.2 (k.right found.0 found.1) (h.right z m)) found.1

    -- two such lists are one
    pub index_once : (xs ys : List A) → IsIndex key less Wanted Right xs → IsIndex key less Wanted Right ys → xs ≡ ys
    index_once xs ys h k = increasing_same xs ys h.rises k.rises (λ z. (member_too xs ys h k z, member_too ys xs k h z))
