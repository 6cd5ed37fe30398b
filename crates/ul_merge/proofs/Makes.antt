-- Lists that are made element by element.
use Rattle.std.proofs.Common.{◌≡◌, ◌⊎◌, ℕ, ◌<◌, ◌≤◌, ◌+◌, List, [], ◌∷◌, ◌++◌, length, get_or, take, Bool, true, Option, Some, None, Contains, refl, sym, ap, ap₂, ◌∙◌, subst, inl, inr, ⊎_elim}
use Rattle.std.proofs.lemmas.List.{take_all, take_more}
use Rattle.std.proofs.lemmas.List.Elements.{Contains-append_right, Contains-append_cases}
use Rattle.ul_lock.specs.Increasing.{Before, Rising}
use Rattle.ul_sound.specs.Indexes.{IsIndex}
use Rattle.ul_merge.specs.Made.{AreMade, at_most_one}
use Rattle.ul_base.proofs.ForCallers.{contains_first, contains_later, contains_cases, none_in}

module _ {A B : Type 0} (Makes : A → Option B → Type 0) where
  nothing_behind : (xs : List B) → xs ≡ xs ++ []
  nothing_behind [] = refl
  nothing_behind (x ∷ xs) = ap (λ (ys : List B). x ∷ ys) (nothing_behind xs)

  joined : (xs ys zs : List B) → (xs ++ ys) ++ zs ≡ xs ++ (ys ++ zs)
  joined [] ys zs = refl
  joined (x ∷ xs) ys zs = ap (λ (vs : List B). x ∷ vs) (joined xs ys zs)

  -- one more is made
  made_last : (us : List A) (bs : List B) (a : A) (o : Option B) → AreMade Makes us bs → Makes a o → AreMade Makes (us ++ a ∷ []) (bs ++ at_most_one o)
  made_last [] bs a o m h = (o, [], h, ap (λ (xs : List B). xs ++ at_most_one o) m ∙ nothing_behind (at_most_one o), refl)
  made_last (x ∷ us) bs a o m h = (m.0, m.1 ++ at_most_one o, m.2, ap (λ (xs : List B). xs ++ at_most_one o) m.3 ∙ joined (at_most_one m.0) m.1 (at_most_one o), made_last us m.1 a o m.4 h)

  -- a loop's step
  pub made_more : (us : List A) (i : ℕ) (a : A) (bs now : List B) (o : Option B) → i < length us → a ≡ get_or us i a → AreMade Makes (take i us) bs → Makes a o → now ≡ bs ++ at_most_one o
      → AreMade Makes (take (i + 1) us) now
  made_more us i a bs now o lt at m h is = subst (λ (xs : List A). AreMade Makes xs now) (sym (take_more us i a lt ∙ ap (λ (x : A). take i us ++ x ∷ []) (sym at)))
      (subst (AreMade Makes (take i us ++ a ∷ [])) (sym is) (made_last (take i us) bs a o m h))

  -- a loop's end
  pub made_all : (us : List A) (i : ℕ) (bs : List B) → length us ≤ i → AreMade Makes (take i us) bs → AreMade Makes us bs
  made_all us i bs past m = subst (λ (xs : List A). AreMade Makes xs bs) (take_all i us past) m

  -- what was made, and of what
  pub made_from : (us : List A) (bs : List B) (b : B) → AreMade Makes us bs → Contains bs b → (a : A) × Contains us a × Makes a (Some b)
  made_from [] bs b m n = absurd (none_in b (subst (λ (xs : List B). Contains xs b) m n))
  made_from (x ∷ us) bs b (None, rest, h, is, m) n = let f : (a : A) × Contains us a × Makes a (Some b) = made_from us rest b m (subst (λ (xs : List B). Contains xs b) is n) in
      (f.0, contains_later x us f.0 f.1, f.2)
  made_from (x ∷ us) bs b (Some y, rest, h, is, m) n = ⊎_elim
      (λ e. (x, contains_first x us, subst (λ (z : B). Makes x (Some z)) (sym e) h))
      (λ r. let f : (a : A) × Contains us a × Makes a (Some b) = made_from us rest b m r in (f.0, contains_later x us f.0 f.1, f.2))
      (contains_cases y rest b (subst (λ (xs : List B). Contains xs b) is n))

  -- what is made of an element
  pub made_of : (us : List A) (bs : List B) (a : A) → AreMade Makes us bs → Contains us a → (o : Option B) × Makes a o × ((b : B) → o ≡ Some b → Contains bs b)
  made_of [] bs a m n = absurd (none_in a n)
  made_of (x ∷ us) bs a m n = ⊎_elim
      (λ e. (m.0, subst (λ (z : A). Makes z m.0) (sym e) m.2, λ b q. subst (λ (xs : List B). Contains xs b) (sym m.3) (subst (λ (o : Option B). Contains (at_most_one o ++ m.1) b) (sym q) (contains_first b m.1))))
      (λ r. let f : (o : Option B) × Makes a o × ((b : B) → o ≡ Some b → Contains m.1 b) = made_of us m.1 a m.4 r in
      (f.0, f.1, λ b q. subst (λ (xs : List B). Contains xs b) (sym m.3) (Contains-append_right (at_most_one m.0) m.1 b (f.2 b q))))
      (contains_cases x us a n)

module _ {A B : Type 0} (Makes : A → Option B → Type 0) (below : A → A → Bool) (less : B → B → Bool)
    (through : (a b c : A) → below a b ≡ true → below b c ≡ true → below a c ≡ true)
    (keeps : (a b : A) (x y : B) → Makes a (Some x) → Makes b (Some y) → below a b ≡ true → less x y ≡ true) where
  -- below the first of what is made
  before_made : (a : A) (x : B) (us : List A) (bs : List B) → Makes a (Some x) → Rising below (a ∷ us) → AreMade Makes us bs → Before less x bs
  before_made a x [] bs h r m = subst (Before less x) (sym m) tt
  before_made a x (c ∷ us) bs h r (Some y, rest, k, is, m) = subst (Before less x) (sym is) (keeps a c x y h k r.0)
  before_made a x (c ∷ []) bs h r (None, rest, k, is, m) = subst (Before less x) (sym (is ∙ m)) tt
  before_made a x (c ∷ d ∷ us) bs h r (None, rest, k, is, m) = subst (Before less x) (sym is) (before_made a x (d ∷ us) rest h (through a c d r.0 r.1.0, r.1.1) m)

  -- what is made of increasing elements increases
  pub made_rises : (us : List A) (bs : List B) → Rising below us → AreMade Makes us bs → Rising less bs
  made_rises [] bs r m = subst (Rising less) (sym m) tt
  made_rises (a ∷ us) bs r (None, rest, k, is, m) = subst (Rising less) (sym is) (made_rises us rest r.1 m)
  made_rises (a ∷ us) bs r (Some x, rest, k, is, m) = subst (Rising less) (sym is) (before_made a x us rest k r m, made_rises us rest r.1 m)

  -- an index, of elements that increase, one for each wanted key
  pub made_index : {I : Type 0} (key : B → I) (Wanted : I → Type 0) (Right : B → Type 0) (us : List A) (bs : List B) → Rising below us → AreMade Makes us bs
      → ((a : A) (b : B) → Contains us a → Makes a (Some b) → Wanted (key b) × Right b)
      → ((i : I) → Wanted i → (a : A) × Contains us a × ((o : Option B) → Makes a o → (b : B) × (o ≡ Some b) × (key b ≡ i)))
      → IsIndex key less Wanted Right bs
  made_index {I = I} key Wanted Right us bs r m right all = record {
    rises = made_rises us bs r m;
    wanted = λ b n. let f : (a : A) × Contains us a × Makes a (Some b) = made_from Makes us bs b m n in (right f.0 b f.1 f.2).0;
    right = λ b n. let f : (a : A) × Contains us a × Makes a (Some b) = made_from Makes us bs b m n in (right f.0 b f.1 f.2).1;
    each = λ i w.
        let a : (a : A) × Contains us a × ((o : Option B) → Makes a o → (b : B) × (o ≡ Some b) × (key b ≡ i)) = all i w in
        let f : (o : Option B) × Makes a.0 o × ((b : B) → o ≡ Some b → Contains bs b) = made_of Makes us bs a.0 m a.1 in
        let b : (b : B) × (f.0 ≡ Some b) × (key b ≡ i) = a.2 f.0 f.1 in
        (b.0, f.2 b.0 b.1, b.2);
  }
