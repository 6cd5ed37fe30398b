-- What is wanted of a list has an index: where candidates are listed and each is decided, the elements of those that
-- are wanted are put in order, each once.
use Rattle.std.proofs.Common.{◌≡◌, List, [], ◌∷◌, Bool, true, Contains, sym, ◌∙◌, subst, inl, inr, ⊎_elim}
use Rattle.std.proofs.Common.{Less, Equal}
use Rattle.std.specs.Cmp.{IsTotalOrder, on_total}
use Rattle.std.specs.Ordering.{on}
use Rattle.std.specs.declared.cmp.Ordering.{Ordering}
use Rattle.ul_base.specs.Increasing.{Increases, IncreasesFrom}
use Rattle.ul_base.proofs.ForCallers.{contains_first, contains_later, contains_cases, none_in, tail}
use Rattle.ul_lock.specs.Increasing.{Before, Rising}
use Rattle.ul_sound.specs.Indexes.{IsIndex}
use Rattle.laws_trees.specs.Decided.{Decided}
use Rattle.laws_trees.proofs.ForCallers.{ordered_exist}

-- what an index is made of: an order of keys by which elements are compared, the keys that may be wanted, each decided,
-- and a right element for each that is
pub record AreIndexParts {A K : Type 0} (key : A → K) (less : A → A → Bool) (Wanted : K → Type 0) (Right : A → Type 0)
    (cmp : K → K → Ordering) (candidates : List K) : Type 0 where
  pub total : IsTotalOrder cmp
  pub below : (a b : A) → cmp (key a) (key b) ≡ Less → less a b ≡ true
  pub same : (i j : K) → Wanted i → Wanted j → cmp i j ≡ Equal → i ≡ j
  pub decided : (i : K) → Contains candidates i → Decided (Wanted i)
  pub listed : (i : K) → Wanted i → Contains candidates i
  pub made : (i : K) → Wanted i → (x : A) × (key x ≡ i) × Right x

module _ {A K : Type 0} (key : A → K) (less : A → A → Bool) (Wanted : K → Type 0) (Right : A → Type 0)
    (cmp : K → K → Ordering) (candidates : List K) (h : AreIndexParts key less Wanted Right cmp candidates) where
  -- ---- the elements of what is wanted

  -- right elements of the keys that are wanted, one for each
  record AreMade (ks : List K) (xs : List A) : Type 0 where
    wanted : (x : A) → Contains xs x → Wanted (key x)
    right : (x : A) → Contains xs x → Right x
    each : (i : K) → Contains ks i → Wanted i → (x : A) × Contains xs x × (key x ≡ i)

  -- with a key more that is wanted
  made_more : (k : K) (ks : List K) (a : A) (xs : List A) → Wanted k → key a ≡ k → Right a → AreMade ks xs
      → AreMade (k ∷ ks) (a ∷ xs)
  made_more k ks a xs w e r more = record {
    wanted = λ x m. ⊎_elim (λ s. subst (λ (y : A). Wanted (key y)) (sym s) (subst Wanted (sym e) w))
        (λ n. more.wanted x n) (contains_cases a xs x m);
    right = λ x m. ⊎_elim (λ s. subst Right (sym s) r) (λ n. more.right x n) (contains_cases a xs x m);
    each = λ i m v. ⊎_elim (λ s. (a, contains_first a xs, e ∙ sym s))
        (λ n. let f = more.each i n v in (f.0, contains_later a xs f.0 f.1, f.2)) (contains_cases k ks i m);
  }

  -- and with one that isn't
  made_still : (k : K) (ks : List K) (xs : List A) → (Wanted k → ⊥) → AreMade ks xs → AreMade (k ∷ ks) xs
  made_still k ks xs z more = record {
    wanted = more.wanted;
    right = more.right;
    each = λ i m v. ⊎_elim (λ s. absurd (z (subst Wanted s v))) (λ n. more.each i n v) (contains_cases k ks i m);
  }

  made_next : (k : K) (ks : List K) → Decided (Wanted k) → (xs : List A) × AreMade ks xs
      → (xs : List A) × AreMade (k ∷ ks) xs
  made_next k ks (inl w) more =
      let a = h.made k w in (a.0 ∷ more.0, made_more k ks a.0 more.0 w a.1 a.2 more.1)
  made_next k ks (inr z) more = (more.0, made_still k ks more.0 z more.1)

  made_of : (ks : List K) → ((i : K) → Contains ks i → Decided (Wanted i)) → (xs : List A) × AreMade ks xs
  made_of [] d = (
    [],
    record {
      wanted = λ x m. absurd (none_in x m);
      right = λ x m. absurd (none_in x m);
      each = λ i m v. absurd (none_in i m);
    },
  )
  made_of (k ∷ ks) d =
      made_next k ks (d k (contains_first k ks)) (made_of ks (λ i m. d i (contains_later k ks i m)))

  -- ---- in order

  -- one element's key comes before another's
  abbrev IsLess : A → A → Type 0
  IsLess a b = cmp (key a) (key b) ≡ Less

  before : (x : A) (xs : List A) → IncreasesFrom IsLess x xs → Before less x xs
  before x [] i = tt
  before x (y ∷ ys) i = h.below x y i.0

  rising : (xs : List A) → Increases IsLess xs → Rising less xs
  rising [] i = tt
  rising (x ∷ xs) i = (before x xs i, rising xs (tail IsLess (λ a b c. h.total.trans (key a) (key b) (key c)) x xs i))

  -- what is wanted has an index
  pub index_exists : (xs : List A) × IsIndex key less Wanted Right xs
  index_exists =
      let made = made_of candidates h.decided in
      let zs = ordered_exist (on key cmp) (on_total key h.total) made.0 in (
        zs.0,
        record {
          rises = rising zs.0 zs.1.increasing;
          wanted = λ x m. made.1.wanted x (zs.1.only x m);
          right = λ x m. made.1.right x (zs.1.only x m);
          each = λ i w. (let x = made.1.each i (h.listed i w) w in
              let z = zs.1.level x.0 x.1 in
              let there : Wanted (key x.0) = made.1.wanted x.0 x.1 in
              let other : Wanted (key z.0) = made.1.wanted z.0 (zs.1.only z.0 z.1) in
              (z.0, z.1, sym (h.same (key x.0) (key z.0) there other z.2) ∙ x.2));
        },
      )
