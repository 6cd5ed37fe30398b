-- A list in increasing order, an element for each level.
use Rattle.std.proofs.Common.{◌≡◌, ◌⊎◌, List, [], ◌∷◌, Contains, refl, sym, ap, subst, ◌∙◌, inl, inr, ⊎_elim}
use Rattle.std.specs.Cmp.{IsTotalOrder, tied_itself}
use Rattle.std.specs.Ordering.{ordering_reverse}
use Rattle.std.specs.declared.cmp.Ordering.{Ordering}
use Rattle.std.specs.declared.cmp.Ordering.TheVariants.{Less, Equal, Greater}
use Rattle.ul_base.specs.Increasing.{Increases, IncreasesFrom}
use Rattle.ul_base.proofs.ForCallers.{contains_first, contains_later, contains_cases, none_in, tail}

module _ {A : Type 0} (cmp : A → A → Ordering) (total : IsTotalOrder cmp) where
  -- one comes before another
  abbrev Before : A → A → Type 0
  Before a b = cmp a b ≡ Less

  -- an element of the list is level with this one
  abbrev HasLevel : List A → A → Type 0
  HasLevel zs x = (z : A) × Contains zs z × (cmp x z ≡ Equal)

  -- an element put to a list that increases; what comes before all of both comes before all of it
  record IsPut (x : A) (xs : List A) : Type 0 where
    list : List A
    increasing : Increases Before list
    from : (b : A) → Before b x → IncreasesFrom Before b xs → IncreasesFrom Before b list
    level : HasLevel list x
    kept : (y : A) → Contains xs y → Contains list y
    only : (y : A) → Contains list y → (y ≡ x) ⊎ Contains xs y

  put_first : (x z : A) (zs : List A) → IncreasesFrom Before z zs → Before x z → IsPut x (z ∷ zs)
  put_first x z zs h e = record {
    list = x ∷ z ∷ zs;
    increasing = (e, h);
    from = λ b l i. (l, (e, h));
    level = (x, contains_first x (z ∷ zs), tied_itself total x);
    kept = λ y m. contains_later x (z ∷ zs) y m;
    only = λ y m. contains_cases x (z ∷ zs) y m;
  }

  put_level : (x z : A) (zs : List A) → IncreasesFrom Before z zs → cmp x z ≡ Equal → IsPut x (z ∷ zs)
  put_level x z zs h e = record {
    list = z ∷ zs;
    increasing = h;
    from = λ b l i. i;
    level = (z, contains_first z zs, e);
    kept = λ y m. m;
    only = λ y m. inr m;
  }

  put_later : (x z : A) (zs : List A) → IncreasesFrom Before z zs → Before z x → IsPut x zs → IsPut x (z ∷ zs)
  put_later x z zs h e r = record {
    list = z ∷ r.list;
    increasing = r.from z e h;
    from = λ b l i. (i.0, r.from z e h);
    level = (r.level.0, contains_later z r.list r.level.0 r.level.1, r.level.2);
    kept = λ y m. ⊎_elim (λ s. subst (Contains (z ∷ r.list)) (sym s) (contains_first z r.list))
        (λ j. contains_later z r.list y (r.kept y j)) (contains_cases z zs y m);
    only = λ y m. ⊎_elim (λ s. inr (subst (Contains (z ∷ zs)) (sym s) (contains_first z zs)))
        (λ k. ⊎_elim inl (λ j. inr (contains_later z zs y j)) (r.only y k)) (contains_cases z r.list y m);
  }

  put : (x : A) (xs : List A) → Increases Before xs → IsPut x xs
  put x [] h = record {
    list = x ∷ [];
    increasing = tt;
    from = λ b l i. (l, tt);
    level = (x, contains_first x [], tied_itself total x);
    kept = λ y m. absurd (none_in y m);
    only = λ y m. contains_cases x [] y m;
  }
  put x (z ∷ zs) h = step (put x zs (tail Before total.trans z zs h)) (cmp x z) refl
    where
      step : IsPut x zs → (o : Ordering) → cmp x z ≡ o → IsPut x (z ∷ zs)
      step r Less e = put_first x z zs h e
      step r Equal e = put_level x z zs h e
      step r Greater e = put_later x z zs h (total.antisymm z x ∙ ap ordering_reverse e) r

  -- elements of a list in increasing order, with one that is level with each
  pub record AreOrdered (xs zs : List A) : Type 0 where
    pub increasing : Increases (λ a b. cmp a b ≡ Less) zs
    pub level : (y : A) → Contains xs y → (z : A) × Contains zs z × (cmp y z ≡ Equal)
    pub only : (y : A) → Contains zs y → Contains xs y

  -- there is such a list
  pub ordered_exist : (xs : List A) → (zs : List A) × AreOrdered xs zs
  ordered_exist [] = ([], record { increasing = tt; level = λ y m. absurd (none_in y m); only = λ y m. m })
  ordered_exist (x ∷ xs) = step (ordered_exist xs)
    where
      step : ((zs : List A) × AreOrdered xs zs) → (zs : List A) × AreOrdered (x ∷ xs) zs
      step r = let p = put x r.0 r.1.increasing in (
        p.list,
        record {
          increasing = p.increasing;
          level = λ y m. ⊎_elim (λ s. subst (HasLevel p.list) (sym s) p.level)
              (λ k. let z = r.1.level y k in (z.0, p.kept z.0 z.1, z.2)) (contains_cases x xs y m);
          only = λ y m. ⊎_elim (λ s. subst (Contains (x ∷ xs)) (sym s) (contains_first x xs))
              (λ k. contains_later x xs y (r.1.only y k)) (p.only y m);
        },
      )
