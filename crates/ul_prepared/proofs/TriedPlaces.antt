-- The places of versions in the order in which they are tried.
use Rattle.std.specs.Prelude.{All, Contains, slice_get}
use Rattle.std.proofs.Common.{◌≡◌, ◌<◌, ◌+◌, ◌⊎◌, ℕ, zero, suc, List, [], ◌∷◌, ◌++◌, length, get_or, map, filter, reverse, cond, not, Bool, true, false, Some, refl, sym, ap, subst, ◌∙◌, inl, inr, ⊎_elim, arith}
use Rattle.std.specs.List.{range_with_len}
use Rattle.std.proofs.lemmas.List.{reverse-append, length-append, length-map, map-id, get_or-map}
use Rattle.std.proofs.lemmas.List.FromFn.{map-range_with_len_more, length-range_with_len, get_or-range_with_len}
use Rattle.std.proofs.lemmas.List.Elements.{All-append, All-filter, All-from_get_or, filter-append, Contains-append_left, Contains-append_right}
use Rattle.std.proofs.lemmas.List.Filters.{length-filter_both}
use Rattle.std.proofs.lemmas.List.Sorted.{Contains-permutation, IsPermutation-reverse}
use Rattle.std.proofs.lemmas.Option.{slice_get_within, get_or_from_slice_get}
use Rattle.ul_base.proofs.ForCallers.{contains_first, contains_later, contains_cases, none_in}
use Rattle.ul_version.specs.Fields.{Fields}
use Rattle.ul_problem.specs.Problems.{IsOrderOf}
use Rattle.ul_region.specs.Problem.{AreVersionsAt}
use Rattle.ul_prepared.specs.Orders.{places_below, flag_at, tried_places}

-- ---- places from the first on

no_more : (n : ℕ) → 0 + n ≡ n
no_more n = omega arith

-- one place more
pub places_more : (n : ℕ) → places_below (n + 1) ≡ places_below n ++ n ∷ []
places_more n = sym (map-id (places_below (n + 1))) ∙ (map-range_with_len_more (λ (k : ℕ). k) 0 n n (no_more n) ∙ ap (λ (z : List ℕ). z ++ n ∷ []) (map-id (places_below n)))

pub below_all : (n : ℕ) → All (λ (v : ℕ). v < n) (places_below n)
below_all n = All-from_get_or (λ (v : ℕ). v < n) (places_below n) 0 (λ i h. let l : i < n = subst (λ (m : ℕ). i < m) (length-range_with_len 0 n) h in
    subst (λ (m : ℕ). m < n) (sym (get_or-range_with_len 0 n i 0 l ∙ no_more i)) l)

pub place_there : (n v : ℕ) → v < n → Contains (places_below n) v
place_there n v h = (v, subst (λ (m : ℕ). v < m) (sym (length-range_with_len 0 n)) h, get_or-range_with_len 0 n v v h ∙ no_more v)

-- ---- lists the other way round

turned_has : (xs : List ℕ) (x : ℕ) → Contains xs x → Contains (reverse xs) x
turned_has xs x h = Contains-permutation xs (reverse xs) x (IsPermutation-reverse xs) h

turned_all : (P : ℕ → Type 0) (xs : List ℕ) → All P xs → All P (reverse xs)
turned_all P [] h = h
turned_all P (x ∷ xs) h = subst (All P) (sym (reverse-append (x ∷ []) xs)) (All-append P (reverse xs) (x ∷ []) (turned_all P xs (λ k d l. h (suc k) d (omega (arith, l)))) (λ k d l. first k d l))
  where
    first : (k d : ℕ) → k < 1 → P (get_or (x ∷ []) k d)
    first zero d l = h 0 d (omega arith)
    first (suc k) d l = absurd (omega (arith, l))

-- ---- what a test keeps

differ : true ≡ false → ⊥
differ e = cc

kept_step : (f : ℕ → Bool) (xs : List ℕ) (y : ℕ) (b : Bool) → f y ≡ b → (x : ℕ) → (y ≡ x) ⊎ Contains (filter f xs) x → f x ≡ true → Contains (cond b (y ∷ filter f xs) (filter f xs)) x
kept_step f xs y true t x (inl e) h = subst (λ (z : ℕ). Contains (y ∷ filter f xs) z) e (contains_first y (filter f xs))
kept_step f xs y false t x (inl e) h = absurd (differ (sym h ∙ (ap f (sym e) ∙ t)))
kept_step f xs y true t x (inr m) h = contains_later y (filter f xs) x m
kept_step f xs y false t x (inr m) h = m

pub kept_has : (f : ℕ → Bool) (xs : List ℕ) (x : ℕ) → f x ≡ true → Contains xs x → Contains (filter f xs) x
kept_has f [] x t h = absurd (none_in x h)
kept_has f (y ∷ xs) x t h = kept_step f xs y (f y) refl x (⊎_elim (λ e. inl (sym e)) (λ m. inr (kept_has f xs x t m)) (contains_cases y xs x h)) t

count_step : (b : Bool) (x m n : ℕ) (c : List ℕ) → m ≡ length c → m + length (cond b (x ∷ []) []) ≡ length (cond b (x ∷ c) c)
count_step true x m n c e = omega (arith, e)
count_step false x m n c e = omega (arith, e)

-- as many are kept of a list the other way round
count_turned : (f : ℕ → Bool) (xs : List ℕ) → length (filter f (reverse xs)) ≡ length (filter f xs)
count_turned f [] = refl
count_turned f (x ∷ xs) =
    ap (λ (z : List ℕ). length (filter f z)) (reverse-append (x ∷ []) xs)
    ∙ (ap (λ (z : List ℕ). length z) (filter-append f (reverse xs) (x ∷ []))
    ∙ (length-append (filter f (reverse xs)) (filter f (x ∷ []))
    ∙ count_step (f x) x (length (filter f (reverse xs))) 0 (filter f xs) (count_turned f xs)))

-- ---- each version stands once in the order

either_way : (n : ℕ) (oldest : Bool) → (All (λ (v : ℕ). v < n) (cond oldest (places_below n) (reverse (places_below n)))) × ((v : ℕ) → v < n → Contains (cond oldest (places_below n) (reverse (places_below n))) v)
either_way n true = (below_all n, place_there n)
either_way n false = (turned_all (λ (v : ℕ). v < n) (places_below n) (below_all n), λ v h. turned_has (places_below n) v (place_there n v h))

count_either : (f : ℕ → Bool) (xs : List ℕ) (oldest : Bool) → length (filter f (cond oldest xs (reverse xs))) ≡ length (filter f xs)
count_either f xs true = refl
count_either f xs false = count_turned f xs

opposite : (b : Bool) → b ≡ false → not b ≡ true
opposite true e = absurd (differ e)
opposite false e = refl

truth_of : (b : Bool) → (b ≡ true) ⊎ (b ≡ false)
truth_of true = inl refl
truth_of false = inr refl

pub tried_whole : (flags : List Bool) (oldest : Bool) → IsOrderOf (length flags) (tried_places flags oldest)
tried_whole flags oldest =
    let n : ℕ = length flags in
    let f : ℕ → Bool = flag_at flags in
    let g : ℕ → Bool = (λ k. not (flag_at flags k)) in
    let first : List ℕ = filter f (reverse (places_below n)) in
    let way : List ℕ = cond oldest (places_below n) (reverse (places_below n)) in
    let rest : List ℕ = filter g way in
    let both = either_way n oldest in
    let count : length first + length rest ≡ n =
    ap (λ (m : ℕ). m + length rest) (count_turned f (places_below n)) ∙ (ap (λ (m : ℕ). length (filter f (places_below n)) + m) (count_either g (places_below n) oldest)
    ∙ (length-filter_both f g (λ k. refl) (places_below n) ∙ length-range_with_len 0 n)) in (
      length-append first rest ∙ count,
      All-append (λ (v : ℕ). v < n) first rest (All-filter f (λ (v : ℕ). v < n) (reverse (places_below n)) (turned_all (λ (v : ℕ). v < n) (places_below n) (below_all n))) (All-filter g (λ (v : ℕ). v < n) way both.0),
      (λ v h. ⊎_elim (λ t. Contains-append_left first rest v (kept_has f (reverse (places_below n)) v t (turned_has (places_below n) v (place_there n v h))))
          (λ t. Contains-append_right first rest v (kept_has g way v (opposite (f v) t) (both.1 v h))) (truth_of (f v))),
    )

-- ---- versions at their places

module _ (vs : List Fields) where
  keep_both : (k : ℕ) (x : Fields) (ks : List ℕ) (xs : List Fields) (b c : Bool) → b ≡ c → slice_get vs k ≡ Some x → AreVersionsAt vs ks xs → AreVersionsAt vs (cond b (k ∷ ks) ks) (cond c (x ∷ xs) xs)
  keep_both k x ks xs true true e r a = (r, a)
  keep_both k x ks xs false false e r a = a
  keep_both k x ks xs true false e r a = absurd (differ e)
  keep_both k x ks xs false true e r a = absurd (differ (sym e))

  kept_at : (f : ℕ → Bool) (p : Fields → Bool) → ((k : ℕ) (x : Fields) → slice_get vs k ≡ Some x → f k ≡ p x) → (ks : List ℕ) (xs : List Fields) → AreVersionsAt vs ks xs → AreVersionsAt vs (filter f ks) (filter p xs)
  kept_at f p same [] [] h = tt
  kept_at f p same [] (x ∷ xs) h = absurd h
  kept_at f p same (k ∷ ks) [] h = absurd h
  kept_at f p same (k ∷ ks) (x ∷ xs) h = keep_both k x (filter f ks) (filter p xs) (f k) (p x) (same k x h.0) h.0 (kept_at f p same ks xs h.1)

  joined_at : (ks : List ℕ) (xs : List Fields) (ls : List ℕ) (ys : List Fields) → AreVersionsAt vs ks xs → AreVersionsAt vs ls ys → AreVersionsAt vs (ks ++ ls) (xs ++ ys)
  joined_at [] [] ls ys h i = i
  joined_at [] (x ∷ xs) ls ys h i = absurd h
  joined_at (k ∷ ks) [] ls ys h i = absurd h
  joined_at (k ∷ ks) (x ∷ xs) ls ys h i = (h.0, joined_at ks xs ls ys h.1 i)

  turned_at : (ks : List ℕ) (xs : List Fields) → AreVersionsAt vs ks xs → AreVersionsAt vs (reverse ks) (reverse xs)
  turned_at [] [] h = tt
  turned_at [] (x ∷ xs) h = absurd h
  turned_at (k ∷ ks) [] h = absurd h
  turned_at (k ∷ ks) (x ∷ xs) h = subst (λ (z : List ℕ). AreVersionsAt vs z (reverse (x ∷ xs))) (sym (reverse-append (k ∷ []) ks))
      (subst (λ (z : List Fields). AreVersionsAt vs (reverse ks ++ k ∷ []) z) (sym (reverse-append (x ∷ []) xs)) (joined_at (reverse ks) (reverse xs) (k ∷ []) (x ∷ []) (turned_at ks xs h.1) (h.0, tt)))

  here : (a : ℕ) → a + 0 ≡ a
  here a = omega arith

  next : (a j : ℕ) → a + suc j ≡ (a + 1) + j
  next a j = omega arith

  rising_from : (xs : List Fields) (a : ℕ) → ((j : ℕ) (x : Fields) → slice_get xs j ≡ Some x → slice_get vs (a + j) ≡ Some x) → AreVersionsAt vs (range_with_len a (length xs)) xs
  rising_from [] a h = tt
  rising_from (x ∷ xs) a h = (subst (λ (n : ℕ). slice_get vs n ≡ Some x) (here a) (h 0 x refl), rising_from xs (a + 1) (λ j y e. subst (λ (n : ℕ). slice_get vs n ≡ Some y) (next a j) (h (suc j) y e)))

  rising_at : AreVersionsAt vs (places_below (length vs)) vs
  rising_at = rising_from vs 0 (λ j x e. subst (λ (n : ℕ). slice_get vs n ≡ Some x) (sym (no_more j)) e)

  ways_at : (oldest : Bool) → AreVersionsAt vs (cond oldest (places_below (length vs)) (reverse (places_below (length vs)))) (cond oldest vs (reverse vs))
  ways_at true = rising_at
  ways_at false = turned_at (places_below (length vs)) vs rising_at

  flag_is : (p : Fields → Bool) (k : ℕ) (x : Fields) → slice_get vs k ≡ Some x → flag_at (map p vs) k ≡ p x
  flag_is p k x e = get_or-map p vs k x false (slice_get_within vs k x e) ∙ ap p (get_or_from_slice_get vs k x x e)

  -- the places that are tried stand for the versions that a test passes, newest first, and then for the others
  pub tried_at : (p : Fields → Bool) (oldest : Bool) → AreVersionsAt vs (tried_places (map p vs) oldest) (filter p (reverse vs) ++ filter (λ x. not (p x)) (cond oldest vs (reverse vs)))
  tried_at p oldest = subst (λ (n : ℕ). AreVersionsAt vs (filter (flag_at (map p vs)) (reverse (places_below n)) ++ filter (λ k. not (flag_at (map p vs) k)) (cond oldest (places_below n) (reverse (places_below n))))
      (filter p (reverse vs) ++ filter (λ x. not (p x)) (cond oldest vs (reverse vs)))) (sym (length-map vs p))
      (joined_at (filter (flag_at (map p vs)) (reverse (places_below (length vs)))) (filter p (reverse vs)) (filter (λ k. not (flag_at (map p vs) k)) (cond oldest (places_below (length vs)) (reverse (places_below (length vs))))) (filter (λ x. not (p x)) (cond oldest vs (reverse vs)))
      (kept_at (flag_at (map p vs)) p (flag_is p) (reverse (places_below (length vs))) (reverse vs) (turned_at (places_below (length vs)) vs rising_at))
      (kept_at (λ k. not (flag_at (map p vs) k)) (λ x. not (p x)) (λ k x e. ap not (flag_is p k x e)) (cond oldest (places_below (length vs)) (reverse (places_below (length vs)))) (cond oldest vs (reverse vs)) (ways_at oldest)))
