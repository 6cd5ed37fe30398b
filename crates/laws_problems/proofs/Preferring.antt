-- The eligible versions of a name increase, and the order in which they are tried has the place of each once.
use Rattle.std.proofs.Common.{◌≡◌, ◌+◌, ◌<◌, ℕ, List, [], ◌∷◌, length, filter, reverse, cond, not, Bool, true, false, Some, None, refl, ap, subst, ◌∙◌, arith}
use Rattle.std.specs.Prelude.{All, Contains, slice_get}
use Rattle.std.specs.List.{AllByRecursion, AllZip}
use Rattle.std.proofs.lemmas.List.{length-append, reverse-append}
use Rattle.std.proofs.lemmas.List.Elements.{All-nil, All-cons, filter-append}
use Rattle.std.proofs.lemmas.List.Filters.{length-filter_both}
use Rattle.std.proofs.lemmas.Option.{slice_get_within}
use Rattle.std.proofs.lemmas.Slice.Zip.{AllZip-long}
use Rattle.ul_version.specs.Fields.{Fields}
use Rattle.ul_problem.specs.Problems.{Increases, IncreasesFrom, IsOrderOf, VersionBefore}
use Rattle.ul_requirement.specs.Fields.{IsPackage, WishFields}
use Rattle.ul_index.specs.Catalogs.{Packages}
use Rattle.ul_index.specs.Eligible.{eligible}
use Rattle.ul_index.specs.Laws.{EligibleRises, PreferenceSame, VersionsRise}
use Rattle.ul_index.specs.Preference.{is_direct, is_kept, is_oldest_first, preference}
use Rattle.ul_region.specs.Problem.{AreVersionsAt}
use Rattle.ul_region.proofs.Increasing.{version_place}
use Rattle.laws_trees.proofs.ForCallers.{releases_differ}
use Rattle.ul_placing.proofs.Lists.{there, listed_at, place_of}
use Rattle.laws_problems.proofs.Zips.{zip_exists, zip_has}

-- ---- the eligible versions

rises_from : (u : Fields) (vs : List Fields) → VersionsRise (Some u) vs → IncreasesFrom VersionBefore u vs
rises_from u [] h = tt
rises_from u (v ∷ vs) h = (h.0, rises_from v vs h.1)

rises : (vs : List Fields) → VersionsRise None vs → Increases VersionBefore vs
rises [] h = tt
rises (v ∷ vs) h = rises_from v vs h.1

pub eligible_increases : EligibleRises → (c : Packages) (n : List ℕ) → AllByRecursion IsPackage c
    → Increases VersionBefore (eligible c n)
eligible_increases law c n h = rises (eligible c n) (law c n (releases_differ c n h))

-- ---- as many are tried

count_step : {A : Type 0} (b : Bool) (x : A) (m : ℕ) (c : List A) → m ≡ length c
    → m + length (cond b (x ∷ []) []) ≡ length (cond b (x ∷ c) c)
count_step true x m c e = omega (arith, e)
count_step false x m c e = omega (arith, e)

-- as many are kept of a list the other way round
count_turned : {A : Type 0} (f : A → Bool) (xs : List A) → length (filter f (reverse xs)) ≡ length (filter f xs)
count_turned f [] = refl
count_turned f (x ∷ xs) =
    ap (λ z. length (filter f z)) (reverse-append (x ∷ []) xs)
    ∙ (ap (λ z. length z) (filter-append f (reverse xs) (x ∷ []))
    ∙ (length-append (filter f (reverse xs)) (filter f (x ∷ []))
    ∙ count_step (f x) x (length (filter f (reverse xs))) (filter f xs) (count_turned f xs)))

count_either : {A : Type 0} (f : A → Bool) (xs : List A) (oldest : Bool)
    → length (filter f (cond oldest xs (reverse xs))) ≡ length (filter f xs)
count_either f xs true = refl
count_either f xs false = count_turned f xs

-- as many versions are tried as are eligible
preference_length : (c : Packages) (wish : WishFields) (n : List ℕ)
    → length (preference c wish n) ≡ length (eligible c n)
unfolding preference
preference_length c wish n =
    let f : Fields → Bool = is_kept wish n in
    let g : Fields → Bool = (λ v. not (is_kept wish n v)) in
    let way : Bool = is_oldest_first wish.mode (is_direct c n) in
    let first : List Fields = filter f (reverse (eligible c n)) in
    let rest : List Fields = filter g (cond way (eligible c n) (reverse (eligible c n))) in
    length-append first rest
    ∙ (ap (λ (m : ℕ). m + length rest) (count_turned f (eligible c n))
    ∙ (ap (λ (m : ℕ). length (filter f (eligible c n)) + m) (count_either g (eligible c n) way)
    ∙ length-filter_both f g (λ v. refl) (eligible c n)))

-- ---- by places

-- the version stands at the place
abbrev StandsAt : List Fields → Fields → ℕ → Type 0
StandsAt vs x k = slice_get vs k ≡ Some x

zip_versions : (vs xs : List Fields) (ks : List ℕ) → AllZip (StandsAt vs) xs ks → AreVersionsAt vs ks xs
zip_versions vs [] [] h = tt
zip_versions vs [] (k ∷ ks) h = absurd h
zip_versions vs (x ∷ xs) [] h = absurd h
zip_versions vs (x ∷ xs) (k ∷ ks) h = (h.0, zip_versions vs xs ks h.1)

zip_below : (vs xs : List Fields) (ks : List ℕ) → AllZip (StandsAt vs) xs ks → All (λ (k : ℕ). k < length vs) ks
zip_below vs [] [] h = All-nil (λ (k : ℕ). k < length vs)
zip_below vs [] (k ∷ ks) h = absurd h
zip_below vs (x ∷ xs) [] h = absurd h
zip_below vs (x ∷ xs) (k ∷ ks) h = All-cons (λ (k : ℕ). k < length vs) k ks (slice_get_within vs k x h.0)
    (zip_below vs xs ks h.1)

-- the places of the versions in the order in which they are tried
pub record IsOrder (c : Packages) (wish : WishFields) (n : List ℕ) (order : List ℕ) : Type 0 where
  pub versions : AreVersionsAt (eligible c n) order (preference c wish n)
  pub whole : IsOrderOf (length (eligible c n)) order

pub order_exists : EligibleRises → PreferenceSame → (c : Packages) (wish : WishFields) (n : List ℕ)
    → AllByRecursion IsPackage c → (order : List ℕ) × IsOrder c wish n order
order_exists law same c wish n h =
    let vs : List Fields = eligible c n in
    let xs : List Fields = preference c wish n in
    let ks = zip_exists (StandsAt vs) xs (λ x m. place_of vs x ((same c wish n x).0 m)) in
    let all : (v : ℕ) → v < length vs → Contains ks.0 v = (λ v l.
    let x = there vs v l in
    let k = zip_has (StandsAt vs) xs ks.0 x.0 ks.1 ((same c wish n x.0).1 (listed_at vs v x.0 x.1)) in
    subst (Contains ks.0) (version_place vs k.0 v x.0 (eligible_increases law c n h) k.2 x.1) k.1) in (
      ks.0,
      record {
        versions = zip_versions vs xs ks.0 ks.1;
        whole = (AllZip-long (StandsAt vs) xs ks.0 ks.1 ∙ preference_length c wish n, zip_below vs xs ks.0 ks.1, all);
      },
    )
