-- The releases of eligible versions.
use Rattle.std.specs.Prelude.{All, find, slice_get, if◌then◌else◌}
use Rattle.std.proofs.Common.{◌≡◌, ◌<◌, ◌≤◌, ◌^◌, ℕ, zero, suc, List, [], ◌∷◌, length, filter, map, cond, not, Bool, true, false, Option, Some, None, option_map, refl, sym, ap, subst, ◌∙◌, arith}
use Rattle.std.specs.Ordering.{is_eq, is_lt, ordering_reverse}
use Rattle.std.specs.declared.cmp.Ordering.{Ordering}
use Rattle.std.specs.declared.cmp.Ordering.TheVariants.{Less, Equal, Greater}
use Rattle.std.proofs.lemmas.Option.{none-some, same_Some, slice_get_within, get_or_from_slice_get}
use Rattle.std.proofs.lemmas.List.{length-map}
use Rattle.std.proofs.lemmas.List.Filters.{length-filter_both}
use Rattle.std.proofs.lemmas.List.Elements.{All-nil, All-cons, All-contains}
use Rattle.ul_version.specs.Fields.{Fields}
use Rattle.ul_version.specs.Order.{version_cmp}
use Rattle.ul_requirement.specs.Fields.{ReleaseFields, VersionsDiffer, IsOtherVersion}
use Rattle.ul_index.specs.Catalogs.{Packages, prereleases_of, release_of, releases_of}
use Rattle.ul_index.specs.Eligible.{directs_on, eligible, in_order, increasing_with, passes, passing, takes_pre, version_at}
use Rattle.ul_index.specs.Laws.{VersionsRise}
use Rattle.ul_problem.specs.Problems.{Increases, IncreasesFrom, VersionBefore}
use Rattle.ul_version.proofs.ForCallers.{version_total}
use Rattle.ul_prepared.specs.Releases.{AreReleasesOf}

-- ---- what stands at places

cons_same : {A : Type 0} (x y : A) (xs ys : List A) → x ∷ xs ≡ y ∷ ys → (x ≡ y) × (xs ≡ ys)
cons_same x y xs ys e = (cc, cc)

version_within : (rs : List ReleaseFields) (p : ℕ) (v : Fields) → version_at rs p ≡ Some v → p < length rs
version_within [] p v e = absurd (none-some v e)
version_within (r ∷ rs) zero v e = omega arith
version_within (r ∷ rs) (suc p) v e = let l = version_within rs p v e in omega (arith, l)

-- places that have versions are those of releases
pub places_within : (rs : List ReleaseFields) (ps : List ℕ) (vs : List Fields) → map (version_at rs) ps ≡ map (λ (v : Fields). Some v) vs → All (λ (p : ℕ). p < length rs) ps
places_within rs [] vs e = All-nil (λ (p : ℕ). p < length rs)
places_within rs (p ∷ ps) [] e = cc
places_within rs (p ∷ ps) (v ∷ vs) e = let same = cons_same (version_at rs p) (Some v) (map (version_at rs) ps) (map (λ (v : Fields). Some v) vs) e in
    All-cons (λ (p : ℕ). p < length rs) p ps (version_within rs p v same.0) (places_within rs ps vs same.1)

-- the versions of the releases at places, where each place has one
pub chosen_versions : (rs xs : List ReleaseFields) (ps : List ℕ) (vs : List Fields) → map (λ (x : ReleaseFields). Some x) xs ≡ map (slice_get rs) ps → map (version_at rs) ps ≡ map (λ (v : Fields). Some v) vs → map (λ (r : ReleaseFields). r.version) xs ≡ vs
chosen_versions rs [] [] [] e h = refl
chosen_versions rs [] [] (v ∷ vs) e h = cc
chosen_versions rs [] (p ∷ ps) vs e h = cc
chosen_versions rs (x ∷ xs) [] vs e h = cc
chosen_versions rs (x ∷ xs) (p ∷ ps) [] e h = cc
chosen_versions rs (x ∷ xs) (p ∷ ps) (v ∷ vs) e h =
    let a = cons_same (Some x) (slice_get rs p) (map (λ (x : ReleaseFields). Some x) xs) (map (slice_get rs) ps) e in
    let b = cons_same (version_at rs p) (Some v) (map (version_at rs) ps) (map (λ (v : Fields). Some v) vs) h in
    both x.version v (map (λ (r : ReleaseFields). r.version) xs) vs (same_Some x.version v (ap (option_map (λ (r : ReleaseFields). r.version)) a.0 ∙ b.0)) (chosen_versions rs xs ps vs a.1 b.1)
  where
    both : (x y : Fields) (xs ys : List Fields) → x ≡ y → xs ≡ ys → x ∷ xs ≡ y ∷ ys
    both x y xs ys p q = cc

-- what was chosen stands in the list
chosen_at : (rs xs : List ReleaseFields) (ps : List ℕ) → map (λ (x : ReleaseFields). Some x) xs ≡ map (slice_get rs) ps → (v : ℕ) (r : ReleaseFields) → slice_get xs v ≡ Some r → (p : ℕ) × (slice_get rs p ≡ Some r)
chosen_at rs [] ps e v r h = absurd (none-some r h)
chosen_at rs (x ∷ xs) [] e v r h = cc
chosen_at rs (x ∷ xs) (p ∷ ps) e zero r h = (p, sym (cons_same (Some x) (slice_get rs p) (map (λ (x : ReleaseFields). Some x) xs) (map (slice_get rs) ps) e).0 ∙ h)
chosen_at rs (x ∷ xs) (p ∷ ps) e (suc v) r h = chosen_at rs xs ps (cons_same (Some x) (slice_get rs p) (map (λ (x : ReleaseFields). Some x) xs) (map (slice_get rs) ps) e).1 v r h

-- ---- the release of a version

self_tie : (o : Ordering) → o ≡ ordering_reverse o → is_eq o ≡ true
self_tie Less e = cc
self_tie Equal e = refl
self_tie Greater e = cc

no_tie : (o : Ordering) → (o ≡ Equal → ⊥) → is_eq o ≡ false
no_tie Less h = refl
no_tie Equal h = absurd (h refl)
no_tie Greater h = refl

-- where versions differ, the one at a place is the one of its version
found_one : (rs : List ReleaseFields) → VersionsDiffer rs → (p : ℕ) (r : ReleaseFields) → slice_get rs p ≡ Some r → find (λ (s : ReleaseFields). is_eq (version_cmp s.version r.version)) rs ≡ Some r
found_one [] d p r e = absurd (none-some r e)
found_one (z ∷ zs) d zero r e = let same : z ≡ r = same_Some z r e in
    ap (λ (b : Bool). cond b (Some z) (find (λ (s : ReleaseFields). is_eq (version_cmp s.version r.version)) zs))
    (ap (λ (x : ReleaseFields). is_eq (version_cmp x.version r.version)) same ∙ self_tie (version_cmp r.version r.version) (version_total.antisymm r.version r.version)) ∙ e
found_one (z ∷ zs) d (suc p) r e =
    ap (λ (b : Bool). cond b (Some z) (find (λ (s : ReleaseFields). is_eq (version_cmp s.version r.version)) zs))
    (no_tie (version_cmp z.version r.version) (All-contains (IsOtherVersion z) zs r d.0 (p, slice_get_within zs p r e, get_or_from_slice_get zs p r r e))) ∙ found_one zs d.1 p r e

version_there : (xs : List ReleaseFields) (v : ℕ) (r : ReleaseFields) → slice_get xs v ≡ Some r → slice_get (map (λ (s : ReleaseFields). s.version) xs) v ≡ Some r.version
version_there [] v r e = absurd (none-some r e)
version_there (z ∷ zs) zero r e = ap (λ (s : ReleaseFields). Some s.version) (same_Some z r e)
version_there (z ∷ zs) (suc v) r e = version_there zs v r e

pub releases_are : (c : Packages) (n : List ℕ) (rs xs : List ReleaseFields) (ps : List ℕ) (vs : List Fields) → rs ≡ releases_of c n → VersionsDiffer rs → map (λ (x : ReleaseFields). Some x) xs ≡ map (slice_get rs) ps → map (λ (r : ReleaseFields). r.version) xs ≡ vs
    → AreReleasesOf c n vs xs
unfolding release_of
releases_are c n rs xs ps vs same d e h = record {
  count = sym (length-map xs (λ (r : ReleaseFields). r.version)) ∙ ap (λ (z : List Fields). length z) h;
  each = λ v x r at there. let k = chosen_at rs xs ps e v r there in
      let own : r.version ≡ x = same_Some r.version x (sym (version_there xs v r there) ∙ (ap (λ (z : List Fields). slice_get z v) h ∙ at)) in
      subst (λ (y : Fields). find (λ (s : ReleaseFields). is_eq (version_cmp s.version y)) (releases_of c n) ≡ Some r) own
      (subst (λ (z : List ReleaseFields). find (λ (s : ReleaseFields). is_eq (version_cmp s.version r.version)) z ≡ Some r) same (found_one rs d k.0 r k.1));
}

-- ---- lent releases

module _ {A : Type 0} (now : A → ReleaseFields) where
  pub lent_some : (ls : List A) → map (λ (a : A). Some (now a)) ls ≡ map (λ (x : ReleaseFields). Some x) (map now ls)
  lent_some [] = refl
  lent_some (a ∷ ls) = ap (λ (z : List (Option ReleaseFields)). Some (now a) ∷ z) (lent_some ls)

  pub lent_versions : (ls : List A) → map (λ (a : A). (now a).version) ls ≡ map (λ (x : ReleaseFields). x.version) (map now ls)
  lent_versions [] = refl
  lent_versions (a ∷ ls) = ap (λ (z : List Fields). (now a).version ∷ z) (lent_versions ls)

-- ---- versions that rise

rises_from : (u : Fields) (vs : List Fields) → VersionsRise (Some u) vs → IncreasesFrom VersionBefore u vs
rises_from u [] h = tt
rises_from u (v ∷ vs) h = (h.0, rises_from v vs h.1)

pub rises : (vs : List Fields) → VersionsRise None vs → Increases VersionBefore vs
rises [] h = tt
rises (v ∷ vs) h = rises_from v vs h.1

-- ---- how many there are

length_by : (v x : Fields) (xs : List Fields) (b : Bool) → length (increasing_with v xs) ≡ suc (length xs) → length (if b then v ∷ x ∷ xs else x ∷ increasing_with v xs) ≡ suc (suc (length xs))
length_by v x xs true h = refl
length_by v x xs false h = ap suc h

length_with : (v : Fields) (xs : List Fields) → length (increasing_with v xs) ≡ suc (length xs)
length_with v [] = refl
length_with v (x ∷ xs) = length_by v x xs (is_lt (version_cmp v x)) (length_with v xs)

length_in_order : (vs : List Fields) → length (in_order vs) ≡ length vs
length_in_order [] = refl
length_in_order (v ∷ vs) = length_with v (in_order vs) ∙ ap suc (length_in_order vs)

kept_fewer : (p : ReleaseFields → Bool) (rs : List ReleaseFields) → length (filter p rs) ≤ length rs
kept_fewer p rs = let e = length-filter_both p (λ (r : ReleaseFields). not (p r)) (λ r. refl) rs in omega arith

fewer_pass : (c : Packages) (n : List ℕ) → length (passing c n) ≤ length (releases_of c n)
unfolding passing
fewer_pass c n = kept_fewer (passes (directs_on c n) (takes_pre (prereleases_of c n) (directs_on c n) (releases_of c n))) (releases_of c n)

as_many_pass : (c : Packages) (n : List ℕ) → length (eligible c n) ≡ length (passing c n)
unfolding eligible
as_many_pass c n = length_in_order (map (λ (r : ReleaseFields). r.version) (passing c n)) ∙ length-map (passing c n) (λ (r : ReleaseFields). r.version)

-- a name has no more eligible releases than releases
pub few_releases : {A : Type 0} (view : A → ReleaseFields) (c : Packages) (n : List ℕ) (xs : List A) → length (releases_of c n) < 2 ^ 32 → map (λ (x : A). (view x).version) xs ≡ eligible c n → length xs < 2 ^ 32
few_releases {A} view c n xs few e =
    let a : length xs ≡ length (eligible c n) = sym (length-map xs (λ (x : A). (view x).version)) ∙ ap (λ (z : List Fields). length z) e in
    let b : length (eligible c n) ≡ length (passing c n) = as_many_pass c n in
    let d : length (passing c n) ≤ length (releases_of c n) = fewer_pass c n in
    omega (arith, few)
