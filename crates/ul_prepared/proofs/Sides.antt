-- Versions beside a version, by a part of the two: versions that rise don't fall by any part of them.
use Rattle.std.specs.List.Sorted.{IsPartitionedBy, IsPartitionPoint}
use Rattle.std.specs.Ordering.{nat_cmp, ordering_then, ordering_reverse, on, is_lt, is_gt}
use Rattle.std.specs.Cmp.{IsTotalOrder}
use Rattle.std.specs.declared.cmp.Ordering.{Ordering}
use Rattle.std.specs.declared.cmp.Ordering.TheVariants.{Less, Equal, Greater}
use Rattle.std.proofs.Common.{◌≡◌, ◌<◌, ◌≤◌, ℕ, zero, suc, List, [], ◌∷◌, length, get_or, take, not, Bool, true, false, refl, sym, ap, subst, ◌∙◌, inl, inr, arith, None}
use Rattle.std.proofs.lemmas.Cmp.{on_total}
use Rattle.std.proofs.lemmas.Bool.{cases_eq}
use Rattle.ul_version.specs.Fields.{Fields, public_fields}
use Rattle.ul_version.specs.Order.{local_cmp, place_cmp, pre_place, post_place, dev_place, release_cmp, suffix_cmp, version_cmp}
use Rattle.ul_version.proofs.ForCallers.{version_total}
use Rattle.ul_problem.specs.Problems.{Increases, IncreasesFrom, VersionBefore}
use Rattle.ul_prepared.specs.Parts.{part_of, side, CountsBefore, CountsThrough}
use Rattle.ul_prepared.specs.declared.parts.Part.{Part}
use Rattle.ul_prepared.specs.declared.parts.Part.TheVariants.{Whole, Public, Release, Prefix}
use Rattle.ul_prepared.proofs.Prefixes.{cut_rises, then_not_greater}

-- ---- the order by parts

then_equal : (e r : Ordering) → ordering_then e (ordering_then r Equal) ≡ ordering_then e r
then_equal Less r = refl
then_equal Greater r = refl
then_equal Equal Less = refl
then_equal Equal Equal = refl
then_equal Equal Greater = refl

then_within : (e r s : Ordering) → ordering_then e (ordering_then r s) ≡ ordering_then (ordering_then e r) s
then_within Less r s = refl
then_within Equal r s = refl
then_within Greater r s = refl

-- versions that have an epoch and a release alone are ordered by them
pub bare_cmp : (d e : ℕ) (xs ys : List ℕ) → version_cmp (public_fields d xs None None None) (public_fields e ys None None None) ≡ ordering_then (nat_cmp d e) (release_cmp xs ys)
unfolding version_cmp
bare_cmp d e xs ys = then_equal (nat_cmp d e) (release_cmp xs ys)

-- the other parts decide only where epoch and release tie
pub version_is : (v c : Fields) → version_cmp c v ≡ ordering_then (side Release v c) (suffix_cmp c v)
unfolding version_cmp
version_is v c = then_within (nat_cmp c.epoch v.epoch) (release_cmp c.release v.release) (suffix_cmp c v)
    ∙ ap (λ (o : Ordering). ordering_then o (suffix_cmp c v)) (sym (then_equal (nat_cmp c.epoch v.epoch) (release_cmp c.release v.release)))

-- six keys in turn are five keys in turn and then the last
rejoined : (e r p q d l : Ordering) → ordering_then e (ordering_then r (ordering_then p (ordering_then q (ordering_then d l))))
    ≡ ordering_then (ordering_then e (ordering_then r (ordering_then p (ordering_then q (ordering_then d Equal))))) l
rejoined Less r p q d l = refl
rejoined Greater r p q d l = refl
rejoined Equal Less p q d l = refl
rejoined Equal Greater p q d l = refl
rejoined Equal Equal Less q d l = refl
rejoined Equal Equal Greater q d l = refl
rejoined Equal Equal Equal Less d l = refl
rejoined Equal Equal Equal Greater d l = refl
rejoined Equal Equal Equal Equal Less l = refl
rejoined Equal Equal Equal Equal Greater l = refl
rejoined Equal Equal Equal Equal Equal l = refl

-- the local parts decide only where the other parts tie
public_is : (v c : Fields) → version_cmp c v ≡ ordering_then (side Public v c) (local_cmp c.local v.local)
unfolding version_cmp
public_is v c =
    rejoined (nat_cmp c.epoch v.epoch) (release_cmp c.release v.release) (place_cmp (pre_place c) (pre_place v))
    (place_cmp (post_place c.post) (post_place v.post)) (place_cmp (dev_place c.dev) (dev_place v.dev)) (local_cmp c.local v.local)

not_greater : (o s : Ordering) → ordering_then o s ≡ Less → is_gt o ≡ false
not_greater Less s e = refl
not_greater Equal s e = refl
not_greater Greater s e = cc

-- an earlier version isn't after a later one by any part
rises : (part : Part) (x y : Fields) → VersionBefore x y → is_gt (side part y x) ≡ false
rises Whole x y h = ap is_gt h
rises Public x y h = not_greater (side Public y x) (local_cmp x.local y.local) (sym (public_is y x) ∙ h)
rises Release x y h = not_greater (side Release y x) (suffix_cmp x y) (sym (version_is y x) ∙ h)
rises (Prefix n) x y h =
    ap is_gt (bare_cmp x.epoch y.epoch (take n x.release) (take n y.release))
    ∙ then_not_greater (nat_cmp x.epoch y.epoch) (release_cmp x.release y.release) (release_cmp (take n x.release) (take n y.release))
    (sym (ap is_gt (bare_cmp x.epoch y.epoch x.release y.release)) ∙ not_greater (side Release y x) (suffix_cmp x y) (sym (version_is y x) ∙ h)) (cut_rises n x.release y.release)

-- ---- versions that rise stand before, at and after a version by a part, in turn

side_total : (part : Part) → IsTotalOrder (on (part_of part) version_cmp)
side_total part = on_total (part_of part) version_total

lt_less : (o : Ordering) → is_lt o ≡ true → o ≡ Less
lt_less Less t = refl
lt_less Equal t = cc
lt_less Greater t = cc

-- an earlier version is before what a later one is before
before_with : (part : Part) (v x y : Fields) (o : Ordering) → side part y x ≡ o → is_gt o ≡ false → is_lt (side part v y) ≡ true → is_lt (side part v x) ≡ true
before_with part v x y Less e g h = ap is_lt ((side_total part).trans x y v e (lt_less (side part v y) h))
before_with part v x y Equal e g h = ap is_lt ((side_total part).congr x y v e) ∙ h
before_with part v x y Greater e g h = cc

through_with : (part : Part) (v x y : Fields) (o p : Ordering) → side part y x ≡ o → side part v y ≡ p → is_gt o ≡ false → is_gt p ≡ false → is_gt (side part v x) ≡ false
through_with part v x y Less Less e f g h = ap is_gt ((side_total part).trans x y v e f)
through_with part v x y Less Equal e f g h =
    let back : side part y v ≡ Equal = (side_total part).antisymm v y ∙ ap ordering_reverse f in
    let same : side part x v ≡ side part x y = (side_total part).congr v y x back in
    ap is_gt ((side_total part).antisymm x v ∙ ap ordering_reverse same ∙ sym ((side_total part).antisymm x y) ∙ e)
through_with part v x y Less Greater e f g h = cc
through_with part v x y Equal p e f g h = ap is_gt ((side_total part).congr x y v e ∙ f) ∙ h
through_with part v x y Greater p e f g h = cc

later : (x : Fields) (xs : List Fields) (k : ℕ) (d : Fields) → IncreasesFrom VersionBefore x xs → k < length xs → VersionBefore x (get_or xs k d)
later x [] k d h l = absurd (omega (arith, l))
later x (z ∷ zs) zero d h l = h.0
later x (z ∷ zs) (suc k) d h l = version_total.trans x z (get_or zs k d) h.0 (later z zs k d h.1 (omega (arith, l)))

rest_rises : (x : Fields) (xs : List Fields) → IncreasesFrom VersionBefore x xs → Increases VersionBefore xs
rest_rises x [] h = tt
rest_rises x (z ∷ zs) h = h.1

risen : (xs : List Fields) (i j : ℕ) (d : Fields) → Increases VersionBefore xs → i < j → j < length xs → VersionBefore (get_or xs i d) (get_or xs j d)
risen [] i j d h l m = absurd (omega (arith, m))
risen (x ∷ xs) zero zero d h l m = absurd (omega (arith, l))
risen (x ∷ xs) zero (suc j) d h l m = later x xs j d h (omega (arith, m))
risen (x ∷ xs) (suc i) zero d h l m = absurd (omega (arith, l))
risen (x ∷ xs) (suc i) (suc j) d h l m = risen xs i j d (rest_rises x xs h) (omega (arith, l)) (omega (arith, m))

pub before_parted : (part : Part) (v : Fields) (xs : List Fields) → Increases VersionBefore xs → IsPartitionedBy (λ c. is_lt (side part v c)) xs
before_parted part v xs h i j d l m t = elim (cases_eq i j) [
  | inl e ↦ subst (λ (k : ℕ). is_lt (side part v (get_or xs k d)) ≡ true) (sym e) t
  | inr ne ↦
      before_with part v (get_or xs i d) (get_or xs j d) (side part (get_or xs j d) (get_or xs i d)) refl
      (rises part (get_or xs i d) (get_or xs j d) (risen xs i j d h (omega (arith, l, ne)) m)) t
]

not_gt : (b : Bool) → not b ≡ true → b ≡ false
not_gt true e = cc
not_gt false e = refl

pub through_parted : (part : Part) (v : Fields) (xs : List Fields) → Increases VersionBefore xs → IsPartitionedBy (λ c. not (is_gt (side part v c))) xs
through_parted part v xs h i j d l m t = elim (cases_eq i j) [
  | inl e ↦ subst (λ (k : ℕ). not (is_gt (side part v (get_or xs k d))) ≡ true) (sym e) t
  | inr ne ↦
      ap not (through_with part v (get_or xs i d) (get_or xs j d) (side part (get_or xs j d) (get_or xs i d)) (side part v (get_or xs j d)) refl refl
      (rises part (get_or xs i d) (get_or xs j d) (risen xs i j d h (omega (arith, l, ne)) m)) (not_gt (is_gt (side part v (get_or xs j d))) t))
]

gt_greater : (o : Ordering) → not (is_gt o) ≡ false → o ≡ Greater
gt_greater Less t = cc
gt_greater Equal t = cc
gt_greater Greater t = refl

-- what a search for the first version that is not before another one found
pub counted_before : (part : Part) (v : Fields) (xs : List Fields) (count : ℕ) → count ≤ length xs → IsPartitionPoint (λ y. is_lt (side part v y) ≡ true) (λ y. is_lt (side part v y) ≡ false) xs count → CountsBefore part v xs count
counted_before part v xs count l p = record {
  within = l;
  below = λ k d h. lt_less (side part v (get_or xs k d)) (p.0 k d (omega arith) h);
  from = λ k d g h. p.1 k d g h;
}

-- what a search for the first version after another one found
pub counted_through : (part : Part) (v : Fields) (xs : List Fields) (count : ℕ) → count ≤ length xs → IsPartitionPoint (λ y. not (is_gt (side part v y)) ≡ true) (λ y. not (is_gt (side part v y)) ≡ false) xs count → CountsThrough part v xs count
counted_through part v xs count l p = record {
  within = l;
  below = λ k d h. not_gt (is_gt (side part v (get_or xs k d))) (p.0 k d (omega arith) h);
  from = λ k d g h. gt_greater (side part v (get_or xs k d)) (p.1 k d g h);
}
