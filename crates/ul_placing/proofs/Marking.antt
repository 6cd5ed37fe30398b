-- Places that are marks, one after another.
use Rattle.std.specs.Prelude.{Contains, slice_get}
use Rattle.std.proofs.Common.{◌≡◌, ◌<◌, ◌+◌, ◌⊎◌, arith, cond, ℕ, zero, suc, List, [], ◌∷◌, ◌++◌, length, set, Bool, true, false, Some, refl, sym, ap, subst, ◌∙◌, inl, inr, ⊎_elim}
use Rattle.std.proofs.lemmas.List.{length-append, length-set, get_or-set_same}
use Rattle.std.proofs.lemmas.List.Sums.{sum_by-set}
use Rattle.std.proofs.lemmas.List.Elements.{Contains-append_left, Contains-append_right, Contains-append_cases}
use Rattle.ul_base.proofs.ForCallers.{contains_first, only_one, none_in}
use Rattle.ul_ranges.specs.Flags.{has}
use Rattle.ul_placing.specs.Reach.{MarksPlaces, mark_count}
use Rattle.ul_placing.proofs.Lists.{kept_at, listed_at, place_of}

set_keeps : (marks : List Bool) (place k : ℕ) → has k marks ≡ true → has k (set marks place true) ≡ true
set_keeps [] place k e = e
set_keeps (b ∷ bs) zero zero e = refl
set_keeps (b ∷ bs) zero (suc k) e = e
set_keeps (b ∷ bs) (suc p) zero e = e
set_keeps (b ∷ bs) (suc p) (suc k) e = set_keeps bs p k e

set_new : (marks : List Bool) (place k : ℕ) → has k (set marks place true) ≡ true → (has k marks ≡ true) ⊎ (k ≡ place)
set_new [] place k e = inl e
set_new (b ∷ bs) zero zero e = inr refl
set_new (b ∷ bs) zero (suc k) e = inl e
set_new (b ∷ bs) (suc p) zero e = inl e
set_new (b ∷ bs) (suc p) (suc k) e = ⊎_elim (λ h. inl h) (λ s. inr (ap suc s)) (set_new bs p k e)

abbrev one_if : Bool → ℕ
one_if marked = cond marked 1 0

-- a place that wasn't marked counts once
count_one : (marks : List Bool) (queue : List ℕ) (place : ℕ) → place < length marks → has place marks ≡ false → length (queue ++ place ∷ []) + mark_count marks ≡ length queue + mark_count (set marks place true)
count_one marks queue place l new =
    let counts = sum_by-set one_if marks place true false l in
    let before : one_if (has place marks) ≡ 0 = ap one_if new in
    omega (arith, counts, before, length-append queue (place ∷ []))

-- a place is marks
pub marked_one : (marks : List Bool) (queue : List ℕ) (place : ℕ) → place < length marks → has place marks ≡ false → MarksPlaces (place ∷ []) marks queue (set marks place true) (queue ++ place ∷ [])
marked_one marks queue place l new =
    let here : has place (set marks place true) ≡ true = get_or-set_same marks place true false l in
    let last : Contains (queue ++ place ∷ []) place = Contains-append_right queue (place ∷ []) place (contains_first place []) in
    record {
      long = length-set marks place true;
      keeps = λ k e. set_keeps marks place k e;
      front = λ j k e. kept_at queue (place ∷ []) j k e;
      listed = λ k e. ⊎_elim (λ h. inl h) (λ s. inr (subst (λ m. Contains (place ∷ []) m) (sym s) (contains_first place []), subst (λ m. Contains (queue ++ place ∷ []) m) (sym s) last)) (set_new marks place k e);
      marked = λ k h. ⊎_elim (λ c. inl c) (λ c. inr (subst (λ m. has m (set marks place true) ≡ true) (sym (only_one place k c)) here)) (Contains-append_cases queue (place ∷ []) k h);
      all = λ k h m. subst (λ n. has n (set marks place true) ≡ true) (sym (only_one place k h)) here;
      once = count_one marks queue place l new;
    }

-- nothing is marks
pub marked_none : (marks : List Bool) (queue : List ℕ) → MarksPlaces [] marks queue marks queue
marked_none marks queue = record {
  long = refl;
  keeps = λ k e. e;
  front = λ j k e. e;
  listed = λ k e. inl e;
  marked = λ k h. inl h;
  all = λ k h l. absurd (none_in k h);
  once = refl;
}

-- what stands in the queue stands there when more was marks
pub stays : (first queue : List ℕ) (k : ℕ) → ((j m : ℕ) → slice_get first j ≡ Some m → slice_get queue j ≡ Some m) → Contains first k → Contains queue k
stays first queue k front c = let at = place_of first k c in listed_at queue at.0 k (front at.0 k at.1)

marked_after : (ps qs : List ℕ) (a b c : List Bool) (q r s : List ℕ) → MarksPlaces ps a q b r → MarksPlaces qs b r c s → MarksPlaces (ps ++ qs) a q c s
marked_after ps qs a b c q r s one two = record {
  long = two.long ∙ one.long;
  keeps = λ k e. two.keeps k (one.keeps k e);
  front = λ j k e. two.front j k (one.front j k e);
  listed = λ k e. ⊎_elim
      (λ h. ⊎_elim (λ g. inl g) (λ g. inr (Contains-append_left ps qs k g.0, stays r s k two.front g.1)) (one.listed k h))
      (λ g. inr (Contains-append_right ps qs k g.0, g.1)) (two.listed k e);
  marked = λ k h. ⊎_elim (λ g. ⊎_elim (λ i. inl i) (λ m. inr (two.keeps k m)) (one.marked k g)) (λ m. inr m) (two.marked k h);
  all = λ k h l. ⊎_elim (λ g. two.keeps k (one.all k g l)) (λ g. two.all k g (subst (λ n. k < n) (sym one.long) l)) (Contains-append_cases ps qs k h);
  once = omega (arith, one.once, two.once);
}

-- places are marked, and then others
pub marked_then : (ps qs rs : List ℕ) (a b c : List Bool) (q r s : List ℕ) → rs ≡ ps ++ qs → MarksPlaces ps a q b r → MarksPlaces qs b r c s → MarksPlaces rs a q c s
marked_then ps qs rs a b c q r s e one two = subst (λ zs. MarksPlaces zs a q c s) (sym e) (marked_after ps qs a b c q r s one two)
