-- Lemmas on the order of versions.
use Rattle.std.proofs.Common.{◌≡◌, ◌≢◌, ℕ, ◌+◌, ◌-◌, ◌<◌, ◌≤◌, List, length, drop, get_or, replicate, max, refl, sym, ◌∙◌, arith, true, false, true≢false, inl, inr}
use Rattle.std.proofs.lemmas.List.{drop_more, drop_all, get_or_append_left, get_or-append_right, get_or-replicate, get_or_past, length-append, length-replicate}
use Rattle.std.proofs.lemmas.Bool.{cases_lt}
use Rattle.std.specs.Ordering.{nat_cmp, ordering_then, is_ne, MatchOrdering}
use Rattle.std.specs.Cmp.Lexicographic.{slice_cmp}
use Rattle.std.specs.declared.cmp.Ordering.{Ordering}
use Rattle.std.specs.declared.cmp.Ordering.TheVariants.{Less, Equal, Greater}
use Rattle.std.proofs.lemmas.Cmp.{ranked}
use Rattle.ul_version.specs.Order.{dev_place, local_cmp, numbers_cmp, padded_release, place_cmp, post_place, pre_place, release_cmp, suffix_cmp, version_cmp}
use Rattle.ul_version.specs.Fields.{Fields, without_local}

-- two lists from a place on: the elements there decide, and else what follows
pub slice_cmp-drop : {X : Type 0} (R : X → X → Ordering) (xs ys : List X) (i : ℕ) (d e : X) → i < length xs → i < length ys
    → slice_cmp R (drop i xs) (drop i ys) ≡ ordering_then (R (get_or xs i d) (get_or ys i e)) (slice_cmp R (drop (i + 1) xs) (drop (i + 1) ys))
slice_cmp-drop R xs ys i d e x y = rw (drop_more xs i d x, drop_more ys i e y) refl

-- the second list has ended
pub slice_cmp-longer : {X : Type 0} (R : X → X → Ordering) (xs ys : List X) (i : ℕ) (d : X) → i < length xs → length ys ≤ i → slice_cmp R (drop i xs) (drop i ys) ≡ Greater
slice_cmp-longer R xs ys i d x y = rw (drop_more xs i d x, drop_all i ys y) refl

-- the first list has ended
pub slice_cmp-shorter : {X : Type 0} (R : X → X → Ordering) (xs ys : List X) (i : ℕ) (d : X) → length xs ≤ i → i < length ys → slice_cmp R (drop i xs) (drop i ys) ≡ Less
slice_cmp-shorter R xs ys i d x y = rw (drop_all i xs x, drop_more ys i d y) refl

-- both lists have ended
pub slice_cmp-ended : {X : Type 0} (R : X → X → Ordering) (xs ys : List X) (i : ℕ) → length xs ≤ i → length ys ≤ i → slice_cmp R (drop i xs) (drop i ys) ≡ Equal
slice_cmp-ended R xs ys i x y = rw (drop_all i xs x, drop_all i ys y) refl

-- an answer other than Equal decides
pub then_decided : (a b : Ordering) → is_ne a ≡ true → ordering_then a b ≡ a
then_decided Less b h = refl
then_decided Equal b h = absurd (true≢false (sym h))
then_decided Greater b h = refl

-- after an Equal the second decides
pub then_tied : (a b : Ordering) → is_ne a ≡ false → ordering_then a b ≡ b
then_tied Less b h = absurd (true≢false h)
then_tied Equal b h = refl
then_tied Greater b h = absurd (true≢false h)

-- two numbers that differ decide
pub nat_cmp-decided : (x y : ℕ) (b : Ordering) → x ≢ y → ordering_then (nat_cmp x y) b ≡ nat_cmp x y
nat_cmp-decided x y b h = then_decided (nat_cmp x y) b (differ (nat_cmp x y) (ranked x y (nat_cmp x y) refl))
  where
    differ : (r : Ordering) → MatchOrdering r (x < y) (x ≡ y) (y < x) → is_ne r ≡ true
    differ Less m = refl
    differ Equal m = absurd (h m)
    differ Greater m = refl

-- the length of a padded release
pub length-padded : (size : ℕ) (xs : List ℕ) → length (padded_release size xs) ≡ max (length xs) size
unfolding padded_release
length-padded size xs =
    length-append xs (replicate (size - length xs) 0) ∙ rw (length-replicate {A = ℕ}) (omega arith)

zeros_at : (n k : ℕ) → get_or {A = ℕ} (replicate n 0) k 0 ≡ 0
zeros_at n k = elim (cases_lt k n) [
  | inl inside ↦ get_or-replicate n k 0 0 inside
  | inr past ↦ get_or_past (replicate n 0) k 0 (rw (length-replicate {A = ℕ}) past)
]

-- the number at a place of a padded release
pub get_or-padded : (size : ℕ) (xs : List ℕ) (i : ℕ) → get_or (padded_release size xs) i 0 ≡ get_or xs i 0
unfolding padded_release
get_or-padded size xs i = elim (cases_lt i (length xs)) [
  | inl inside ↦ get_or_append_left xs _ 0 i inside
  | inr past ↦
      get_or-append_right xs (replicate (size - length xs) 0) (length xs) i 0 refl past
      ∙ (zeros_at (size - length xs) (i - length xs) ∙ sym (get_or_past xs i 0 past))
]

-- two padded releases from a place on
pub numbers_cmp-next : (size : ℕ) (xs ys : List ℕ) (i : ℕ) → i < size
    → numbers_cmp (drop i (padded_release size xs)) (drop i (padded_release size ys))
    ≡ ordering_then (nat_cmp (get_or xs i 0) (get_or ys i 0)) (numbers_cmp (drop (i + 1) (padded_release size xs)) (drop (i + 1) (padded_release size ys)))
numbers_cmp-next size xs ys i h =
    rw (← get_or-padded size xs i, ← get_or-padded size ys i)
    (slice_cmp-drop nat_cmp (padded_release size xs) (padded_release size ys) i 0 0 (omega (arith, length-padded size xs)) (omega (arith, length-padded size ys)))

-- two padded releases that have ended
pub numbers_cmp-ended : (size : ℕ) (xs ys : List ℕ) (i : ℕ) → size ≤ i → length xs ≤ size → length ys ≤ size
    → numbers_cmp (drop i (padded_release size xs)) (drop i (padded_release size ys)) ≡ Equal
numbers_cmp-ended size xs ys i h x y =
    slice_cmp-ended nat_cmp (padded_release size xs) (padded_release size ys) i (omega (arith, length-padded size xs)) (omega (arith, length-padded size ys))

-- the epochs decide
pub version_cmp-epoch : (f g : Fields) (e : Ordering) → e ≡ nat_cmp f.epoch g.epoch → is_ne e ≡ true → e ≡ version_cmp f g
unfolding version_cmp
version_cmp-epoch f g e is differ = rw is (sym (then_decided (nat_cmp f.epoch g.epoch) _ (rw is at differ)))

-- the releases decide
pub version_cmp-release : (f g : Fields) (e r : Ordering) → e ≡ nat_cmp f.epoch g.epoch → is_ne e ≡ false
    → r ≡ release_cmp f.release g.release → is_ne r ≡ true → r ≡ version_cmp f g
unfolding version_cmp
version_cmp-release f g e r is same rel differ =
    rw rel (sym (then_tied (nat_cmp f.epoch g.epoch) _ (rw is at same) ∙ then_decided (release_cmp f.release g.release) _ (rw rel at differ)))

-- what follows the releases decides
pub version_cmp-suffix : (f g : Fields) (e r : Ordering) → e ≡ nat_cmp f.epoch g.epoch → is_ne e ≡ false
    → r ≡ release_cmp f.release g.release → is_ne r ≡ false → suffix_cmp f g ≡ version_cmp f g
unfolding version_cmp
version_cmp-suffix f g e r is same rel tied =
    sym (then_tied (nat_cmp f.epoch g.epoch) _ (rw is at same) ∙ then_tied (release_cmp f.release g.release) _ (rw rel at tied))

-- six keys in turn are five keys in turn and then the last
rejoined : (e r p q d l : Ordering) → ordering_then e (ordering_then r (ordering_then p (ordering_then q (ordering_then d l))))
    ≡ ordering_then (ordering_then e (ordering_then r (ordering_then p (ordering_then q (ordering_then d Equal))))) l
rejoined Less r p q d l = refl
rejoined Greater r p q d l = refl
rejoined Equal Less p q d l = refl
rejoined Equal Greater p q d l = refl
rejoined Equal Equal Less q d l = refl
rejoined Equal Equal Greater q d l = refl
rejoined Equal Equal Equal Less d l = refl
rejoined Equal Equal Equal Greater d l = refl
rejoined Equal Equal Equal Equal Less l = refl
rejoined Equal Equal Equal Equal Greater l = refl
rejoined Equal Equal Equal Equal Equal l = refl

-- versions are ordered by their public parts, and then by their local parts
pub version_cmp-public : (f g : Fields) →
    version_cmp f g ≡ ordering_then (version_cmp (without_local f) (without_local g)) (local_cmp f.local g.local)
unfolding version_cmp
version_cmp-public f g =
    rejoined (nat_cmp f.epoch g.epoch) (release_cmp f.release g.release) (place_cmp (pre_place f) (pre_place g))
    (place_cmp (post_place f.post) (post_place g.post)) (place_cmp (dev_place f.dev) (dev_place g.dev)) (local_cmp f.local g.local)

-- the public parts decide
pub public-decides : (f g : Fields) (p : Ordering) → p ≡ version_cmp (without_local f) (without_local g) → is_ne p ≡ true → p ≡ version_cmp f g
public-decides f g p is differ =
    rw is (sym (version_cmp-public f g ∙ then_decided (version_cmp (without_local f) (without_local g)) _ (rw is at differ)))

-- the local parts decide
pub local-decides : (f g : Fields) (p : Ordering) → p ≡ version_cmp (without_local f) (without_local g) → is_ne p ≡ false →
    local_cmp f.local g.local ≡ version_cmp f g
local-decides f g p is tied =
    sym (version_cmp-public f g ∙ then_tied (version_cmp (without_local f) (without_local g)) _ (rw is at tied))
