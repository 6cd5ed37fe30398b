-- Lemmas on the numbers with which a release begins.
use Rattle.std.proofs.Common.{◌≡◌, ◌≢◌, ℕ, ◌<◌, List, length, take, get_or, refl, sym, ap, ◌∙◌, arith, Bool, true, false, inl, inr}
use Rattle.std.specs.Prelude.{nat_eq}
use Rattle.std.proofs.lemmas.List.{ext_get_or, get_or-take, length-take}
use Rattle.std.proofs.lemmas.Bool.{cases_Bool}
use Rattle.std.specs.Cmp.Lexicographic.{same_text, other_text}
use lib.Pointwise.{pointwise}
use Rattle.ul_version.specs.Order.{padded_release, has_release_front}
use Rattle.ul_version.proofs.Orders.{length-padded, get_or-padded}

-- the numbers of a release that stand beside those of a front
beside : List ℕ → List ℕ → List ℕ
beside front release = take (length front) (padded_release (length front) release)

beside-at : (front release : List ℕ) (k : ℕ) → k < length front → get_or (beside front release) k 0 ≡ get_or release k 0
unfolding beside
beside-at front release k lt = get_or-take (length front) _ k 0 lt ∙ get_or-padded (length front) release k

beside-length : (front release : List ℕ) → length (beside front release) ≡ length front
unfolding beside
beside-length front release = length-take (length front) (padded_release (length front) release) ∙ omega (arith, length-padded (length front) release)

differ-not : (xs ys : List ℕ) (b : Bool) → b ≡ pointwise nat_eq xs ys → xs ≡ ys → b ≡ true
differ-not xs ys true e same = refl
differ-not xs ys false e same = absurd (other_text xs ys e same)

-- each number stands beside an equal one
pub front-all : (front release : List ℕ) → ((k : ℕ) → k < length front → get_or release k 0 ≡ get_or front k 0) → true ≡ has_release_front front release
unfolding has_release_front beside
front-all front release h =
    let same : front ≡ beside front release = ext_get_or 0 front (beside front release) (sym (beside-length front release))
    (λ k lt. sym (beside-at front release k lt ∙ h k lt)) in
    sym (differ-not front (beside front release) _ refl same)

-- one number stands beside another
pub front-differs : (front release : List ℕ) (k : ℕ) → k < length front → get_or release k 0 ≢ get_or front k 0 → false ≡ has_release_front front release
unfolding has_release_front beside
front-differs front release k lt h = elim (cases_Bool (has_release_front front release)) [
  | inl yes_one ↦ absurd (h (sym (beside-at front release k lt) ∙ ap (λ (l : List ℕ). get_or l k 0) (sym (same_text front (beside front release) (sym yes_one)))))
  | inr no_one ↦ sym no_one
]
