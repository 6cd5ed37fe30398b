-- The eligible versions strictly increase.
use Rattle.std.proofs.Common.{◌≡◌, List, [], ◌∷◌, map, filter, Bool, true, false, cond, Option, Some, None, Contains, refl, sym, ap, ◌∙◌}
use Rattle.std.specs.Prelude.{All}
use Rattle.std.proofs.lemmas.List.Elements.{All-contains}
use Rattle.std.specs.Ordering.{is_lt, ordering_reverse}
use Rattle.std.specs.declared.cmp.Ordering.{Ordering}
use Rattle.std.specs.declared.cmp.Ordering.TheVariants.{Less, Equal, Greater}
use Rattle.ul_version.specs.Fields.{Fields}
use Rattle.ul_version.specs.Order.{version_cmp}
use Rattle.ul_version.proofs.ForCallers.{version_total}
use Rattle.ul_requirement.specs.Fields.{ReleaseFields, IsOtherVersion, VersionsDiffer}
use Rattle.ul_index.specs.Catalogs.{prereleases_of, releases_of}
use Rattle.ul_index.specs.Eligible.{increasing_with, in_order, passes, takes_pre, directs_on, passing, eligible}
use Rattle.ul_index.specs.Laws.{IsVersionAfter, VersionsRise, EligibleRises}
use Rattle.ul_base.proofs.ForCallers.{contains_first, contains_later}
use Rattle.ul_base.proofs.ForCallers.{contains_from_map}
use Rattle.ul_index.proofs.Orders.{filter_in}
use Rattle.ul_index.proofs.Ordered.{order_from}

-- none of the versions ties with this one
abbrev pub Differs : Fields → List Fields → Type 0
Differs v xs = (x : Fields) → Contains xs x → version_cmp v x ≡ Equal → ⊥

abbrev AllDiffer : List Fields → Type 0
AllDiffer [] = Unit {0}
AllDiffer (v ∷ vs) = Differs v vs × AllDiffer vs

less_is : (o : Ordering) → is_lt o ≡ true → o ≡ Less
less_is Less e = refl
less_is Equal e = cc
less_is Greater e = cc

turned : (o q : Ordering) → is_lt o ≡ false → (o ≡ Equal → ⊥) → q ≡ ordering_reverse o → q ≡ Less
turned Less q e d r = cc
turned Equal q e d r = absurd (d refl)
turned Greater q e d r = r

head_rises : (v x : Fields) (xs ys : List Fields) (b : Option Fields) (t : Bool) → is_lt (version_cmp v x) ≡ t → IsVersionAfter b v → VersionsRise b (x ∷ xs) → (version_cmp v x ≡ Equal → ⊥) → (IsVersionAfter (Some x) v → VersionsRise (Some x) ys)
    → VersionsRise b (cond t (v ∷ x ∷ xs) (x ∷ ys))
head_rises v x xs ys b true t a h d later = (a, (less_is (version_cmp v x) t, h.1))
head_rises v x xs ys b false t a h d later = (h.0, later (turned (version_cmp v x) (version_cmp x v) t d (version_total.antisymm x v)))

placed_rises : (v : Fields) (xs : List Fields) (b : Option Fields) → IsVersionAfter b v → VersionsRise b xs → Differs v xs → VersionsRise b (increasing_with v xs)
placed_rises v [] b a h d = (a, tt)
placed_rises v (x ∷ xs) b a h d = head_rises v x xs (increasing_with v xs) b (is_lt (version_cmp v x)) refl a h (d x (contains_first x xs))
    (λ k. placed_rises v xs (Some x) k h.1 (λ y m. d y (contains_later x xs y m)))

order_rises : (vs : List Fields) → AllDiffer vs → VersionsRise None (in_order vs)
order_rises [] h = tt
order_rises (v ∷ vs) h = placed_rises v (in_order vs) None tt (order_rises vs h.1) (λ x m. h.0 x (order_from vs x m))

version_in : ReleaseFields → Fields
version_in r = r.version

pub differs_all : (test : ReleaseFields → Bool) (r : ReleaseFields) (rs : List ReleaseFields) → All (IsOtherVersion r) rs → Differs r.version (map (λ (s : ReleaseFields). s.version) (filter test rs))
differs_all test r rs h x m e = let s = contains_from_map (λ (s : ReleaseFields). s.version) (filter test rs) x m in
    All-contains (IsOtherVersion r) rs s.0 h (filter_in test rs s.0 s.1) (ap (version_cmp r.version) (sym s.2) ∙ e)

kept_differ : (test : ReleaseFields → Bool) (r : ReleaseFields) (rs : List ReleaseFields) (t : Bool) → All (IsOtherVersion r) rs → AllDiffer (map (λ (s : ReleaseFields). s.version) (filter test rs))
    → AllDiffer (map (λ (s : ReleaseFields). s.version) (cond t (r ∷ filter test rs) (filter test rs)))
kept_differ test r rs true h k = (differs_all test r rs h, k)
kept_differ test r rs false h k = k

filter_differ : (test : ReleaseFields → Bool) (rs : List ReleaseFields) → VersionsDiffer rs → AllDiffer (map (λ (s : ReleaseFields). s.version) (filter test rs))
filter_differ test [] h = tt
filter_differ test (r ∷ rs) h = kept_differ test r rs (test r) h.0 (filter_differ test rs h.1)

pub eligible_rises : EligibleRises
unfolding eligible passing
eligible_rises c n h = order_rises (map (λ (s : ReleaseFields). s.version) (passing c n))
    (filter_differ (passes (directs_on c n) (takes_pre (prereleases_of c n) (directs_on c n) (releases_of c n))) (releases_of c n) h)
