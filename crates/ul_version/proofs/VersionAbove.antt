-- Above each version there is a greater one.
use Rattle.std.proofs.Common.{◌≡◌, List, [], ◌∷◌, ◌++◌, refl, ap, ◌∙◌, arith}
use Rattle.std.specs.Prelude.{All}
use Rattle.std.specs.Cmp.Lexicographic.{nat_list_cmp_total}
use Rattle.std.specs.Ordering.{ordering_then, nat_cmp}
use Rattle.std.specs.declared.cmp.Ordering.{Ordering}
use Rattle.std.specs.declared.cmp.Ordering.TheVariants.{Less, Equal, Greater}
use Rattle.std.proofs.lemmas.Cmp.{tied_itself}
use Rattle.std.proofs.lemmas.List.Elements.{All-append, All-cons, All-nil}
use Rattle.ul_version.specs.Fields.{Fields, IsVersion, IsSegment, IsNumber64, plain, version_above}
use Rattle.ul_version.specs.Laws.{GreaterIsVersion}
use Rattle.ul_version.specs.declared.fields.Segment.{Segment}
use Rattle.ul_version.specs.declared.fields.Segment.TheVariants.{Number}
use Rattle.ul_version.specs.Order.{version_cmp, release_cmp, place_cmp, pre_place, post_place, dev_place, segment_key, local_cmp}
use Rattle.ul_version.proofs.OrderLaws.{version_total}

number_zero : IsSegment (Number 0)
number_zero = omega arith

zero_is_segment : All IsSegment (Number 0 ∷ [])
zero_is_segment = All-cons IsSegment (Number 0) [] number_zero (All-nil IsSegment)

-- what stands above a version is a version
pub above_is_version : (f : Fields) → IsVersion f → IsVersion (version_above f)
above_is_version f h = record { nonempty = h.nonempty; epoch_fits = h.epoch_fits; release_fits = h.release_fits; pre_fits = h.pre_fits; post_fits = h.post_fits; dev_fits = h.dev_fits; segments = All-append IsSegment f.local (Number 0 ∷ []) h.segments zero_is_segment }

local_below : (xs : List Segment) → local_cmp xs (xs ++ Number 0 ∷ []) ≡ Less
local_below [] = refl
local_below (x ∷ xs) = ap (λ o. ordering_then o (local_cmp xs (xs ++ Number 0 ∷ []))) (tied_itself nat_list_cmp_total (segment_key x)) ∙ local_below xs

through : (a b c : Ordering) → ordering_then a b ≡ Equal → (b ≡ Equal → c ≡ Less) → ordering_then a c ≡ Less
through Less b c h k = absurd cc
through Equal b c h k = k h
through Greater b c h k = absurd cc

-- a version is less than the one above it
pub version_below : (f : Fields) → version_cmp f (version_above f) ≡ Less
unfolding version_cmp
version_below f =
    through (nat_cmp f.epoch f.epoch) _ _ (tied_itself version_total f) (λ a.
    through (release_cmp f.release f.release) _ _ a (λ b.
    through (place_cmp (pre_place f) (pre_place f)) _ _ b (λ c.
    through (place_cmp (post_place f.post) (post_place f.post)) _ _ c (λ d.
    through (place_cmp (dev_place f.dev) (dev_place f.dev)) _ _ d (λ _. local_below f.local)))))

-- the release 0 alone is a version
pub zero_is_version : IsVersion (plain (0 ∷ []))
zero_is_version = record { nonempty = omega arith; epoch_fits = omega arith; release_fits = All-cons IsNumber64 0 [] zero_fits (All-nil IsNumber64); pre_fits = tt; post_fits = tt; dev_fits = tt; segments = All-nil IsSegment }
  where
    zero_fits : IsNumber64 0
    zero_fits = omega arith

pub greater : GreaterIsVersion
greater f v = (above_is_version f v, version_below f)
