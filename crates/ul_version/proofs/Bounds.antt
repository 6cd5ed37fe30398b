-- What a text spells is a version: numbers of 64 bits, a release that isn't empty, and words.
use Rattle.std.proofs.Common.{◌≡◌, ℕ, zero, suc, ◌^◌, ◌<◌, List, [], ◌∷◌, length, arith, refl, inl, inr, Option, Some, None}
use Rattle.std.specs.Prelude.{All, IfSome}
use Rattle.ul_version.specs.Fields.{Fields, IsVersion, IsNumber64, IsSegment}
use Rattle.std.specs.Prelude.{◌==◌}
use Rattle.ul_version.specs.Reading.{after_optional, epoch, release, pre, post, dev, local, fields_of}
use Rattle.ul_version.proofs.Spelling.{fields-spelled}
use Rattle.ul_version.specs.Grammar.{IsOptionalNum, IsEpoch, ArePoints, IsRelease, IsPre, IsPost, IsDev, IsSpelledSegment, AreSegments, IsLocal, IsSpelled}
use Rattle.ul_version.specs.declared.fields.Pre.{Pre}
use Rattle.ul_version.specs.declared.fields.Segment.{Segment}
use Rattle.ul_version.specs.declared.fields.Segment.TheVariants.{Number, Word}

pub All-nil : {X : Type 0} (P : X → Type 0) → All P []
All-nil P k d lt = absurd (omega arith)

pub All-cons : {X : Type 0} (P : X → Type 0) (x : X) (xs : List X) → P x → All P xs → All P (x ∷ xs)
All-cons P x xs h hs zero d lt = h
All-cons P x xs h hs (suc k) d lt = hs k d (omega arith)

pub All-first : {X : Type 0} (P : X → Type 0) (x : X) (xs : List X) → All P (x ∷ xs) → P x
All-first P x xs h = h 0 x (omega arith)

pub All-rest : {X : Type 0} (P : X → Type 0) (x : X) (xs : List X) → All P (x ∷ xs) → All P xs
All-rest P x xs h k d lt = h (suc k) d (omega arith)

optional-fits : (text : List ℕ) (n : ℕ) → IsOptionalNum text n → n < 2 ^ 64
optional-fits text n (inl (none, absent)) = omega arith
optional-fits text n (inr num) = num.fits

epoch-fits : (text : List ℕ) (n : ℕ) → IsEpoch text n → n < 2 ^ 64
epoch-fits text n (inl (none, absent)) = omega arith
epoch-fits text n (inr (digits, num, whole)) = num.fits

points-fit : (text ns : List ℕ) → ArePoints text ns → All IsNumber64 ns
points-fit text [] h = All-nil IsNumber64
points-fit text (n ∷ ns) (digits, rest, num, more, whole) = All-cons IsNumber64 n ns num.fits (points-fit rest ns more)

release-fits : (text ns : List ℕ) → IsRelease text ns → All IsNumber64 ns
release-fits text [] h = absurd h
release-fits text (n ∷ ns) (digits, rest, num, more, whole) = All-cons IsNumber64 n ns num.fits (points-fit rest ns more)

release-filled : (text ns : List ℕ) → IsRelease text ns → 0 < length ns
release-filled text [] h = absurd h
release-filled text (n ∷ ns) h = omega arith

pre-fits : (text : List ℕ) (p : Option Pre) → IsPre text p → IfSome p (λ x. x.number < 2 ^ 64)
pre-fits text None h = tt
pre-fits text (Some p) h = optional-fits h.digits p.number h.are_digits

post-fits : (text : List ℕ) (p : Option ℕ) → IsPost text p → IfSome p IsNumber64
post-fits text None h = tt
post-fits text (Some n) (inl (digits, num, whole)) = num.fits
post-fits text (Some n) (inr h) = optional-fits h.digits n h.are_digits

dev-fits : (text : List ℕ) (p : Option ℕ) → IsDev text p → IfSome p IsNumber64
dev-fits text None h = tt
dev-fits text (Some n) h = optional-fits h.digits n h.are_digits

segment-fits : (text : List ℕ) (s : Segment) → IsSpelledSegment text s → IsSegment s
segment-fits text (Number n) h = h.fits
segment-fits text (Word word) h = h.1

segments-fit : (text : List ℕ) (ss : List Segment) → AreSegments text ss → All IsSegment ss
segments-fit text [] h = absurd h
segments-fit text (s ∷ []) h = All-cons IsSegment s [] (segment-fits text s h) (All-nil IsSegment)
segments-fit text (s ∷ t ∷ ss) (piece, rest, b, first, sep, more, whole) =
    All-cons IsSegment s (t ∷ ss) (segment-fits piece s first) (segments-fit rest (t ∷ ss) more)

local-fits : (text : List ℕ) (ss : List Segment) → IsLocal text ss → All IsSegment ss
local-fits text [] h = All-nil IsSegment
local-fits text (s ∷ ss) (rest, more, whole) = segments-fit rest (s ∷ ss) more

pub spelled-version : (text : List ℕ) (f : Fields) → IsSpelled text f → IsVersion f
spelled-version text f h = record {
  nonempty = release-filled h.release f.release h.is_release;
  epoch_fits = epoch-fits h.epoch f.epoch h.is_epoch;
  release_fits = release-fits h.release f.release h.is_release;
  pre_fits = pre-fits h.pre f.pre h.is_pre;
  post_fits = post-fits h.post f.post h.is_post;
  dev_fits = dev-fits h.dev f.dev h.is_dev;
  segments = local-fits h.local f.local h.is_local;
}

-- the parts that were read one after another are a version's
pub parts-version : (text front a b c d e : List ℕ) (n : ℕ) (ns : List ℕ) (p : Option Pre) (q v : Option ℕ) (ss : List Segment)
    → front ≡ after_optional (λ b. b == 118) text → epoch front ≡ Some (n, a) → release a ≡ Some (ns, b) → pre b ≡ Some (p, c) → post c ≡ Some (q, d) → dev d ≡ Some (v, e) → local e ≡ Some ss
    → IsVersion (record { epoch = n; release = ns; pre = p; post = q; dev = v; local = ss })
unfolding fields_of
parts-version text front a b c d e n ns p q v ss h0 h1 h2 h3 h4 h5 h6 =
    spelled-version text _ (fields-spelled text _ (rw (← h0, h1, h2, h3, h4, h5, h6) refl))
