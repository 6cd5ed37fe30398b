-- What is read of a lock's marker.
use Rattle.std.proofs.Common.{◌≡◌, ◌≢◌, ℕ, zero, suc, ◌<◌, List, [], ◌∷◌, length, get_or, true, false, refl, ap, sym, ◌∙◌, subst, arith, Option, Some, None}
use Rattle.std.specs.List.{list_all}
use Rattle.std.proofs.lemmas.Bool.{and_parts}
use Rattle.std.proofs.lemmas.Bool.Decides.{nat_tests}
use Rattle.std.proofs.lemmas.Str.{IsUtf8-from_ascii}
use Rattle.std.proofs.lemmas.Str.Ascii.{IsAscii-from_all}
use Rattle.std.specs.Str.{IsUtf8}
use Rattle.ul_comparison.specs.Atoms.{is_literal_byte}
use Rattle.ul_nodes.specs.Plain.{Plain, truth}
use Rattle.ul_nodes.specs.Reduced.{IsReduced}
use Rattle.ul_marker_text.specs.MarkerOfText.{is_readable, is_region, marker_of_text}
use Rattle.ul_marker_text.specs.MarkerText.{marker_text}
use Rattle.ul_marker_text.proofs.MarkerTrees.{read_is, region_read, region_no_truth, one_text}
use Rattle.ul_marker_text.proofs.PlainTexts.{marker_plain}

none_by : (o : Option Plain) → ((t : Plain) → o ≡ Some t → ⊥) → None ≡ o
none_by None h = refl
none_by (Some t) h = absurd (h t refl)

region_not_false : (t : Plain) → is_region t ≡ true → t ≢ truth false
region_not_false t e q = region_no_truth t e false q

-- a text that isn't one of a reduced tree that may be read is no marker
pub no_marker : (b : List ℕ) → ((t : Plain) → IsReduced t → t ≢ truth false → is_readable t ≡ true → marker_text t ≡ b → ⊥) → None ≡ marker_of_text b
no_marker b h = none_by (marker_of_text b) (λ t e. let r = read_is b t e in h t r.reduced (region_not_false t r.region) r.readable r.spelled)

-- a tree that is no region gives none
pub no_region : (b : List ℕ) (t : Plain) → IsReduced t → t ≢ truth false → marker_text t ≡ b → is_region t ≡ false → None ≡ marker_of_text b
no_region b t h f s e =
    none_by (marker_of_text b)
    (λ r q.
    let is = read_is b r q in
    let same = one_text t r h is.reduced f (region_not_false r is.region) (s ∙ sym is.spelled) in
    let p : false ≡ true = sym e ∙ ap is_region same ∙ is.region in
    absurd cc)

byte_ascii : (b : ℕ) → is_literal_byte b ≡ true → b < 128
byte_ascii b h = grind (arith, nat_tests)

ascii_at : (xs : List ℕ) (k d : ℕ) → list_all is_literal_byte xs ≡ true → k < length xs → get_or xs k d < 128
ascii_at [] k d h lt = absurd (omega arith)
ascii_at (x ∷ xs) zero d h lt = byte_ascii x (and_parts (is_literal_byte x) (list_all is_literal_byte xs) h).0
ascii_at (x ∷ xs) (suc k) d h lt = ascii_at xs k d (and_parts (is_literal_byte x) (list_all is_literal_byte xs) h).1 (omega arith)

plain_utf8 : (xs : List ℕ) → list_all is_literal_byte xs ≡ true → IsUtf8 xs
plain_utf8 xs h = IsUtf8-from_ascii xs (IsAscii-from_all xs (λ k d lt. ascii_at xs k d h lt))

-- bytes that are no text are no marker
pub no_utf8 : (b : List ℕ) → (IsUtf8 b → ⊥) → None ≡ marker_of_text b
no_utf8 b h = no_marker b (λ t r f d s. h (subst (λ (z : List ℕ). IsUtf8 z) s (plain_utf8 (marker_text t) (marker_plain t r f))))

pub region_is : (b : List ℕ) (t : Plain) → IsReduced t → true ≡ is_region t → is_readable t ≡ true → marker_text t ≡ b → Some t ≡ marker_of_text b
region_is b t h e d s = sym (region_read b t h (sym e) d s)
