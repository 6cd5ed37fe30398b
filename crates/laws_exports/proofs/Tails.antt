-- What is read of the specifier and the marker of a line.
use Rattle.std.proofs.Common.{◌≡◌, ℕ, List, [], ◌∷◌, ◌++◌, Bool, true, true≢false, Option, Some, None, refl, sym, ap, ◌∙◌, append_assoc, arith}
use Rattle.std.specs.Prelude.{◌==◌, ◌||◌, codes, not}
use Rattle.std.proofs.lemmas.Bool.Decides.{nat_tests}
use Rattle.std.proofs.lemmas.List.Elements.{All-cons, All-nil}
use Rattle.ul_version.specs.Ascii.{is_blank, semicolon, text_between}
use Rattle.ul_version.specs.Fields.{Fields, IsVersion}
use Rattle.ul_version.specs.Reading.{◌>>=◌}
use Rattle.ul_version.specs.Texts.{is_text_byte, version_text}
use Rattle.ul_specifier.specs.Clauses.{ClauseFields, IsClause, IsSpelled}
use Rattle.ul_specifier.specs.Meaning.{equal_clause}
use Rattle.ul_specifier.proofs.ForCallers.{all-joined, all-weaker, clauses-read, nothing-dropped}
use Rattle.ul_comparison.specs.Atoms.{is_literal_byte}
use Rattle.ul_comparison.specs.Formulas.{Formula}
use Rattle.ul_marker.specs.Reading.{marker_of}
use Rattle.ul_requirement.specs.Reading.{cut_at, is_inner_byte, marker_in, specifiers_in, tail_of}
use Rattle.laws_exports.specs.Pins.{exactly}
use Rattle.laws_exports.proofs.Bytes.{Pass, none_of, pin_passes, pin_text, version_passes}
use Rattle.laws_exports.proofs.Fronts.{cut_here, cut_nowhere}
use Rattle.laws_exports.proofs.Trimmed.{last_dropped}

-- ---- bytes

version_blank : (b : ℕ) → is_text_byte b ≡ true → not (is_blank b) ≡ true
version_blank b h = grind (arith, nat_tests)

version_inner : (b : ℕ) → is_text_byte b ≡ true → is_inner_byte b ≡ true
version_inner b h = grind (arith, nat_tests)

literal_inner : (b : ℕ) → is_literal_byte b ≡ true → is_inner_byte b ≡ true
literal_inner b h = grind (arith, nat_tests)

-- a byte that stands before a marker
abbrev is_front_byte : ℕ → Bool
is_front_byte b = is_text_byte b || (b == 61 || b == 32)

version_front : (b : ℕ) → is_text_byte b ≡ true → is_front_byte b ≡ true
version_front b h = grind (arith, nat_tests)

-- ---- the specifier

pin_is : (v : Fields) → IsVersion v → IsClause (equal_clause v)
pin_is v is = record {
  version = is;
  prefix = λ e. absurd (true≢false (sym e));
  local = λ e. refl;
  compatible = λ e. absurd (true≢false (sym e));
}

pin_trimmed : (v : Fields) → IsVersion v → text_between is_blank (pin_text v) ≡ pin_text v
pin_trimmed v is =
    nothing-dropped is_blank (pin_text v) (pin_passes (λ b. not (is_blank b)) v is version_blank refl)

-- a text that is a specifier is read as it
pin_in : (v : Fields) (text : List ℕ) → IsVersion v → text ≡ pin_text v → specifiers_in text ≡ Some (exactly v)
unfolding specifiers_in
pin_in v text is e =
    let one = All-cons IsClause (equal_clause v) [] (pin_is v is) (All-nil IsClause) in
    ap specifiers_in e ∙ clauses-read (exactly v) one (All-cons IsSpelled (equal_clause v) [] refl (All-nil IsSpelled))

-- without a marker
pub pin_tail : (v : Fields) → IsVersion v → tail_of (pin_text v) ≡ Some (exactly v, None)
unfolding tail_of marker_in
pin_tail v is =
    let inner : Pass is_inner_byte (pin_text v) = pin_passes is_inner_byte v is version_inner refl in
    let front : Pass is_front_byte (pin_text v) = pin_passes is_front_byte v is version_front refl in
    let whole : cut_at semicolon (pin_text v) ≡ None =
    cut_nowhere semicolon (pin_text v) (none_of is_front_byte semicolon (pin_text v) refl front) in
    let pin : specifiers_in (text_between is_blank (pin_text v)) ≡ Some (exactly v) =
    pin_in v (text_between is_blank (pin_text v)) is (pin_trimmed v is) in
    rw (inner, whole, pin) refl

-- ---- the marker

-- a specifier with the blank before a semicolon
abbrev before_semicolon : Fields → List ℕ
before_semicolon v = pin_text v ++ codes " "

-- a specifier and a marker behind it
abbrev pub marked_text : Fields → List ℕ → List ℕ
marked_text v m = codes "==" ++ (version_text v ++ (codes " ; " ++ m))

marked_inner : (v : Fields) (m : List ℕ) → IsVersion v → Pass is_literal_byte m → Pass is_inner_byte (marked_text v m)
marked_inner v m is clean =
    let marker : Pass is_inner_byte m = all-weaker is_literal_byte is_inner_byte m literal_inner clean in
    all-joined is_inner_byte (codes "==") (version_text v ++ (codes " ; " ++ m)) refl
    (all-joined is_inner_byte (version_text v) (codes " ; " ++ m) (version_passes is_inner_byte v is version_inner)
    (all-joined is_inner_byte (codes " ; ") m refl marker))

marked_cut : (v : Fields) (m : List ℕ) → IsVersion v
    → cut_at semicolon (marked_text v m) ≡ Some (before_semicolon v, 32 ∷ m)
marked_cut v m is =
    let front : Pass is_front_byte (before_semicolon v) =
    all-joined is_front_byte (pin_text v) (codes " ") (pin_passes is_front_byte v is version_front refl) refl in
    let whole = sym (append_assoc (version_text v) (codes " ") (semicolon ∷ 32 ∷ m)) in
    ap (λ (t : List ℕ). cut_at semicolon (codes "==" ++ t)) whole
    ∙ cut_here semicolon (before_semicolon v) (32 ∷ m) (none_of is_front_byte semicolon (before_semicolon v) refl front)

-- what is read of both, by what is read of the marker
abbrev pub tail_as : Fields → Option Formula → Option (List ClauseFields × Option Formula)
tail_as v None = None
tail_as v (Some f) = Some (exactly v, Some f)

-- with a marker
pub marked_tail : (v : Fields) (m : List ℕ) (o : Option Formula) → IsVersion v → Pass is_literal_byte m
    → marker_of (32 ∷ m) ≡ o → tail_of (marked_text v m) ≡ tail_as v o
unfolding tail_of marker_in
marked_tail v m o is clean read =
    let trimmed = last_dropped is_blank (pin_text v) 32 refl ∙ pin_trimmed v is in
    let pin : specifiers_in (text_between is_blank (before_semicolon v)) ≡ Some (exactly v) =
    pin_in v (text_between is_blank (before_semicolon v)) is trimmed in
    rw (marked_inner v m is clean, marked_cut v m is, pin, read) (by_marker o)
  where
    by_marker : (o : Option Formula) → ((o >>= λ f. Some (Some f)) >>= λ k. Some (exactly v, k)) ≡ tail_as v o
    by_marker None = refl
    by_marker (Some f) = refl
