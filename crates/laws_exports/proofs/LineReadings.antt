-- What a line is read as that has a name, an extra if there is one, a version and a marker.
use Rattle.std.proofs.Common.{◌≡◌, ◌<◌, ℕ, List, [], ◌∷◌, ◌++◌, length, Bool, true, false, true≢false, Option, Some, None, IfSome, refl, sym, ap, subst, ◌∙◌, append_assoc, arith}
use Rattle.std.specs.Prelude.{codes, not}
use Rattle.std.proofs.lemmas.Bool.{and_parts}
use Rattle.std.proofs.lemmas.Bool.Decides.{nat_tests}
use Rattle.ul_base.specs.declared.node.Node.{Node}
use Rattle.ul_base.specs.Names.{IsNormalName, is_normal_byte}
use Rattle.ul_base.proofs.ForCallers.{name_is_plain}
use Rattle.ul_version.specs.Ascii.{after_all, before_all, is_white, text_between}
use Rattle.ul_version.specs.Fields.{Fields}
use Rattle.ul_version.specs.Texts.{is_text_byte, version_text}
use Rattle.ul_specifier.specs.Clauses.{ClauseFields}
use Rattle.ul_specifier.proofs.ForCallers.{all-joined, nothing-dropped}
use Rattle.ul_comparison.specs.Atoms.{is_literal_byte}
use Rattle.ul_comparison.specs.Formulas.{Formula}
use Rattle.ul_marker.specs.Reading.{marker_in, marker_of, printed_marker_of}
use Rattle.ul_marker.specs.Words.{dialect_tokens}
use Rattle.ul_marker.specs.declared.words.Dialect.TheVariants.{Document, Printed}
use Rattle.ul_requirement.specs.Reading.{Reading, reading_of, reading_with, requirement, tail_of, unread}
use Rattle.ul_reach.specs.Lines.{extra_text}
use Rattle.laws_exports.specs.Pins.{exactly}
use Rattle.laws_exports.specs.Requirements.{extras_of, pinned}
use Rattle.laws_exports.proofs.Bytes.{Pass, extra_passes, name_passes, pin_passes, pin_text}
use Rattle.laws_exports.proofs.Fronts.{front_read, fronted}
use Rattle.laws_exports.proofs.Named.{IsNamed}
use Rattle.laws_exports.proofs.Tails.{marked_tail, marked_text, pin_tail, tail_as}
use Rattle.laws_exports.proofs.Trimmed.{ends_once, front_kept, kept_pass, last_dropped}

-- ---- the ends of a line

abbrev no_white : ℕ → Bool
no_white b = not (is_white b)

name_white : (b : ℕ) → is_normal_byte b ≡ true → no_white b ≡ true
name_white b h = grind (arith, nat_tests)

version_white : (b : ℕ) → is_text_byte b ≡ true → no_white b ≡ true
version_white b h = grind (arith, nat_tests)

-- a name in front stays where white space in front is dropped
name_first : (name more : List ℕ) → IsNormalName name → after_all is_white (name ++ more) ≡ name ++ more
name_first name more is = by_name name (name_is_plain name is).0 (name_passes no_white name is name_white)
  where
    fails : (b : Bool) → not b ≡ true → b ≡ false
    fails true e = absurd (true≢false (sym e))
    fails false e = refl

    by_name : (name : List ℕ) → 0 < length name → Pass no_white name → after_all is_white (name ++ more) ≡ name ++ more
    by_name [] h free = absurd (omega arith)
    by_name (b ∷ name) h free =
        let other : is_white b ≡ false = fails (is_white b) (and_parts (no_white b) _ free).0 in rw other refl

-- of the end of a line only its last byte is known
line_trimmed : (n : Node) (more : List ℕ) → IsNormalName n.name
    → text_between is_white (fronted n (more ++ codes "\n")) ≡ before_all is_white (fronted n more)
line_trimmed n more is =
    let rest = append_assoc (extra_text n.extra) more (codes "\n") in
    let whole = append_assoc n.name (extra_text n.extra ++ more) (codes "\n") ∙ ap (λ (t : List ℕ). n.name ++ t) rest in
    ap (before_all is_white) (name_first n.name (extra_text n.extra ++ (more ++ codes "\n")) is)
    ∙ ap (before_all is_white) (sym whole)
    ∙ last_dropped is_white (fronted n more) 10 refl

-- behind a version nothing is dropped
pin_kept : (n : Node) (v : Fields) → IsNamed n v → before_all is_white (fronted n (pin_text v)) ≡ fronted n (pin_text v)
pin_kept n v is =
    let pin : Pass no_white (pin_text v) = pin_passes no_white v is.version version_white refl in
    let extra : Pass no_white (extra_text n.extra) = extra_passes no_white n.extra is.extra name_white refl refl in
    let all : Pass no_white (fronted n (pin_text v)) =
    all-joined no_white n.name (extra_text n.extra ++ pin_text v) (name_passes no_white n.name is.name name_white)
    (all-joined no_white (extra_text n.extra) (pin_text v) extra pin) in
    sym (ap (before_all is_white) (name_first n.name (extra_text n.extra ++ pin_text v) is.name))
    ∙ nothing-dropped is_white (fronted n (pin_text v)) all

-- ---- whole lines

-- what a text is read as, by what is read behind its front
abbrev read_behind : Node → Option (List ClauseFields × Option Formula) → Reading
read_behind n None = unread
read_behind n (Some t) =
    requirement (record { name = n.name; extras = extras_of n.extra; specifiers = t.0; marker = t.1 })

read_by : (n : Node) (text more : List ℕ) (t : Option (List ClauseFields × Option Formula)) → IsNormalName n.name
    → IfSome n.extra IsNormalName → text_between is_white text ≡ fronted n (codes "==" ++ more)
    → tail_of (codes "==" ++ more) ≡ t → reading_of text ≡ read_behind n t
unfolding reading_of
read_by n text more t is named e tail = rw (e, front_read n more is named, tail) (by_tail t)
  where
    by_tail : (t : Option (List ClauseFields × Option Formula))
        → reading_with (record { name = n.name; extras = extras_of n.extra; rest = codes "==" ++ more }) t
        ≡ read_behind n t
    by_tail None = refl
    by_tail (Some t) = refl

-- without a marker
pub pin_line : (n : Node) (v : Fields) → IsNamed n v
    → reading_of (fronted n (pin_text v ++ codes "\n")) ≡ requirement (pinned n v None)
pin_line n v is =
    read_by n (fronted n (pin_text v ++ codes "\n")) (version_text v) (Some (exactly v, None)) is.name is.extra
    (line_trimmed n (pin_text v) is.name ∙ pin_kept n v is) (pin_tail v is.version)

-- ---- with a marker

-- a marker's text without white space at its end, behind a blank, is read alike
blank_before : (m : List ℕ) → marker_of (32 ∷ before_all is_white m) ≡ marker_of m
unfolding marker_of
blank_before m = ap (λ (t : List ℕ). marker_in (dialect_tokens Document t)) (ends_once is_white m)

-- and something of it is kept, if it is read as a printed one
not_blank : (m : List ℕ) (f : Formula) → printed_marker_of [] ≡ None → printed_marker_of m ≡ Some f
    → before_all is_white m ≡ [] → ⊥
unfolding printed_marker_of
not_blank m f none read e =
    let same : text_between is_white m ≡ [] = sym (ends_once is_white m) ∙ ap (text_between is_white) e in
    let unread_there = ap (λ (t : List ℕ). marker_in (dialect_tokens Printed t)) same ∙ none in
    let clash : None ≡ Some f = sym unread_there ∙ read in
    cc clash

-- a line with a marker, but its end
abbrev before_end : Node → Fields → List ℕ → List ℕ
before_end n v m = fronted n (marked_text v m)

-- what stands in it before the marker
abbrev before_marker : Node → Fields → List ℕ
before_marker n v = fronted n (codes "==" ++ (version_text v ++ codes " ; "))

marker_last : (n : Node) (v : Fields) (m : List ℕ) → before_marker n v ++ m ≡ before_end n v m
marker_last n v m =
    let front : List ℕ = codes "==" ++ (version_text v ++ codes " ; ") in
    append_assoc n.name (extra_text n.extra ++ front) m
    ∙ ap (λ (t : List ℕ). n.name ++ t) (append_assoc (extra_text n.extra) front m)
    ∙ ap (λ (t : List ℕ). fronted n (codes "==" ++ t)) (append_assoc (version_text v) (codes " ; ") m)

-- what a line with a marker is read as, by what is read of the marker
abbrev pub marked_as : Node → Fields → Option Formula → Reading
marked_as n v None = unread
marked_as n v (Some f) = requirement (pinned n v (Some f))

pub marked_line : (n : Node) (v : Fields) (m : List ℕ) (f : Formula) (o : Option Formula) → printed_marker_of [] ≡ None
    → IsNamed n v → Pass is_literal_byte m → printed_marker_of m ≡ Some f → marker_of m ≡ o
    → reading_of (fronted n (marked_text v m ++ codes "\n")) ≡ marked_as n v o
marked_line n v m f o none is clean printed read = by_kept (before_all is_white m) refl
  where
    by_marker : (o : Option Formula) → read_behind n (tail_as v o) ≡ marked_as n v o
    by_marker None = refl
    by_marker (Some f) = refl

    by_kept : (kept : List ℕ) → before_all is_white m ≡ kept
        → reading_of (fronted n (marked_text v m ++ codes "\n")) ≡ marked_as n v o
    by_kept [] e = absurd (not_blank m f none printed e)
    by_kept (b ∷ rest) e =
        let kept : before_all is_white (before_end n v m) ≡ before_end n v (b ∷ rest) =
        sym (ap (before_all is_white) (marker_last n v m))
        ∙ (front_kept is_white (before_marker n v) m b rest e ∙ marker_last n v (b ∷ rest)) in
        let again : marker_of (32 ∷ b ∷ rest) ≡ o =
        sym (ap (λ (t : List ℕ). marker_of (32 ∷ t)) e) ∙ (blank_before m ∙ read) in
        let all : Pass is_literal_byte (b ∷ rest) =
        subst (Pass is_literal_byte) e (kept_pass is_white is_literal_byte m clean) in
        let tail = marked_tail v (b ∷ rest) o is.version all again in
        read_by n (fronted n (marked_text v m ++ codes "\n")) (version_text v ++ (codes " ; " ++ b ∷ rest)) (tail_as v o)
        is.name is.extra (line_trimmed n (marked_text v m) is.name ∙ kept) tail
        ∙ by_marker o
