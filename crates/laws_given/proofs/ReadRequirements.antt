-- A requirement that is read, by a URL or not, is one of a front, with a name and extras, and of the specifiers and the
-- marker behind it.
use Rattle.std.proofs.Common.{◌≡◌, ◌⊎◌, ℕ, List, [], ◌∷◌, Bool, true, false, cond, drop, Option, Some, None, inl, inr, ap, refl, subst}
use Rattle.std.specs.Prelude.{◌==◌}
use Rattle.ul_base.specs.Names.{IsNormalName, name_of}
use Rattle.ul_base.proofs.ForCallers.{name_reads_itself}
use Rattle.ul_version.specs.Ascii.{after_all, is_blank, is_white, left_bracket, right_bracket, text_between}
use Rattle.ul_version.specs.Reading.{◌>>=◌}
use Rattle.ul_version.proofs.ForCallers.{bind_some, inside}
use Rattle.ul_specifier.specs.Clauses.{ClauseFields}
use Rattle.ul_comparison.specs.Formulas.{Formula}
use Rattle.ul_requirement.specs.Fields.{RequirementFields}
use Rattle.ul_requirement.specs.Reading.{Front, address_of, address_with, after_name, by_url, cut_at, extras_front, extras_in, front_of, is_address, name_text, read_address, reading_behind, reading_of, reading_with, requirement, tail_of, url_marker}
use Rattle.laws_given.specs.Texts.{IsRequired}

-- each requirement that is read, by a URL or not, is such
abbrev pub AreRead : (RequirementFields → Type 0) → Type 0
AreRead P = (text : List ℕ) (q : RequirementFields) → IsRequired (reading_of text) q → P q

-- ---- fronts

-- what is true of no extras, and of those between brackets, is true of the extras in front
module _ (P : List (List ℕ) → Type 0) (none : P [])
    (each : (text : List ℕ) (xs : List (List ℕ)) → extras_in text ≡ Some xs → P xs) where
  extras_have : (text : List ℕ) (e : List (List ℕ) × List ℕ) → extras_front text ≡ Some e → P e.0
  unfolding extras_front
  extras_have [] e h = subst (λ (x : List (List ℕ) × List ℕ). P x.0) (inside ([], []) e h) none
  extras_have (b ∷ text) e h = by_test (b == left_bracket) h
    where
      by_test : (c : Bool)
          → cond c (cut_at right_bracket text >>= λ p. extras_in p.0 >>= λ extras. Some (extras, p.1))
          (Some ([], b ∷ text)) ≡ Some e → P e.0
      by_test true h =
          let p = bind_some (cut_at right_bracket text) _ e h in
          let x = bind_some (extras_in p.0.0) _ e p.2 in
          subst (λ (y : List (List ℕ) × List ℕ). P y.0) (inside (x.0, p.0.1) e x.2) (each p.0.0 x.0 x.1)
      by_test false h = subst (λ (x : List (List ℕ) × List ℕ). P x.0) (inside ([], b ∷ text) e h) none

  pub front_has : (text : List ℕ) (f : Front) → front_of text ≡ Some f → IsNormalName f.name × P f.extras
  unfolding front_of
  front_has text f e =
      let name = bind_some (name_of (name_text text)) _ f e in
      let extras = bind_some (extras_front (after_all is_blank (after_name text))) _ f name.2 in
      let made : Front = record { name = name.0; extras = extras.0.0; rest = after_all is_blank extras.0.1 } in
      subst (λ (x : Front). IsNormalName x.name × P x.extras) {x = made} (inside made f extras.2) (
        name_reads_itself (name_text text) name.0 name.1,
        extras_have (after_all is_blank (after_name text)) extras.0 extras.1,
      )

-- ---- the whole text

-- what stands behind a name and its extras
abbrev pub Tail : Type 0
Tail = List ClauseFields × Option Formula

-- the requirement of a front and of what stands behind it
abbrev pub requirement_with : Front → Tail → RequirementFields
requirement_with f t = record { name = f.name; extras = f.extras; specifiers = t.0; marker = t.1 }

-- what stands behind is specifiers and a marker, or `@`, a URL and a marker
abbrev pub IsTailOf : List ℕ → Tail → Type 0
IsTailOf rest tail =
    (tail_of rest ≡ Some tail) ⊎ ((tail.0 ≡ []) × (url_marker (after_all is_blank (drop 1 rest)) ≡ Some tail.1))

-- the requirement of a text
pub record IsReadFrom (text : List ℕ) (q : RequirementFields) : Type 0 where
  pub front : Front
  pub in_front : front_of (text_between is_white text) ≡ Some front
  pub tail : Tail
  pub behind : IsTailOf front.rest tail
  pub is : requirement_with front tail ≡ q

by_tail : (text : List ℕ) (f : Front) → front_of (text_between is_white text) ≡ Some f → (t : Option Tail)
    → tail_of f.rest ≡ t → (q : RequirementFields) → reading_with f t ≡ requirement q → IsReadFrom text q
by_tail text f in_front None behind q e = absurd (cc e)
by_tail text f in_front (Some t) behind q e =
    record { front = f; in_front = in_front; tail = t; behind = inl behind; is = cc }

by_front : (text : List ℕ) (o : Option Front) → front_of (text_between is_white text) ≡ o → (q : RequirementFields)
    → reading_behind o ≡ requirement q → IsReadFrom text q
by_front text None in_front q e = absurd (cc e)
by_front text (Some f) in_front q e = by_address (is_address f.rest) e
  where
    by_address : (b : Bool) → cond b (by_url (address_of f)) (reading_with f (tail_of f.rest)) ≡ requirement q
        → IsReadFrom text q
    by_address true e = absurd (cc e)
    by_address false e = by_tail text f in_front (tail_of f.rest) refl q e

other_reading : (f : Front) (t : Option Tail) (q : RequirementFields) → reading_with f t ≡ by_url (Some q) → ⊥
other_reading f None q e = cc e
other_reading f (Some t) q e = cc e

same_address : (o : Option RequirementFields) (q : RequirementFields) → by_url o ≡ by_url (Some q) → o ≡ Some q
same_address o q e = ap read_address e

url_front : (text : List ℕ) (o : Option Front) → front_of (text_between is_white text) ≡ o → (q : RequirementFields)
    → reading_behind o ≡ by_url (Some q) → IsReadFrom text q
url_front text None in_front q e = absurd (cc e)
url_front text (Some f) in_front q e = by_address (is_address f.rest) e
  where
    by_address : (b : Bool) → cond b (by_url (address_of f)) (reading_with f (tail_of f.rest)) ≡ by_url (Some q)
        → IsReadFrom text q
    by_address false e = absurd (other_reading f (tail_of f.rest) q e)
    by_address true e =
        let m = bind_some (url_marker (after_all is_blank (drop 1 f.rest))) _ q (same_address (address_of f) q e) in
        record {
          front = f;
          in_front = in_front;
          tail = ([], m.0);
          behind = inr (refl, m.1);
          is = inside (address_with f m.0) q m.2;
        }

-- a requirement that is read is its text's
pub read_from : (text : List ℕ) (q : RequirementFields) → IsRequired (reading_of text) q → IsReadFrom text q
unfolding reading_of
read_from text q (inl e) = by_front text (front_of (text_between is_white text)) refl q e
read_from text q (inr e) = url_front text (front_of (text_between is_white text)) refl q e
