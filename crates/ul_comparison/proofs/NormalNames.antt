-- Texts that are their own normal form: neither capital letters nor another separator than single hyphens.
use Rattle.std.proofs.Common.{◌≡◌, ◌∙◌, ◌≤◌, ◌<◌, ◌==◌, ◌&&◌, ◌||◌, ℕ, not, Bool, true, false, List, [], ◌∷◌, length, refl, sym, ap, arith, inl, inr, Some}
use Rattle.std.proofs.lemmas.Bool.{cases_Bool}
use Rattle.std.proofs.lemmas.Bool.Decides.{nat_tests}
use Rattle.std.proofs.lemmas.Slice.Eq.{bytes_eq-Decides}
use Rattle.std.specs.Char.{is_ascii_uppercase, to_ascii_lowercase}
use Rattle.std.specs.Cmp.{first_so, second_so}
use Rattle.std.specs.Str.{bytes_eq, str_to_ascii_lowercase}
use Rattle.ul_base.specs.Names.{is_name, is_separator, leads_with_separator, name_of, normal_form, single_hyphens}
use Rattle.ul_base.proofs.ForCallers.{bytes_eq-same, name-is_name, name-normal_form}
use Rattle.ul_comparison.specs.Atoms.{is_normal_name}

-- a byte that stands in no normal form: another separator than the hyphen, or a capital letter
abbrev pub is_unfit : ℕ → Bool
is_unfit b = b == 46 || (b == 95 || is_ascii_uppercase b)

-- whether a text, behind a hyphen or not, has neither such a byte nor two hyphens in a row
abbrev pub is_form : Bool → List ℕ → Bool
is_form hyphen [] = true
is_form hyphen (b ∷ bs) = not (is_unfit b) && (not (b == 45 && hyphen) && is_form (b == 45) bs)

-- behind a hyphen no separator may lead
leads_not : (b : ℕ) (r : Bool)
    → (not (is_unfit b) && (not (b == 45 && true) && r)) ≡ (not (is_separator b) && (not (is_unfit b) && (not (b == 45 && false) && r)))
leads_not b true = grind (arith, nat_tests)
leads_not b false = grind (arith, nat_tests)

behind_hyphen : (bs : List ℕ) → is_form true bs ≡ (not (leads_with_separator bs) && is_form false bs)
behind_hyphen [] = refl
behind_hyphen (b ∷ bs) = leads_not b (is_form (b == 45) bs)

-- a normal form is no longer than its text
shorter : (bs : List ℕ) → length (str_to_ascii_lowercase (single_hyphens bs)) ≤ length bs
shorter [] = omega arith
shorter (b ∷ bs) = elim (cases_Bool (is_separator b)) [
  | inl separates ↦ (elim (cases_Bool (leads_with_separator bs)) [
    | inl leads ↦ let h = shorter bs in rw (separates, leads) (omega arith)
    | inr other ↦ let h = shorter bs in rw (separates, other) (omega arith)
  ])
  | inr letter ↦ let h = shorter bs in rw letter (omega arith)
]

-- a text that is shorter than another isn't the other
no_text : (xs ys : List ℕ) → length xs < length ys → bytes_eq xs ys ≡ false
no_text xs ys h = elim (cases_Bool (bytes_eq xs ys)) [
  | inl same ↦ let e : length xs ≡ length ys = ap length ((bytes_eq-Decides xs ys).0 same) in absurd (omega arith)
  | inr other ↦ other
]

of_letter : (b : ℕ) (r : Bool) → is_separator b ≡ false
    → (not (is_unfit b) && (not (b == 45 && false) && r)) ≡ (to_ascii_lowercase b == b && r)
of_letter b true h = grind (arith, nat_tests)
of_letter b false h = grind (arith, nat_tests)

of_separator : (b : ℕ) (r : Bool) → is_separator b ≡ true
    → (not (is_unfit b) && (not (b == 45 && false) && r)) ≡ (45 == b && r)
of_separator b true h = grind (arith, nat_tests)
of_separator b false h = grind (arith, nat_tests)

not_letter : (b : ℕ) → is_separator b ≡ false → (b == 45) ≡ false
not_letter b h = grind (arith, nat_tests)

unequal : (b : ℕ) → (b == 45) ≡ false → (45 == b) ≡ false
unequal b h = grind (arith, nat_tests)

equal : (b : ℕ) → (b == 45) ≡ true → (45 == b) ≡ true
equal b h = grind (arith, nat_tests)

unfit : (b : ℕ) → is_separator b ≡ true → (b == 45) ≡ false → is_unfit b ≡ true
unfit b h n = grind (arith, nat_tests)

not_and_false : (x : Bool) → (x && false) ≡ false
not_and_false true = refl
not_and_false false = refl

not_false_and : (b : Bool) → not (b && false) ≡ true
not_false_and true = refl
not_false_and false = refl

-- before another separator none stands
twice : (b : ℕ) (bs : List ℕ) → is_separator b ≡ true → leads_with_separator bs ≡ true → is_form false (b ∷ bs) ≡ false
twice b bs separates leads = elim (cases_Bool (b == 45)) [
  | inl hyphen ↦
      let none : is_form (b == 45) bs ≡ false = ap (λ h. is_form h bs) hyphen ∙ behind_hyphen bs ∙ ap (λ l. not l && is_form false bs) leads in
      rw (none, not_and_false (not (b == 45 && false))) (not_and_false (not (is_unfit b)))
  | inr other ↦ rw (unfit b separates other) refl
]

-- such a text is its own normal form, and no other is
pub form_is : (text : List ℕ) → is_form false text ≡ bytes_eq (normal_form text) text
unfolding normal_form
form_is [] = refl
form_is (b ∷ bs) = elim (cases_Bool (is_separator b)) [
  | inl separates ↦ (elim (cases_Bool (leads_with_separator bs)) [
    | inl leads ↦
        let short : length (str_to_ascii_lowercase (single_hyphens bs)) < length (b ∷ bs) = let h = shorter bs in omega arith in
        rw (separates, leads) (twice b bs separates leads ∙ sym (no_text (str_to_ascii_lowercase (single_hyphens bs)) (b ∷ bs) short))
    | inr other ↦ rw (separates, other) (of_separator b (is_form (b == 45) bs) separates ∙ (elim (cases_Bool (b == 45)) as (λ _. (45 == b && is_form (b == 45) bs) ≡ (45 == b && bytes_eq (str_to_ascii_lowercase (single_hyphens bs)) bs)) [
      | inl hyphen ↦ ap (λ r. 45 == b && r) (ap (λ h. is_form h bs) hyphen ∙ behind_hyphen bs ∙ ap (λ l. not l && is_form false bs) other ∙ form_is bs)
      | inr letter ↦ rw (unequal b letter) refl
    ]))
  ])
  | inr letter ↦ rw letter (of_letter b (is_form (b == 45) bs) letter ∙ ap (λ r. to_ascii_lowercase b == b && r) (ap (λ h. is_form h bs) (not_letter b letter) ∙ form_is bs))
]

-- it reads as itself
pub normal_if : (text : List ℕ) → is_normal_name text ≡ true → name_of text ≡ Some text
unfolding is_normal_name name_of
normal_if text h =
    let named : is_name text ≡ true = first_so (is_name text) (bytes_eq (normal_form text) text) h in
    let same : normal_form text ≡ text = (bytes_eq-Decides (normal_form text) text).0 (second_so (is_name text) (bytes_eq (normal_form text) text) h) in
    rw named (ap Some same)

-- and what reads as itself is a name in its normal form
pub normal_then : (text : List ℕ) → name_of text ≡ Some text → is_normal_name text ≡ true
unfolding is_normal_name
normal_then text h = rw (name-is_name text text h, name-normal_form text text h) (bytes_eq-same text)
