-- What a parse of a word says of the number that the word is.
use Rattle.std.proofs.Common.{◌≡◌, ℕ, ◌<◌, ◌≤◌, ◌^◌, List, [], ◌∷◌, length, Bool, true, false, nat_le, ◌&&◌, Ok, Err, Some, refl, sym, ◌∙◌, rules, arith, inl, inr}
use Rattle.std.proofs.lemmas.Bool.{and_left, and_right, leb-true, lt-leb, cases_lt}
use Rattle.std.proofs.lemmas.Str.Parse.{IsNumeralModel, numerals_by_value, parse_digits}
use Rattle.std.specs.Char.{is_ascii_digit}
use Rattle.std.specs.List.{list_all}
use Rattle.std.specs.Str.Parse.{digits_value, ParsesUnsigned}
use Rattle.ul_program.specs.Words.{leads_well, is_decimal, is_number_in, number_in}

own : IsNumeralModel (λ ds. list_all is_ascii_digit ds ≡ true) (digits_value 10)
own = numerals_by_value _ (search rules)

left_true : (a b : Bool) → (a && b) ≡ true → a ≡ true
left_true true b h = refl
left_true false b h = cc

right_true : (a b : Bool) → (a && b) ≡ true → b ≡ true
right_true true b h = h
right_true false b h = cc

filled : (word : List ℕ) → leads_well word ≡ true → 0 < length word
filled [] h = cc
filled (b ∷ bs) h = omega arith

pub not_decimal : (low high : ℕ) (word : List ℕ) → is_decimal word ≡ false → is_number_in low high word ≡ false
unfolding is_number_in
not_decimal low high word h = and_left _ _ h

pub parsed : (E : Type 0) (low high n : ℕ) (word : List ℕ) → is_decimal word ≡ true → ParsesUnsigned {E = E} 64 10 word (Ok n) → (nat_le low n && nat_le n high) ≡ is_number_in low high word
unfolding is_number_in
parsed E low high n word h p =
    let told = parse_digits own {E = E} 64 word (Ok n) p (left_true _ _ h) in
    rw (h, told.1) refl

over : (v high : ℕ) → high < 2 ^ 64 → (v < 2 ^ 64 → ⊥) → high < v
over v high fits no_less = elim (cases_lt v (2 ^ 64)) [ inl less ↦ absurd (no_less less) | inr more ↦ omega arith ]

pub unparsed : (E : Type 0) (low high : ℕ) (e : E) (word : List ℕ) → high < 2 ^ 64 → is_decimal word ≡ true → ParsesUnsigned {E = E} 64 10 word (Err e) → is_number_in low high word ≡ false
unfolding is_number_in
unparsed E low high e word fits h p =
    let told = parse_digits own {E = E} 64 word (Err e) p (left_true _ _ h) in
    and_right _ _ (and_right _ _ (lt-leb _ _ (over (digits_value 10 word) high fits λ below. told (filled word (right_true _ _ h), below))))

nat_le_is : (a b : ℕ) → nat_le a b ≡ true → a ≤ b
nat_le_is a b h = leb-true a b h

-- what parses as a number in these bounds is that of the word
pub number_parsed : (E : Type 0) (low high n : ℕ) (word : List ℕ) → is_number_in low high word ≡ true → ParsesUnsigned {E = E} 64 10 word (Ok n)
    → (number_in low high word ≡ Some n) × (low ≤ n) × (n ≤ high)
unfolding is_number_in
number_parsed E low high n word h p =
    let told = parse_digits own {E = E} 64 word (Ok n) p (left_true _ _ (left_true _ _ h)) in
    let value : n ≡ digits_value 10 word = told.1 in
    let range : (nat_le low n && nat_le n high) ≡ true = rw value (right_true _ _ h) in
    (rw (h, ← value) refl, nat_le_is low n (left_true _ _ range), nat_le_is n high (right_true _ _ range))

-- a number below 2^64 parses
pub number_unparsed : (E : Type 0) (low high : ℕ) (e : E) (word : List ℕ) → high < 2 ^ 64 → is_number_in low high word ≡ true → ParsesUnsigned {E = E} 64 10 word (Err e) → ⊥
unfolding is_number_in
number_unparsed E low high e word fits h p =
    let none = unparsed E low high e word fits (left_true _ _ h) p in
    let both : true ≡ false = sym h ∙ none in absurd (cc)
