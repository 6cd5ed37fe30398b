-- What `parse` reads, and the numbers of Python's version.
use Rattle.std.proofs.Common.{◌≡◌, ℕ, ◌<◌, ◌^◌, List, [], ◌∷◌, length, get_or, true, false, None, Result, Ok, Err, refl, arith}
use Rattle.std.proofs.lemmas.Bool.Decides.{nat_tests}
use Rattle.std.proofs.lemmas.Str.Parse.{IsNumeralModel, numerals_by_value, tells_all_ascii_digits, parse_plain}
use Rattle.std.specs.Prelude.{Bool, ◌&&◌, nat_lt}
use Rattle.std.specs.Result.{OkIff, result_ok}
use Rattle.std.specs.Str.{all_ascii_digits}
use Rattle.std.specs.Str.Parse.{ParsesUnsigned, digits_value}
use Rattle.ul_comparison.specs.Triples.{number_of}

own : IsNumeralModel (λ ds. all_ascii_digits ds ≡ true) (digits_value 10)
own = numerals_by_value _ tells_all_ascii_digits

abbrev is_number : List ℕ → Bool
is_number digits = all_ascii_digits digits && (nat_lt 0 (length digits) && nat_lt (digits_value 10 digits) (2 ^ 32))

is_number-yes : (bs : List ℕ) → all_ascii_digits bs ≡ true → 0 < length bs → digits_value 10 bs < 2 ^ 32 → is_number bs ≡ true
is_number-yes bs digits some small = rw digits (grind (arith, nat_tests))

is_number-no : (bs : List ℕ) → ((all_ascii_digits bs ≡ true) × (0 < length bs) × (digits_value 10 bs < 2 ^ 32) → ⊥) → is_number bs ≡ false
is_number-no bs not_one = grind (arith, nat_tests)

read_as : {E : Type 0} (bs : List ℕ) (r : Result ℕ E) → OkIff r ((all_ascii_digits bs ≡ true) × (0 < length bs) × (digits_value 10 bs < 2 ^ 32)) (digits_value 10 bs) → result_ok r ≡ number_of bs
unfolding number_of
read_as bs (Ok n) h = rw (is_number-yes bs h.0.0 h.0.1 h.0.2, h.1)
read_as bs (Err e) h = rw (is_number-no bs h)

-- what `parse` reads of a text without a plus
pub number_of-parse : {E : Type 0} (bs : List ℕ) (r : Result ℕ E) → ParsesUnsigned 32 10 bs r → (get_or bs 0 0 ≡ 43 → ⊥) → result_ok r ≡ number_of bs
number_of-parse bs r h plain = read_as bs r (parse_plain own 32 bs r h plain)

-- a text with a plus is no number
pub number_of-plus : (bs : List ℕ) → get_or bs 0 0 ≡ 43 → number_of bs ≡ None
unfolding number_of
number_of-plus [] h = absurd (omega arith)
number_of-plus (b ∷ bs) h = rw h refl

-- no digits, no number
pub number_of_none : number_of [] ≡ None
unfolding number_of
number_of_none = refl
