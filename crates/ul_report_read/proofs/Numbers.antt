-- What a parse of digits says of their number.
use Rattle.std.proofs.Common.{◌≡◌, ℕ, ◌<◌, ◌^◌, List, [], ◌∷◌, length, Bool, true, false, cond, Ok, Err, Some, None, refl, sym, ap, ◌∙◌, rules, arith}
use Rattle.std.specs.Prelude.{nat_lt}
use Rattle.std.specs.Char.{is_ascii, is_ascii_digit}
use Rattle.std.specs.Cmp.{first_so, second_so}
use Rattle.std.specs.List.{list_all}
use Rattle.std.specs.Str.Parse.{digits_value, ParsesUnsigned}
use Rattle.std.proofs.lemmas.Bool.{lt-ltb, ltb-true}
use Rattle.std.proofs.lemmas.Bool.Decides.{nat_tests}
use Rattle.std.proofs.lemmas.Str.Parse.{IsNumeralModel, numerals_by_value, parse_digits}
use Rattle.ul_report_read.specs.Tokens.{is_decimal, leads_well, value_at}
use Rattle.ul_report_read.proofs.Cutting.{all_weaker}

own : IsNumeralModel (λ ds. list_all is_ascii_digit ds ≡ true) (digits_value 10)
own = numerals_by_value _ (search rules)

digit_is_ascii : (c : ℕ) → is_ascii_digit c ≡ true → is_ascii c ≡ true
digit_is_ascii c h = grind (arith, nat_tests)

filled : (t : List ℕ) → leads_well t ≡ true → 0 < length t
filled [] h = absurd cc
filled (b ∷ t) h = omega arith

-- digits are ASCII
pub decimal_ascii : (t : List ℕ) → is_decimal t ≡ true → list_all is_ascii t ≡ true
decimal_ascii t h = all_weaker is_ascii_digit is_ascii digit_is_ascii t (first_so _ _ h)

-- what was parsed is the number
pub parsed : (E : Type 0) (n : ℕ) (t : List ℕ) → is_decimal t ≡ true → ParsesUnsigned {E = E} 64 10 t (Ok n) → Some n ≡ value_at t
parsed E n t h p =
    let told = parse_digits own {E = E} 64 t (Ok n) p (first_so _ _ h) in
    by_value n (digits_value 10 t) told.1 told.0.1
  where
    by_value : (n v : ℕ) → n ≡ v → v < 2 ^ 64 → Some n ≡ cond (nat_lt v (2 ^ 64)) (Some v) None
    by_value n v e l = ap (λ (m : ℕ). Some m) e ∙ sym (ap (λ b. cond b (Some v) None) (lt-ltb v (2 ^ 64) l))

-- what wasn't is too large
pub unparsed : (E : Type 0) (e : E) (t : List ℕ) → is_decimal t ≡ true → ParsesUnsigned {E = E} 64 10 t (Err e) → None ≡ value_at t
unparsed E e t h p =
    let told = parse_digits own {E = E} 64 t (Err e) p (first_so _ _ h) in
    by_test (nat_lt (digits_value 10 t) (2 ^ 64)) refl (λ below. told (filled t (second_so _ _ h), below))
  where
    by_test : (b : Bool) → nat_lt (digits_value 10 t) (2 ^ 64) ≡ b → (digits_value 10 t < 2 ^ 64 → ⊥) → None ≡ cond b (Some (digits_value 10 t)) None
    by_test true q small = absurd (small (ltb-true (digits_value 10 t) (2 ^ 64) q))
    by_test false q small = refl
