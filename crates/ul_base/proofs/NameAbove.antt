-- Above each name there is a greater one.
use Rattle.std.proofs.Common.{◌≡◌, ℕ, ◌-◌, length, List, [], ◌∷◌, ◌++◌, Bool, true, false, cond, ◌&&◌, refl, sym, ap, ◌∙◌, arith}
use Rattle.std.specs.Prelude.{slice_index}
use Rattle.std.specs.Cmp.{first_so, second_so}
use Rattle.std.specs.Cmp.Lexicographic.{nat_list_cmp_total}
use Rattle.std.specs.Char.{is_ascii_alphanumeric, to_ascii_lowercase}
use Rattle.std.specs.Str.{str_to_ascii_lowercase}
use Rattle.std.specs.Ordering.{ordering_then, nat_cmp}
use Rattle.std.specs.declared.cmp.Ordering.{Ordering}
use Rattle.std.specs.declared.cmp.Ordering.TheVariants.{Less, Equal, Greater}
use Rattle.std.proofs.lemmas.Cmp.{tied_itself}
use Rattle.std.proofs.lemmas.List.{length-append}
use Rattle.std.proofs.lemmas.List.Folds.{list_all-append}
use Rattle.ul_base.specs.Names.{IsNormalName, name_of, is_name, is_name_byte, is_separator, has_ends, single_hyphens, leads_with_separator, normal_form, name_cmp, name_above}
use Rattle.ul_base.proofs.Names.{name_reads, name-is_name, name-normal_form}

last_of : (t : List ℕ) (x : ℕ) → slice_index (t ++ x ∷ []) (length t) ≡ x
last_of [] x = refl
last_of (c ∷ t) x = last_of t x

at_end : (t : List ℕ) (x : ℕ) → slice_index (t ++ x ∷ []) (length (t ++ x ∷ []) - 1) ≡ x
at_end t x = ap (slice_index (t ++ x ∷ [])) (omega (arith, length-append t (x ∷ []))) ∙ last_of t x

ends_above : (c : ℕ) (t : List ℕ) → has_ends (c ∷ t) ≡ true → has_ends ((c ∷ t) ++ 48 ∷ []) ≡ true
ends_above c t h = ap (λ z. z && is_ascii_alphanumeric (slice_index ((c ∷ t) ++ 48 ∷ []) (length ((c ∷ t) ++ 48 ∷ []) - 1))) (first_so _ _ h) ∙ ap is_ascii_alphanumeric (at_end (c ∷ t) 48)

leads_above : (t : List ℕ) → leads_with_separator (t ++ 48 ∷ []) ≡ leads_with_separator t
leads_above [] = refl
leads_above (c ∷ t) = refl

collapsed_above : (t : List ℕ) → single_hyphens (t ++ 48 ∷ []) ≡ single_hyphens t ++ 48 ∷ []
collapsed_above [] = refl
collapsed_above (c ∷ t) = rw (leads_above t, collapsed_above t) (by_cases (is_separator c) (leads_with_separator t))
  where
    by_cases : (a b : Bool) → cond a (cond b (single_hyphens t ++ 48 ∷ []) (45 ∷ (single_hyphens t ++ 48 ∷ []))) (c ∷ (single_hyphens t ++ 48 ∷ [])) ≡ cond a (cond b (single_hyphens t) (45 ∷ single_hyphens t)) (c ∷ single_hyphens t) ++ 48 ∷ []
    by_cases true true = refl
    by_cases true false = refl
    by_cases false b = refl

lowercase_above : (t : List ℕ) → str_to_ascii_lowercase (t ++ 48 ∷ []) ≡ str_to_ascii_lowercase t ++ 48 ∷ []
lowercase_above [] = refl
lowercase_above (c ∷ t) = ap (λ z. to_ascii_lowercase c ∷ z) (lowercase_above t)

form_above : (t : List ℕ) → normal_form (t ++ 48 ∷ []) ≡ normal_form t ++ 48 ∷ []
unfolding normal_form
form_above t = ap str_to_ascii_lowercase (collapsed_above t) ∙ lowercase_above (single_hyphens t)

-- what stands above a name is a name
pub above_is_name : (n : List ℕ) → IsNormalName n → IsNormalName (name_above n)
unfolding name_above name_of is_name
above_is_name [] h = absurd cc
above_is_name (c ∷ t) h =
    let k : is_name (c ∷ t) ≡ true = name-is_name (c ∷ t) (c ∷ t) h in
    name_reads ((c ∷ t) ++ 48 ∷ []) ((c ∷ t) ++ 48 ∷ []) (ends_above c t (first_so _ _ k))
    (list_all-append is_name_byte (c ∷ t) (48 ∷ []) ∙ ap (λ z. z && true) (second_so _ _ k))
    (sym (form_above (c ∷ t) ∙ ap (λ z. z ++ 48 ∷ []) (name-normal_form (c ∷ t) (c ∷ t) h)))

longer_is_more : (t : List ℕ) (x : ℕ) → name_cmp t (t ++ x ∷ []) ≡ Less
longer_is_more [] x = refl
longer_is_more (c ∷ t) x = ap (λ o. ordering_then o (name_cmp t (t ++ x ∷ []))) (self c) ∙ longer_is_more t x
  where
    self : (c : ℕ) → nat_cmp c c ≡ Equal
    self c = first_same (nat_cmp c c) (tied_itself nat_list_cmp_total (c ∷ []))
      where
        first_same : (o : Ordering) → ordering_then o Equal ≡ Equal → o ≡ Equal
        first_same Less e = absurd cc
        first_same Equal e = refl
        first_same Greater e = absurd cc

-- a name is less than the one above it
pub name_below : (n : List ℕ) → name_cmp n (name_above n) ≡ Less
unfolding name_above
name_below n = longer_is_more n 48
