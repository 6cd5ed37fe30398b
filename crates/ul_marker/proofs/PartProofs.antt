-- Laws of the parts of formulas.
use Rattle.std.proofs.Common.{◌≡◌, ◌∙◌, ◌==◌, ◌&&◌, ◌||◌, ℕ, Bool, true, false, not, true≢false, List, [], ◌∷◌, refl, ap, Some, arith}
use Rattle.std.specs.List.{list_all}
use Rattle.std.proofs.lemmas.Bool.{and_from, and_parts}
use Rattle.std.proofs.lemmas.Bool.Decides.{nat_tests}
use Rattle.ul_base.specs.Names.{is_normal_byte, name_of}
use Rattle.ul_base.proofs.ForCallers.{name_is_plain, name_reads_itself}
use Rattle.ul_comparison.specs.Atoms.{has_byte, is_literal, is_literal_byte}
use Rattle.ul_comparison.specs.Formulas.{Formula, extra, python, python_list, text, opaque, all, any, Formulas, none, more}
use Rattle.ul_marker.specs.Parts.{asks_extra, some_asks_extra}
use Rattle.ul_comparison.specs.Truth.{all_hold, any_holds, marker_holds}
use Rattle.ul_comparison.specs.Worlds.{WorldFields}

neither : (a b : Bool) → (a || b) ≡ false → (a ≡ false) × (b ≡ false)
neither true b e = absurd (true≢false e)
neither false b e = (refl, e)

mutual
  -- a formula without a comparison with `extra` has one truth at every extra
  pub truth_is_plain : (f : Formula) (w : WorldFields) (x y : List ℕ) → asks_extra f ≡ false → marker_holds f w x ≡ marker_holds f w y
  truth_is_plain (extra literal equal) w x y e = absurd (true≢false e)
  truth_is_plain (python full clause) w x y e = refl
  truth_is_plain (python_list full versions within) w x y e = refl
  truth_is_plain (text variable literal equal) w x y e = refl
  truth_is_plain (opaque atom positive) w x y e = refl
  truth_is_plain (all fs) w x y e = all_plain fs w x y e
  truth_is_plain (any fs) w x y e = any_plain fs w x y e

  all_plain : (fs : Formulas) (w : WorldFields) (x y : List ℕ) → some_asks_extra fs ≡ false → all_hold fs w x ≡ all_hold fs w y
  all_plain none w x y e = refl
  all_plain (more f fs) w x y e =
      let both = neither (asks_extra f) (some_asks_extra fs) e in
      ap (λ b. b && all_hold fs w x) (truth_is_plain f w x y both.0) ∙ ap (λ b. marker_holds f w y && b) (all_plain fs w x y both.1)

  any_plain : (fs : Formulas) (w : WorldFields) (x y : List ℕ) → some_asks_extra fs ≡ false → any_holds fs w x ≡ any_holds fs w y
  any_plain none w x y e = refl
  any_plain (more f fs) w x y e =
      let both = neither (asks_extra f) (some_asks_extra fs) e in
      ap (λ b. b || any_holds fs w x) (truth_is_plain f w x y both.0) ∙ ap (λ b. marker_holds f w y || b) (any_plain fs w x y both.1)

-- ---- names

normal-literal : (b : ℕ) → is_normal_byte b ≡ true → is_literal_byte b ≡ true
normal-literal b h = grind (arith, nat_tests)

normal-quote : (b : ℕ) → is_normal_byte b ≡ true → (b == 39) ≡ false
normal-quote b h = grind (arith, nat_tests)

all_literal : (bytes : List ℕ) → list_all is_normal_byte bytes ≡ true → list_all is_literal_byte bytes ≡ true
all_literal [] h = refl
all_literal (b ∷ bytes) h =
    let both = and_parts (is_normal_byte b) (list_all is_normal_byte bytes) h in
    and_from (is_literal_byte b) (list_all is_literal_byte bytes) (normal-literal b both.0) (all_literal bytes both.1)

no_quote : (bytes : List ℕ) → list_all is_normal_byte bytes ≡ true → has_byte 39 bytes ≡ false
no_quote [] h = refl
no_quote (b ∷ bytes) h =
    let both = and_parts (is_normal_byte b) (list_all is_normal_byte bytes) h in
    rw (normal-quote b both.0) (no_quote bytes both.1)

-- a normal form of a name can stand in a literal
pub names_are_literals : (spelled name : List ℕ) → name_of spelled ≡ Some name → is_literal name ≡ true
names_are_literals spelled name e =
    let plain = name_is_plain name (name_reads_itself spelled name e) in
    let quote = no_quote name plain.1 in
    and_from (list_all is_literal_byte name) (not (has_byte 39 name && has_byte 34 name)) (all_literal name plain.1) (rw quote refl)
