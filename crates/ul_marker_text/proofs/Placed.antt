-- Comparisons of a tree's paths, as they are printed.
use Rattle.std.proofs.Common.{◌≡◌, ℕ, zero, suc, ◌<◌, ◌^◌, List, [], ◌∷◌, Bool, true, false, refl, ap, sym, ◌∙◌, arith, Some, inl, inr}
use Rattle.ul_base.specs.Names.{is_name, name_of}
use Rattle.ul_comparison.specs.Atoms.{is_text, text_number}
use Rattle.ul_comparison.specs.Formulas.{IsExtraLiteral}
use Rattle.ul_comparison.specs.Printed.{IsComparison}
use Rattle.ul_marker.proofs.ForCallers.{names_are_literals}
use Rattle.ul_tree.specs.Comparisons.{Comparison, at_least, below, equals, differs}
use Rattle.ul_nodes.specs.Levels.{IsKey, IsExtra}
use Rattle.ul_nodes.specs.Plain.{carries}
use Rattle.ul_tree.proofs.ForCallers.{number_back, level_back, atom_found}
use Rattle.ul_marker_text.specs.MarkerText.{text_variable, key_comparison, printed_form}
use Rattle.ul_marker_text.specs.Rows.{comparison_asked, has_key_comparison}

-- a comparison that a reduced tree may have
abbrev pub GoodComparison : Comparison → Type 0
GoodComparison (at_least n) = (0 < n) × (n < 2 ^ 96)
GoodComparison (below n) = (0 < n) × (n < 2 ^ 96)
GoodComparison (equals l k) = (carries l ≡ false) × IsKey l k
GoodComparison (differs l k) = (carries l ≡ false) × IsKey l k

pub variable_place : (i : ℕ) → i < 8 → text_number (text_variable i) ≡ i
variable_place zero h = refl
variable_place (suc zero) h = refl
variable_place (suc (suc zero)) h = refl
variable_place (suc (suc (suc zero))) h = refl
variable_place (suc (suc (suc (suc zero)))) h = refl
variable_place (suc (suc (suc (suc (suc zero))))) h = refl
variable_place (suc (suc (suc (suc (suc (suc zero)))))) h = refl
variable_place (suc (suc (suc (suc (suc (suc (suc n))))))) h = omega arith

is_variable : (i : ℕ) → is_text (text_variable i) ≡ true
is_variable zero = refl
is_variable (suc zero) = refl
is_variable (suc (suc zero)) = refl
is_variable (suc (suc (suc zero))) = refl
is_variable (suc (suc (suc (suc zero)))) = refl
is_variable (suc (suc (suc (suc (suc zero))))) = refl
is_variable (suc (suc (suc (suc (suc (suc zero)))))) = refl
is_variable (suc (suc (suc (suc (suc (suc (suc n))))))) = refl

key_placed : (equal : Bool) (l k : List ℕ) → carries l ≡ false → IsKey l k → comparison_asked (key_comparison equal l k) ≡ has_key_comparison equal l k
key_placed equal [] k m h = absurd h
key_placed equal (zero ∷ []) k m h = refl
key_placed equal (suc zero ∷ []) k m h = let q : true ≡ false = m in absurd cc
key_placed equal (suc (suc i) ∷ []) k m h = ap (λ n. has_key_comparison equal (suc (suc n) ∷ []) k) (variable_place i h.0)
key_placed equal (a ∷ b ∷ rest) k m h =
    ap (λ l. has_key_comparison equal l (1 ∷ [])) (level_back (a ∷ b ∷ rest) h.0) ∙ ap (has_key_comparison equal (a ∷ b ∷ rest)) (sym h.1)

-- a printed comparison asks what it is printed for
pub placed_back : (c : Comparison) → GoodComparison c → comparison_asked (printed_form c) ≡ c
placed_back (at_least n) h = ap at_least (number_back n h.1)
placed_back (below n) h = ap below (number_back n h.1)
placed_back (equals l k) h = key_placed true l k h.0 h.1
placed_back (differs l k) h = key_placed false l k h.0 h.1

extra_literal : (k : List ℕ) → IsExtra k → IsExtraLiteral k
unfolding name_of is_name
extra_literal [] (inl e) = (refl, λ name q. cc)
extra_literal (b ∷ k) (inl e) = absurd cc
extra_literal k (inr e) = (names_are_literals k k e, λ name q. let p : Some name ≡ Some k = sym q ∙ e in cc)

key_printed : (equal : Bool) (l k : List ℕ) → carries l ≡ false → IsKey l k → IsComparison (key_comparison equal l k)
key_printed equal [] k m h = absurd h
key_printed equal (zero ∷ []) k m h = extra_literal k h
key_printed equal (suc zero ∷ []) k m h = let q : true ≡ false = m in absurd cc
key_printed equal (suc (suc i) ∷ []) k m h = (is_variable i, h.1)
key_printed equal (a ∷ b ∷ rest) k m h = atom_found (a ∷ b ∷ rest) h.0

-- it is one that a marker can have
pub printed_is : (c : Comparison) → GoodComparison c → IsComparison (printed_form c)
printed_is (at_least n) h = (omega arith, omega arith, omega arith)
printed_is (below n) h = (omega arith, omega arith, omega arith)
printed_is (equals l k) h = key_printed true l k h.0 h.1
printed_is (differs l k) h = key_printed false l k h.0 h.1
