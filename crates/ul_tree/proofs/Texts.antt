-- Bytes of names and literals, and texts that no name or literal reaches.
use Rattle.std.proofs.Common.{◌≡◌, ℕ, ◌<◌, List, [], ◌∷◌, Bool, true, ◌&&◌, refl, ap, ◌∙◌, arith, Greater, inl, inr}
use Rattle.std.proofs.lemmas.Bool.Decides.{nat_tests}
use Rattle.std.specs.Char.{is_ascii}
use Rattle.std.specs.Cmp.{first_so, second_so}
use Rattle.std.specs.List.{list_all}
use Rattle.std.specs.Ordering.{ordering_then}
use Rattle.ul_base.proofs.ForCallers.{name_is_plain}
use Rattle.ul_base.specs.Names.{is_normal_byte}
use Rattle.ul_comparison.specs.Atoms.{is_literal, is_literal_byte}
use Rattle.ul_tree.specs.Laws.{IsAsciiText}
use Rattle.ul_nodes.specs.Levels.{IsExtra}
use Rattle.ul_nodes.specs.Plain.{text_cmp}
use Rattle.ul_nodes.proofs.ForCallers.{cmp_more}

-- bytes below DEL
abbrev pub IsLow : List ℕ → Type 0
IsLow [] = Unit {0}
IsLow (b ∷ bs) = (b < 127) × IsLow bs

normal_low : (b : ℕ) → is_normal_byte b ≡ true → b < 127
normal_low b h = grind (arith, nat_tests)

literal_low : (b : ℕ) → is_literal_byte b ≡ true → b < 127
literal_low b h = grind (arith, nat_tests)

pub low_all : (p : ℕ → Bool) → ((b : ℕ) → p b ≡ true → b < 127) → (k : List ℕ) → list_all p k ≡ true → IsLow k
low_all p f [] h = tt
low_all p f (b ∷ k) h = (f b (first_so (p b) (list_all p k) h), low_all p f k (second_so (p b) (list_all p k) h))

pub extra_low : (k : List ℕ) → IsExtra k → IsLow k
extra_low [] h = tt
extra_low (b ∷ k) (inl e) = cc
extra_low (b ∷ k) (inr e) = low_all is_normal_byte normal_low (b ∷ k) (name_is_plain (b ∷ k) e).1

pub literal_text_low : (k : List ℕ) → is_literal k ≡ true → IsLow k
literal_text_low k h = low_all is_literal_byte literal_low k (first_so (list_all is_literal_byte k) _ h)

low_byte : (b : ℕ) → b < 127 → is_ascii b ≡ true
low_byte b h = grind (arith, nat_tests)

pub low_ascii : (k : List ℕ) → IsLow k → IsAsciiText k
low_ascii [] h = refl
low_ascii (b ∷ k) h = ap (λ t. t && list_all is_ascii k) (low_byte b h.0) ∙ low_ascii k h.1

pub low_over : (k : List ℕ) → IsLow k → text_cmp (127 ∷ []) k ≡ Greater
low_over [] h = refl
low_over (b ∷ k) h = ap (λ o. ordering_then o (text_cmp [] k)) (cmp_more 127 b h.0)
