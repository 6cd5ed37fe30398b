-- What is known of the parts of a tree that were looked at.
use Rattle.std.proofs.Common.{◌≡◌, ℕ, Bool, true, false, ◌+◌, ◌<◌, ◌≤◌, List, length, refl, sym, ap, ◌∙◌, subst, arith}
use Rattle.std.specs.Prelude.{Some, None, IsTrue, ◌&&◌}
use Rattle.std.specs.Bool.{OnTrue, OnFalse}
use Rattle.std.specs.List.{slice_get}
use Rattle.std.proofs.lemmas.Option.{slice_get_past}
use mathlib.Core.Logic.{dite}
use native.Mathlib.Decide.{ℕ_discrete, dec_lt}
use Rattle.ul_core.specs.declared.trees.Tree.{Tree}
use Rattle.ul_core.specs.Trees.{Has}

-- what isn't true is false
pub not_true : (b : Bool) → b ≡ false → IsTrue b → ⊥
not_true b e t = grind arith

module _ {L : Type 0} (P : Tree L → Type 0) (parts : List (Tree L)) where
  -- it holds of the parts before place n
  abbrev pub AllBefore : ℕ → Type 0
  AllBefore n = (i : ℕ) (t : Tree L) → i < n → slice_get parts i ≡ Some t → P t

  some_is : (s t : Tree L) → Some s ≡ Some t → s ≡ t
  some_is s t e = cc

  none_not : (t : Tree L) → None ≡ Some t → ⊥
  none_not t e = cc

  -- it holds of one part more
  pub all_more : (b : Bool) (n : ℕ) (x : Tree L) → slice_get parts n ≡ Some x → P x → OnTrue b (AllBefore n) → OnTrue b (AllBefore (n + 1))
  all_more true n x here holds before = λ i t low at.
      dite (ℕ_discrete i n)
      (λ is. subst P (some_is x t (sym here ∙ (ap (slice_get parts) (sym is) ∙ at))) holds)
      (λ apart. before i t (omega (arith, low, apart)) at)
  all_more false n x here holds before = before

  -- it holds of one part more, if that was found
  pub both_all : (b found : Bool) (n : ℕ) (x : Tree L) → slice_get parts n ≡ Some x → (IsTrue found → P x) → OnTrue b (AllBefore n) → OnTrue (b && found) (AllBefore (n + 1))
  both_all true true n x here holds before = all_more true n x here (holds refl) before
  both_all true false n x here holds before = tt
  both_all false found n x here holds before = tt

  -- it does not hold of some part, if not of one before or not of this one
  pub both_some : (b found : Bool) (n : ℕ) (x : Tree L) → slice_get parts n ≡ Some x → (P x → IsTrue found) → OnFalse b ((t : Tree L) × Has parts t × ¬ P t) → OnFalse (b && found) ((t : Tree L) × Has parts t × ¬ P t)
  both_some true true n x here holds before = before
  both_some true false n x here holds before = (x, (n, here), λ h. not_true false refl (holds h))
  both_some false found n x here holds before = before

  -- it holds of all parts
  pub all_of : (b : Bool) (n : ℕ) → length parts ≤ n → OnTrue b (AllBefore n) → OnTrue b ((t : Tree L) → Has parts t → P t)
  all_of true n end before = λ t h.
      dite (dec_lt h.0 n)
      (λ low. before h.0 t low h.1)
      (λ past. absurd (none_not t (sym (slice_get_past parts h.0 (omega (arith, end, past))) ∙ h.1)))
  all_of false n end before = before
