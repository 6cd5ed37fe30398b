-- The lines of a sheet's text.
use Rattle.std.proofs.Common.{◌≡◌, ◌∙◌, ℕ, List, [], ◌∷◌, ◌++◌, map, length, Bool, true, false, cond, eqb, refl, sym, ap, arith}
use Rattle.std.specs.Prelude.{flat_map, ◌==◌}
use Rattle.std.proofs.lemmas.Bool.{eqb-true}
use Rattle.std.proofs.lemmas.Grind.{common_steps}
use Rattle.ul_lines.specs.Lines.{onto_first, lines_of, ends_line}
use Rattle.ul_lines.specs.Reader.{Each}
use Rattle.ul_lock_lines.specs.declared.lines.Line.{Line}
use Rattle.ul_lock_lines.specs.Text.{Fit, spell}
use Rattle.ul_lock_lines.proofs.ForCallers.{line_ends}
use Rattle.ul_lock_write.specs.declared.sheets.Sheet.{Sheet}
use Rattle.ul_lock_write.specs.Sheet.{sheet_lines}
use Rattle.ul_lock_write.specs.Texts.{sheet_text}
use Rattle.ul_lock_read.specs.ShapedTexts.{AreShaped, IsText}

nil_by : (xs : List ℕ) → (length xs == 0) ≡ true → xs ≡ []
nil_by [] h = refl
nil_by (x ∷ xs) h = absurd (grind (arith, common_steps))

cut_by : (x : ℕ) (a b : List ℕ) (t : Bool) → eqb x 10 ≡ t → cond t (length a == 0) (ends_line a) ≡ true → (ends_line a ≡ true → lines_of (a ++ b) ≡ a ∷ lines_of b)
    → cond t ((10 ∷ []) ∷ lines_of (a ++ b)) (onto_first x (lines_of (a ++ b))) ≡ (x ∷ a) ∷ lines_of b
cut_by x a b true q h again =
    let k : x ≡ 10 = eqb-true x 10 q in
    let n : a ≡ [] = nil_by a h in
    ap (λ z. (10 ∷ []) ∷ lines_of (z ++ b)) n ∙ (ap (λ z. (z ∷ []) ∷ lines_of b) (sym k) ∙ ap (λ z. (x ∷ z) ∷ lines_of b) (sym n))
cut_by x a b false q h again = ap (onto_first x) (again h)

-- a line in front is the first line
lines_cut : (a b : List ℕ) → ends_line a ≡ true → lines_of (a ++ b) ≡ a ∷ lines_of b
unfolding lines_of
lines_cut [] b h = absurd cc
lines_cut (x ∷ a) b h = cut_by x a b (eqb x 10) refl h (lines_cut a b)

lines_nil : lines_of [] ≡ []
unfolding lines_of
lines_nil = refl

lines_spelt : (ls : List Line) → Each Fit ls → lines_of (flat_map spell ls) ≡ map spell ls
lines_spelt [] k = lines_nil
lines_spelt (l ∷ ls) k = lines_cut (spell l) (flat_map spell ls) (line_ends l k.0) ∙ ap (λ z. spell l ∷ z) (lines_spelt ls k.1)

-- the lines of a sheet's text are those of a shaped text
pub shaped_lines : (text : List ℕ) (x : Sheet) → IsText x → sheet_text x ≡ text → AreShaped (lines_of text)
shaped_lines text x h e = (x, h, sym (lines_spelt (sheet_lines x) h.fit) ∙ ap lines_of e)
