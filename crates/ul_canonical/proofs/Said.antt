-- What lines say, line by line.
use Rattle.std.proofs.Common.{◌≡◌, ◌∙◌, ◌+◌, ◌∷◌, ◌++◌, ℕ, List, [], true, false, length, refl, sym, ap, append_assoc, append-nil, arith, inl, inr, Option, Some, None, option_map, Result, Ok, Err, IfOk, IfErr}
use Rattle.std.specs.Prelude.{codes}
use Rattle.std.specs.declared.alloc.AllocError.{AllocError}
use Rattle.std.specs.Str.{IsUtf8, bytes_eq, is_utf8}
use Rattle.std.proofs.lemmas.Bool.{cases_Bool}
use Rattle.std.proofs.lemmas.Str.{IsUtf8-from_is_utf8, is_utf8-from_IsUtf8}
use Rattle.ul_comparison.specs.Formulas.{Formula, all, any, none}
use Rattle.ul_lines.specs.Lines.{lines_of}
use Rattle.ul_marker.specs.Reading.{locked_marker_of}
use Rattle.ul_marker.specs.Views.{marker_view}
use Rattle.ul_marker.specs.declared.fault.MarkerFault.{MarkerFault}
use Rattle.ul_marker.specs.declared.fault.MarkerFault.TheVariants.{NoReading, NoMemory}
use Rattle.ul_marker.specs.declared.marker.Marker.{Marker}
use Rattle.ul_canonical.specs.Lines.{formula_of_line, formula_of_text, formulas_from, formulas_of, marker_of_bytes, onto_formulas, with_line}
use Rattle.ul_canonical.specs.Reading.{if_read}

-- ---- texts

-- bytes that are no text say nothing
pub no_text : (b : List ℕ) → (IsUtf8 b → ⊥) → None ≡ marker_of_bytes b
no_text b h = elim (cases_Bool (is_utf8 b)) [
  | inl e ↦ absurd (h (IsUtf8-from_is_utf8 b e))
  | inr e ↦ rw e refl
]

-- what a text spells is what is said
pub text_said : (b : List ℕ) (o : Option Formula) → IsUtf8 b → locked_marker_of b ≡ o → o ≡ marker_of_bytes b
text_said b o u e = rw (is_utf8-from_IsUtf8 b u) (sym e)

-- and so is what is answered of it, by whether it was read
pub read_said : (b text : List ℕ) (read : Result Marker MarkerFault) (out : Result (Option Marker) AllocError) → IsUtf8 b → text ≡ b
    → IfOk read (λ m. locked_marker_of text ≡ Some (marker_view m)) → IfErr read (λ e. e ≡ NoReading → locked_marker_of text ≡ None)
    → out ≡ if_read read → IfOk out (λ m. option_map marker_view m ≡ marker_of_bytes b)
read_said b text (Ok m) out u same went failed is = rw is (text_said b (Some (marker_view m)) u (sym (ap locked_marker_of same) ∙ went))
read_said b text (Err NoReading) out u same went failed is = rw is (text_said b None u (sym (ap locked_marker_of same) ∙ failed refl))
read_said b text (Err NoMemory) out u same went failed is = rw is tt

pub star_said : (b : List ℕ) → bytes_eq b (codes "*") ≡ true → Some (all none) ≡ formula_of_text b
unfolding formula_of_text
star_said b e = rw e refl

pub never_said : (b : List ℕ) → bytes_eq b (codes "*") ≡ false → bytes_eq b (codes "never") ≡ true → Some (any none) ≡ formula_of_text b
unfolding formula_of_text
never_said b e n = rw (e, n) refl

pub other_said : (b : List ℕ) → bytes_eq b (codes "*") ≡ false → bytes_eq b (codes "never") ≡ false → marker_of_bytes b ≡ formula_of_text b
unfolding formula_of_text
other_said b e n = rw (e, n) refl

-- ---- lines

-- formulas before what lines say
abbrev pub behind : List Formula → Result (List Formula) ℕ → Result (List Formula) ℕ
behind fs (Ok gs) = Ok (fs ++ gs)
behind fs (Err n) = Err n

behind_none : (r : Result (List Formula) ℕ) → behind [] r ≡ r
behind_none (Ok gs) = refl
behind_none (Err n) = refl

one_more : (fs : List Formula) (f : Formula) (r : Result (List Formula) ℕ) → behind (fs ++ f ∷ []) r ≡ behind fs (onto_formulas f r)
one_more fs f (Ok gs) = ap (λ xs. Ok xs) (append_assoc fs (f ∷ []) gs)
one_more fs f (Err n) = refl

pub read_start : (bytes : List ℕ) → behind [] (formulas_from 1 (lines_of bytes)) ≡ formulas_of bytes
read_start bytes = behind_none (formulas_of bytes)

pub reads_on : (n : ℕ) (fs : List Formula) (f : Formula) (rest line after : List ℕ) (whole : Result (List Formula) ℕ) → lines_of rest ≡ line ∷ lines_of after → Some f ≡ formula_of_line line
    → behind fs (formulas_from n (lines_of rest)) ≡ whole → behind (fs ++ f ∷ []) (formulas_from (n + 1) (lines_of after)) ≡ whole
unfolding formulas_from
reads_on n fs f rest line after whole cut said so_far =
    let more = formulas_from (n + 1) (lines_of after) in
    one_more fs f more ∙ (ap (λ o. behind fs (with_line n o more)) said ∙ (ap (λ ls. behind fs (formulas_from n ls)) (sym cut) ∙ so_far))

pub reads_wrong : (n : ℕ) (fs : List Formula) (rest line after : List ℕ) (whole : Result (List Formula) ℕ) → lines_of rest ≡ line ∷ lines_of after → None ≡ formula_of_line line
    → behind fs (formulas_from n (lines_of rest)) ≡ whole → whole ≡ Err n
unfolding formulas_from
reads_wrong n fs rest line after whole cut said so_far =
    let more = formulas_from (n + 1) (lines_of after) in
    sym so_far ∙ (ap (λ ls. behind fs (formulas_from n ls)) cut ∙ ap (λ o. behind fs (with_line n o more)) (sym said))

pub reads_end : (n : ℕ) (fs : List Formula) (rest : List ℕ) (whole : Result (List Formula) ℕ) → length rest ≡ 0 → behind fs (formulas_from n (lines_of rest)) ≡ whole → whole ≡ Ok fs
unfolding formulas_from lines_of
reads_end n fs [] whole h so_far = sym so_far ∙ ap (λ xs. Ok xs) (append-nil fs)
reads_end n fs (x ∷ rest) whole h so_far = absurd (omega arith)
