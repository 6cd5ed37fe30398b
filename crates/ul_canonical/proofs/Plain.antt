-- What lines say is such as a text can spell, and asks for no extra.
use Rattle.std.proofs.Common.{◌≡◌, ◌<◌, ◌+◌, ◌∷◌, ◌∙◌, ℕ, List, [], Bool, true, false, cond, get_or, length, map, refl, sym, ap, subst, Option, Some, None, Result, Ok, Err}
use Rattle.std.specs.Prelude.{codes}
use Rattle.std.specs.Str.{bytes_eq, is_utf8}
use Rattle.std.proofs.lemmas.List.Elements.{All-cons, All-nil}
use Rattle.ul_base.proofs.ForCallers.{at_map, long_map}
use Rattle.ul_comparison.specs.Formulas.{Formula, all, any, none}
use Rattle.ul_lines.specs.Pieces.{cut_end}
use Rattle.ul_lines.proofs.ForCallers.{bind_some, some_is}
use Rattle.ul_marker.specs.Reading.{locked_marker_of}
use Rattle.ul_marker.specs.Views.{marker_view}
use Rattle.ul_marker.specs.declared.marker.Marker.{Marker}
use Rattle.ul_marker.proofs.ForCallers.{dialects_agree, printed-formula}
use Rattle.ul_canonical.specs.Lines.{ArePlain, IsPlain, formula_of_line, formula_of_text, formulas_from, marker_of_bytes, with_line}

locked_plain : (text : List ℕ) (f : Formula) → locked_marker_of text ≡ Some f → IsPlain f
locked_plain text f e = let (printed, plain) = (dialects_agree.lock text f).0 e in record { spelled = printed-formula text f printed; plain = plain }

by_text : (text : List ℕ) (b : Bool) (f : Formula) → cond b (locked_marker_of text) None ≡ Some f → IsPlain f
by_text text false f h = absurd cc
by_text text true f h = locked_plain text f h

by_never : (text : List ℕ) (b : Bool) (f : Formula) → cond b (Some (any none)) (marker_of_bytes text) ≡ Some f → IsPlain f
by_never text true f h = subst IsPlain (some_is (any none) f h) (record { spelled = tt; plain = refl })
by_never text false f h = by_text text (is_utf8 text) f h

by_star : (text : List ℕ) (b : Bool) (f : Formula) → cond b (Some (all none)) (cond (bytes_eq text (codes "never")) (Some (any none)) (marker_of_bytes text)) ≡ Some f → IsPlain f
by_star text true f h = subst IsPlain (some_is (all none) f h) (record { spelled = tt; plain = refl })
by_star text false f h = by_never text (bytes_eq text (codes "never")) f h

text_plain : (text : List ℕ) (f : Formula) → formula_of_text text ≡ Some f → IsPlain f
unfolding formula_of_text
text_plain text f h = by_star text (bytes_eq text (codes "*")) f h

line_plain : (line : List ℕ) (f : Formula) → formula_of_line line ≡ Some f → IsPlain f
line_plain line f h = let (text, cut, said) = bind_some (cut_end (codes "\n") line) formula_of_text f h in text_plain text f said

by_line : (n : ℕ) (o : Option Formula) (more : Result (List Formula) ℕ) (fs : List Formula) → ((f : Formula) → o ≡ Some f → IsPlain f) → ((gs : List Formula) → more ≡ Ok gs → ArePlain gs)
    → with_line n o more ≡ Ok fs → ArePlain fs
by_line n None more fs p q h = absurd cc
by_line n (Some f) (Err k) fs p q h = absurd cc
by_line n (Some f) (Ok gs) fs p q h = let same : f ∷ gs ≡ fs = cc in subst ArePlain same (All-cons IsPlain f gs (p f refl) (q gs refl))

-- what lines say is such
pub all_plain : (n : ℕ) (ls : List (List ℕ)) (fs : List Formula) → formulas_from n ls ≡ Ok fs → ArePlain fs
unfolding formulas_from
all_plain n [] fs h = let same : [] ≡ fs = cc in subst ArePlain same (All-nil IsPlain)
all_plain n (l ∷ ls) fs h = by_line n (formula_of_line l) (formulas_from (n + 1) ls) fs (line_plain l) (all_plain (n + 1) ls) h

-- the formula of one of some markers
pub plain_at : (ms : List Marker) (i : ℕ) (m : Marker) → ArePlain (map marker_view ms) → i < length ms → m ≡ get_or ms i m → IsPlain (marker_view m)
plain_at ms i m a lt is =
    let there : get_or (map marker_view ms) i (marker_view m) ≡ marker_view m = at_map marker_view ms i m ∙ ap marker_view (sym is) in
    subst IsPlain there (a i (marker_view m) (rw long_map lt))
