-- The lines that are printed of a file.
use Rattle.std.proofs.Common.{◌≡◌, ◌∙◌, ◌+◌, ◌∷◌, ◌++◌, ℕ, zero, suc, List, [], Bool, true, false, append_assoc, eqb, length, map, true≢false, refl, sym, ap, subst, Option, None, Some, Result, Ok, Err}
use Rattle.std.specs.Prelude.{cond, nat_le, slice_get}
use Rattle.std.specs.List.{list_all}
use Rattle.std.proofs.lemmas.Bool.{and_parts, eqb-true}
use Rattle.std.proofs.lemmas.List.{append_cancel_right}
use Rattle.ul_comparison.specs.Atoms.{is_literal_byte}
use Rattle.ul_comparison.specs.Formulas.{Formula}
use Rattle.ul_lines.specs.Lines.{lines_of, onto_first}
use Rattle.ul_lines.proofs.ForCallers.{some_is}
use Rattle.ul_load.specs.Counted.{has_too_many}
use Rattle.ul_lock_write.specs.TextLimit.{text_bytes}
use Rattle.ul_marker_text.proofs.ForCallers.{marker_plain}
use Rattle.ul_nodes.specs.Plain.{Plain, truth, node}
use Rattle.ul_nodes.specs.Reduced.{IsReduced}
use Rattle.ul_tree.specs.Paths.{is_printable}
use Rattle.ul_canonical.specs.Answers.{ByCount, ByLines, IsPrinted, long_text, many_paths}
use Rattle.ul_canonical.specs.Headline.{AreLinesOf, CanonicalMarkers, IsCanonicalText}
use Rattle.ul_canonical.specs.Lines.{formula_of_line, formulas_from, formulas_of, with_line}
use Rattle.ul_canonical.specs.Says.{IsLineOf}
use Rattle.ul_canonical.specs.Trees.{AreTreesOf, IsTreeOf, canonical_text, tree_line, trees_text}
use Rattle.ul_canonical.proofs.TreeTexts.{text_truth, tree_says, truth_tree}

-- ---- the lines of a text

cut_by : (x : ℕ) (t r : List ℕ) (b : Bool) → eqb x 10 ≡ b → is_literal_byte x ≡ true → lines_of (t ++ 10 ∷ r) ≡ (t ++ 10 ∷ []) ∷ lines_of r
    → cond b ((10 ∷ []) ∷ lines_of (t ++ 10 ∷ r)) (onto_first x (lines_of (t ++ 10 ∷ r))) ≡ (x ∷ t ++ 10 ∷ []) ∷ lines_of r
cut_by x t r true q plain again = let no : is_literal_byte 10 ≡ true = ap is_literal_byte (sym (eqb-true x 10 q)) ∙ plain in absurd (true≢false (sym no))
cut_by x t r false q plain again = ap (onto_first x) again

-- a plain text and LF in front are the first line
line_cut : (t r : List ℕ) → list_all is_literal_byte t ≡ true → lines_of (t ++ 10 ∷ r) ≡ (t ++ 10 ∷ []) ∷ lines_of r
unfolding lines_of
line_cut [] r h = refl
line_cut (x ∷ t) r h = let parts = and_parts (is_literal_byte x) (list_all is_literal_byte t) h in cut_by x t r (eqb x 10) refl parts.0 (line_cut t r parts.1)

no_lines : lines_of [] ≡ []
unfolding lines_of
no_lines = refl

text_plain : (t : Plain) → IsReduced t → list_all is_literal_byte (canonical_text t) ≡ true
text_plain (truth false) h = refl
text_plain (truth true) h = marker_plain (truth true) h (λ q. cc)
text_plain (node l d bs) h = marker_plain (node l d bs) h (λ q. cc)

-- the lines of trees are their lines
trees_lines : (fs : List Formula) (ts : List Plain) → AreTreesOf fs ts → lines_of (trees_text ts) ≡ map tree_line ts
trees_lines [] [] a = no_lines
trees_lines [] (t ∷ ts) a = absurd a
trees_lines (f ∷ fs) [] a = absurd a
trees_lines (f ∷ fs) (t ∷ ts) a =
    ap lines_of (append_assoc (canonical_text t) (10 ∷ []) (trees_text ts))
    ∙ (line_cut (canonical_text t) (trees_text ts) (text_plain t a.0.reduced) ∙ ap (λ ls. tree_line t ∷ ls) (trees_lines fs ts a.1))

-- ---- one line

-- the line is that of the formula's tree
record HasTreeLine (f : Formula) (line : List ℕ) : Type 0 where
  tree : Plain
  is : IsTreeOf f tree
  same : line ≡ tree_line tree

tree_at : (fs : List Formula) (ts : List Plain) (k : ℕ) (f : Formula) (line : List ℕ) → AreTreesOf fs ts → slice_get fs k ≡ Some f → slice_get (map tree_line ts) k ≡ Some line → HasTreeLine f line
tree_at [] [] k f line a p q = absurd cc
tree_at [] (t ∷ ts) k f line a p q = absurd a
tree_at (g ∷ fs) [] k f line a p q = absurd a
tree_at (g ∷ fs) (t ∷ ts) zero f line a p q = record { tree = t; is = subst (λ z. IsTreeOf z t) (some_is g f p) a.0; same = sym (some_is (tree_line t) line q) }
tree_at (g ∷ fs) (t ∷ ts) (suc k) f line a p q = tree_at fs ts k f line a.1 p q

line_says : (f : Formula) (line : List ℕ) → HasTreeLine f line → IsLineOf f line
line_says f line h = record { text = canonical_text h.tree; says = tree_says f h.tree h.is; ended = h.same }

lines_long : (fs : List Formula) (ts : List Plain) → AreTreesOf fs ts → length (map tree_line ts) ≡ length fs
lines_long [] [] a = refl
lines_long [] (t ∷ ts) a = absurd a
lines_long (f ∷ fs) [] a = absurd a
lines_long (f ∷ fs) (t ∷ ts) a = ap suc (lines_long fs ts a.1)

trees_say : (fs : List Formula) (ts : List Plain) → AreTreesOf fs ts → AreLinesOf fs (map tree_line ts)
trees_say fs ts a = record {
  count = lines_long fs ts a;
  say = λ k f line p q. line_says f line (tree_at fs ts k f line a p q);
  equal = λ i k f g one other p q r s.
      let first = tree_at fs ts i f one a p q in
      let second = tree_at fs ts k g other a r s in (
        (λ e. text_truth f g first.tree second.tree first.is second.is (append_cancel_right (canonical_text first.tree) (canonical_text second.tree) (10 ∷ []) (sym first.same ∙ (e ∙ second.same)))),
        (λ e. first.same ∙ (ap tree_line (truth_tree f g first.tree second.tree first.is second.is e) ∙ sym second.same)),
      );
}

-- ---- what lines say

by_said : (n : ℕ) (o : Option Formula) (more : Result (List Formula) ℕ) (ls : List (List ℕ)) (fs : List Formula) → ((gs : List Formula) → more ≡ Ok gs → map formula_of_line ls ≡ map (λ f. Some f) gs)
    → with_line n o more ≡ Ok fs → o ∷ map formula_of_line ls ≡ map (λ f. Some f) fs
by_said n None more ls fs again h = absurd cc
by_said n (Some f) (Err k) ls fs again h = absurd cc
by_said n (Some f) (Ok gs) ls fs again h = let same : f ∷ gs ≡ fs = cc in ap (λ os. Some f ∷ os) (again gs refl) ∙ ap (map (λ g. Some g)) same

all_said : (n : ℕ) (ls : List (List ℕ)) (fs : List Formula) → formulas_from n ls ≡ Ok fs → map formula_of_line ls ≡ map (λ f. Some f) fs
unfolding formulas_from
all_said n [] fs h = let same : [] ≡ fs = cc in ap (map (λ f. Some f)) same
all_said n (l ∷ ls) fs h = by_said n (formula_of_line l) (formulas_from (n + 1) ls) ls fs (all_said (n + 1) ls) h

-- ---- a whole file

printed_by : (ts : List Plain) (text : List ℕ) (a b : Bool) → Ok text ≡ cond a (cond b (Ok (trees_text ts)) (Err long_text)) (Err many_paths) → text ≡ trees_text ts
printed_by ts text true true h = cc
printed_by ts text true false h = absurd cc
printed_by ts text false b h = absurd cc

by_formulas : (bytes text : List ℕ) (fs : List Formula) → formulas_of bytes ≡ Ok fs → IsPrinted fs (Ok text) → IsCanonicalText bytes text
by_formulas bytes text fs e h = record {
  formulas = fs;
  said = all_said 1 (lines_of bytes) fs e;
  printed = subst (AreLinesOf fs) (sym (ap lines_of (printed_by h.trees text (list_all is_printable h.trees) (nat_le (length (trees_text h.trees)) text_bytes) h.is) ∙ trees_lines fs h.trees h.are)) (trees_say fs h.trees h.are);
}

by_count : (bytes text : List ℕ) (fs : List Formula) (b : Bool) → formulas_of bytes ≡ Ok fs → ByCount b fs (Ok text) → IsCanonicalText bytes text
by_count bytes text fs true e h = absurd cc
by_count bytes text fs false e h = by_formulas bytes text fs e h

by_lines : (bytes text : List ℕ) (r : Result (List Formula) ℕ) → formulas_of bytes ≡ r → ByLines r (Ok text) → IsCanonicalText bytes text
by_lines bytes text (Ok fs) e h = by_count bytes text fs (has_too_many fs) e h
by_lines bytes text (Err n) e h = absurd cc

pub canonical_markers : CanonicalMarkers
canonical_markers bytes text h = by_lines bytes text (formulas_of bytes) refl h
