-- Canonical texts say what their formulas say, and tell them apart.
use Rattle.std.proofs.Common.{◌≡◌, ◌≢◌, ◌∙◌, [], true, false, true≢false, refl, sym, ap, None, Some}
use Rattle.std.specs.Prelude.{codes}
use Rattle.std.specs.Str.{bytes_eq}
use Rattle.ul_comparison.specs.Formulas.{Formula}
use Rattle.ul_marker.specs.Reading.{atom_at, before_close, chain_at, chain_with, each, inner_tokens, printed_marker_of, part_at, pieces_from}
use Rattle.ul_marker.specs.Words.{front_literal, front_sign, front_token, front_word, tokens_in, tokens_of, word_token}
use Rattle.ul_marker_text.specs.MarkerText.{marker_text}
use Rattle.ul_marker_text.proofs.ForCallers.{one_text, star_is_true, text_reads}
use Rattle.ul_nodes.specs.Plain.{Plain, truth, node}
use Rattle.ul_nodes.specs.Reduced.{IsReduced}
use Rattle.ul_tree.specs.Values.{tree_holds}
use Rattle.ul_tree.proofs.ForCallers.{one_truth_one_tree}
use Rattle.ul_canonical.specs.Says.{HaveOneTruth, Says}
use Rattle.ul_canonical.specs.Trees.{IsTreeOf, canonical_text}

never_is_none : printed_marker_of (codes "never") ≡ None
unfolding atom_at before_close chain_at chain_with each inner_tokens printed_marker_of part_at pieces_from front_literal front_sign front_token front_word tokens_in tokens_of word_token
never_is_none = refl

star_text : marker_text (truth true) ≡ codes "*"
unfolding marker_text
star_text = refl

-- ---- one text, one tree

-- `never` is the text of the tree that is false everywhere alone
never_is_false : (t : Plain) → IsReduced t → canonical_text t ≡ codes "never" → t ≡ truth false
never_is_false (truth false) h e = refl
never_is_false (truth true) h e = absurd (true≢false (ap (λ z. bytes_eq z (codes "*")) (sym star_text ∙ e)))
never_is_false (node l d bs) h e =
    let reads = text_reads (node l d bs) h (λ v q. cc) in
    let none : None ≡ Some reads.formula = sym never_is_none ∙ (ap printed_marker_of (sym e) ∙ reads.read) in absurd cc

-- the text of another tree is that of its marker
marker_is : (t : Plain) → t ≢ truth false → canonical_text t ≡ marker_text t
marker_is (truth true) n = refl
marker_is (truth false) n = absurd (n refl)
marker_is (node l d bs) n = refl

both_somewhere : (t u : Plain) → IsReduced t → IsReduced u → t ≢ truth false → u ≢ truth false → canonical_text t ≡ canonical_text u → t ≡ u
both_somewhere t u h k n m e = one_text t u h k n m (sym (marker_is t n) ∙ (e ∙ marker_is u m))

one_somewhere : (t u : Plain) → IsReduced t → IsReduced u → t ≢ truth false → canonical_text t ≡ canonical_text u → t ≡ u
one_somewhere t (truth false) h k n e = absurd (n (never_is_false t h e))
one_somewhere t (truth true) h k n e = both_somewhere t (truth true) h k n (λ q. cc) e
one_somewhere t (node l d bs) h k n e = both_somewhere t (node l d bs) h k n (λ q. cc) e

-- two reduced trees with one canonical text are one
canonical_one : (t u : Plain) → IsReduced t → IsReduced u → canonical_text t ≡ canonical_text u → t ≡ u
canonical_one (truth false) u h k e = sym (never_is_false u k (sym e))
canonical_one (truth true) u h k e = one_somewhere (truth true) u h k (λ q. cc) e
canonical_one (node l d bs) u h k e = one_somewhere (node l d bs) u h k (λ q. cc) e

-- ---- formulas

-- trees with one text are of formulas that are true in the same worlds
pub text_truth : (f g : Formula) (t u : Plain) → IsTreeOf f t → IsTreeOf g u → canonical_text t ≡ canonical_text u → HaveOneTruth f g
text_truth f g t u h k e w is =
    let same = canonical_one t u h.reduced k.reduced e in
    sym (h.truth w [] is) ∙ (ap (λ z. tree_holds z w []) same ∙ k.truth w [] is)

-- and trees of such formulas are one
pub truth_tree : (f g : Formula) (t u : Plain) → IsTreeOf f t → IsTreeOf g u → HaveOneTruth f g → t ≡ u
truth_tree f g t u h k one = one_truth_one_tree t u h.reduced k.reduced (λ w x is ascii extra. h.truth w x is ∙ (one w is ∙ sym (k.truth w x is)))

-- the canonical text of a formula's tree says what it says
pub tree_says : (f : Formula) (t : Plain) → IsTreeOf f t → Says f (canonical_text t)
tree_says f (truth false) h = record {
  always = λ e. absurd (true≢false (sym (ap (λ z. bytes_eq z (codes "*")) e)));
  never = λ e w is. sym (h.truth w [] is);
  marker = λ star never. absurd (never refl);
}
tree_says f (truth true) h = record {
  always = λ e w is. sym (h.truth w [] is);
  never = λ e. absurd (true≢false (ap (λ z. bytes_eq z (codes "*")) (sym star_text ∙ e)));
  marker = λ star never. absurd (star star_text);
}
tree_says f (node l d bs) h =
    let reads = text_reads (node l d bs) h.reduced (λ v q. cc) in record {
      always = λ e. let same = star_is_true (node l d bs) h.reduced (λ q. cc) e in absurd cc;
      never = λ e. let same = never_is_false (node l d bs) h.reduced e in absurd cc;
      marker = λ star never. record { formula = reads.formula; read = reads.read; truth = λ w x is. reads.truth w x is ∙ h.truth w x is };
    }
