-- What a document reads of the text of a row's marker.
use Rattle.std.proofs.Common.{◌≡◌, ℕ, List, [], Bool, true, false, true≢false, Option, Some, None, refl, sym, ap, ◌∙◌}
use Rattle.std.specs.List.{list_all}
use Rattle.ul_comparison.specs.Atoms.{is_literal_byte}
use Rattle.ul_comparison.specs.Formulas.{Formula}
use Rattle.ul_marker.specs.Parts.{asks_extras}
use Rattle.ul_marker.specs.Reading.{marker_of, printed_marker_of}
use Rattle.ul_marker.specs.Words.{tokens_in, tokens_of}
use Rattle.ul_marker.proofs.ForCallers.{dialects_agree}
use Rattle.ul_nodes.specs.Plain.{Plain, truth, node}
use Rattle.ul_nodes.specs.Reduced.{IsReduced}
use Rattle.ul_marker_text.specs.MarkerText.{marker_text}
use Rattle.ul_marker_text.proofs.ForCallers.{marker_plain}

-- the empty text is read alike where markers are printed and in a document
pub empty_alike : printed_marker_of [] ≡ marker_of []
unfolding printed_marker_of marker_of tokens_of tokens_in
empty_alike = refl

-- a formula, if no comparison of it is one with `extras`
abbrev pub formula_if : Bool → Formula → Option Formula
formula_if true f = None
formula_if false f = Some f

-- of a printed marker a document reads what compares no `extras`, and nothing else
pub document_reads : (m : List ℕ) (f : Formula) → printed_marker_of m ≡ Some f
    → marker_of m ≡ formula_if (asks_extras f) f
document_reads m f printed = by_extras (asks_extras f) refl
  where
    by_reading : (o : Option Formula) → marker_of m ≡ o → asks_extras f ≡ true → o ≡ None
    by_reading None read asks = refl
    by_reading (Some g) read asks =
        let both = (dialects_agree.document m g).0 read in
        let same : Some g ≡ Some f = sym both.0 ∙ printed in
        let one : g ≡ f = cc same in
        absurd (true≢false (sym asks ∙ (ap asks_extras (sym one) ∙ both.1)))

    by_extras : (b : Bool) → asks_extras f ≡ b → marker_of m ≡ formula_if b f
    by_extras true asks = by_reading (marker_of m) refl asks
    by_extras false plain = (dialects_agree.document m f).1 (printed, plain)

-- the text of each reduced tree has the bytes of literals alone
pub text_bytes : (t : Plain) → IsReduced t → list_all is_literal_byte (marker_text t) ≡ true
unfolding marker_text
text_bytes (truth true) h = refl
text_bytes (truth false) h = refl
text_bytes (node l d bs) h = marker_plain (node l d bs) h (λ e. cc e)
