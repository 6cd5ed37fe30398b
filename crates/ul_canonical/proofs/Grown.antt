-- Diagrams of markers, one after another.
use Rattle.std.proofs.Common.{◌≡◌, ◌<◌, ◌≤◌, ◌+◌, ◌∷◌, ◌++◌, ◌∙◌, ℕ, List, [], get_or, length, map, take, sym, ap, subst}
use Rattle.std.specs.Prelude.{All}
use Rattle.std.proofs.lemmas.List.{map-append, take_all, take_more}
use Rattle.std.proofs.lemmas.List.Elements.{All-nil, All-push}
use Rattle.ul_algebra.specs.Answers.{IsDiagram}
use Rattle.ul_algebra.specs.Spelled.{tree_of}
use Rattle.ul_comparison.specs.Formulas.{Formula}
use Rattle.ul_comparison.specs.Truth.{marker_holds}
use Rattle.ul_interner.specs.Known.{Knows}
use Rattle.ul_marker.specs.Views.{marker_view}
use Rattle.ul_marker.specs.declared.marker.Marker.{Marker}
use Rattle.ul_marker.proofs.ForCallers.{truth_is_plain}
use Rattle.ul_nodes.specs.Plain.{Plain}
use Rattle.ul_region.specs.Truths.{DiagramMark, HoldsAs, PassView}
use Rattle.ul_region.proofs.ForCallers.{all_still}
use Rattle.ul_canonical.specs.Diagrams.{AreDiagramsOf}
use Rattle.ul_canonical.specs.Lines.{IsPlain}
use Rattle.ul_canonical.specs.Trees.{AreTreesOf, IsTreeOf}

-- a diagram of a formula that asks for no extra is its tree
diagram_tree : (h : PassView) (m : DiagramMark) (f : Formula) → IsPlain f → IsDiagram h m → HoldsAs m (marker_holds f) → IsTreeOf f (tree_of m)
diagram_tree h m f p d t = record { reduced = d.reduced; truth = λ w x is. t w x is ∙ truth_is_plain f w x [] p.plain }

one_tree_more : (fs : List Formula) (ts : List Plain) (f : Formula) (t : Plain) → AreTreesOf fs ts → IsTreeOf f t → AreTreesOf (fs ++ f ∷ []) (ts ++ t ∷ [])
one_tree_more [] [] f t a is = (is, tt)
one_tree_more [] (u ∷ ts) f t a is = absurd a
one_tree_more (g ∷ fs) [] f t a is = absurd a
one_tree_more (g ∷ fs) (u ∷ ts) f t a is = (a.0, one_tree_more fs ts f t a.1 is)

-- no diagrams of no markers
pub none_made : (h : PassView) (markers : List Marker) (made : List DiagramMark) → made ≡ [] → AreDiagramsOf h (map marker_view (take 0 markers)) made
none_made h markers made e = subst (AreDiagramsOf h (map marker_view (take 0 markers))) (sym e) (record { known = All-nil (IsDiagram h); trees = tt })

-- one diagram more
pub one_made : (g h : PassView) (markers : List Marker) (i : ℕ) (marker : Marker) (before after : List DiagramMark) (m : DiagramMark) → i < length markers → marker ≡ get_or markers i marker → Knows g h → IsPlain (marker_view marker)
    → AreDiagramsOf g (map marker_view (take i markers)) before → IsDiagram h m → HoldsAs m (marker_holds (marker_view marker)) → after ≡ before ++ m ∷ [] → AreDiagramsOf h (map marker_view (take (i + 1) markers)) after
one_made g h markers i marker before after m lt is more plain so_far d t e =
    let taken : take (i + 1) markers ≡ take i markers ++ marker ∷ [] = take_more markers i marker lt ∙ ap (λ (z : Marker). take i markers ++ z ∷ []) (sym is) in
    let formulas : map marker_view (take (i + 1) markers) ≡ map marker_view (take i markers) ++ marker_view marker ∷ [] = ap (map marker_view) taken ∙ map-append marker_view (take i markers) (marker ∷ []) in
    let trees : map tree_of after ≡ map tree_of before ++ tree_of m ∷ [] = ap (map tree_of) e ∙ map-append tree_of before (m ∷ []) in
    record {
      known = subst (All (IsDiagram h)) (sym e) (All-push (IsDiagram h) before m (all_still g h before more so_far.known) d);
      trees = subst (λ fs. AreTreesOf fs (map tree_of after)) (sym formulas) (subst (AreTreesOf (map marker_view (take i markers) ++ marker_view marker ∷ [])) (sym trees)
          (one_tree_more (map marker_view (take i markers)) (map tree_of before) (marker_view marker) (tree_of m) so_far.trees (diagram_tree h m (marker_view marker) plain d t)));
    }

-- all are made
pub all_made : (h : PassView) (markers : List Marker) (i : ℕ) (made : List DiagramMark) → length markers ≤ i → AreDiagramsOf h (map marker_view (take i markers)) made → AreDiagramsOf h (map marker_view markers) made
all_made h markers i made past a = subst (λ ms. AreDiagramsOf h (map marker_view ms) made) (take_all i markers past) a
