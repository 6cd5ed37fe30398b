-- Environments that were read, and one more.
use Rattle.std.proofs.Common.{◌≡◌, ◌++◌, List, [], ◌∷◌, map, refl, ap, subst, sym, ◌∙◌}
use Rattle.ul_comparison.specs.Formulas.{AreFormulas, IsFormula}
use Rattle.ul_marker.specs.Views.{marker_view, markers_view}
use Rattle.ul_marker.specs.declared.marker.Marker.{Marker}

pub view_push : (ms after : List Marker) (m : Marker) → after ≡ ms ++ m ∷ [] → map marker_view after ≡ map marker_view ms ++ marker_view m ∷ []
view_push ms after m e = ap (map marker_view) e ∙ pushed ms m
  where
    pushed : (ns : List Marker) (n : Marker) → map marker_view (ns ++ n ∷ []) ≡ map marker_view ns ++ marker_view n ∷ []
    pushed [] n = refl
    pushed (x ∷ xs) n = ap (λ l. marker_view x ∷ l) (pushed xs n)

valid_more : (ms : List Marker) (m : Marker) → AreFormulas (markers_view ms) → IsFormula (marker_view m) → AreFormulas (markers_view (ms ++ m ∷ []))
valid_more [] m h k = (k, tt)
valid_more (x ∷ xs) m h k = (h.0, valid_more xs m h.1 k)

pub valid_push : (ms after : List Marker) (m : Marker) → after ≡ ms ++ m ∷ [] → AreFormulas (markers_view ms) → IsFormula (marker_view m) → AreFormulas (markers_view after)
valid_push ms after m e h k = subst (λ l. AreFormulas (markers_view l)) (sym e) (valid_more ms m h k)
