-- The main theorem: trees and their texts are one to one, and a text says as a marker what its tree says.
use Rattle.std.specs.Prelude.{◌≡◌, ◌≢◌, ℕ, List, Bool, Some}
use Rattle.ul_comparison.specs.Formulas.{Formula}
use Rattle.ul_marker.specs.Parts.{asks_extras}
use Rattle.ul_marker.specs.Reading.{marker_of, printed_marker_of}
use Rattle.ul_comparison.specs.Truth.{marker_holds}
use Rattle.ul_comparison.specs.Worlds.{WorldFields, IsWorld}
use Rattle.ul_nodes.specs.Plain.{Plain, truth}
use Rattle.ul_nodes.specs.Reduced.{IsReduced}
use Rattle.ul_tree.specs.Sample.{asks_extra}
use Rattle.ul_tree.specs.Values.{tree_holds}
use Rattle.ul_marker_text.specs.MarkerText.{marker_text}
use Rattle.ul_marker_text.specs.MarkerOfText.{is_readable, IsMarker}

-- a tree that isn't the same truth everywhere
abbrev pub IsNoTruth : Plain → Type 0
IsNoTruth t = (value : Bool) → t ≢ truth value

-- a text that is read as a printed marker, which has the truth of a tree; a document reads it likewise where the marker
-- asks for no extra by `extras`
pub record ReadsAs (text : List ℕ) (t : Plain) : Type 0 where
  pub formula : Formula
  pub read : printed_marker_of text ≡ Some formula
  pub document : asks_extras formula ≡ Bool.false → marker_of text ≡ Some formula
  pub truth : (w : WorldFields) (x : List ℕ) → IsWorld w → marker_holds formula w x ≡ tree_holds t w x

-- two reduced trees with one text are one tree, `*` is the text of the tree that is true everywhere alone, and the
-- text of each other tree is read as a marker with the tree's truth; a tree that asks for no extra, and has few enough
-- nodes on each path, is read back
pub record MarkerTexts : Type 0 where
  pub one : (s t : Plain) → IsReduced s → IsReduced t → s ≢ truth Bool.false → t ≢ truth Bool.false → marker_text s ≡ marker_text t → s ≡ t
  pub marker : (t : Plain) → IsReduced t → IsNoTruth t → ReadsAs (marker_text t) t
  pub back : (t : Plain) → IsReduced t → IsNoTruth t → asks_extra t ≡ Bool.false → is_readable t ≡ Bool.true → IsMarker t
