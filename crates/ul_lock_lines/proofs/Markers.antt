-- Markers of regions: a text is read as one tree, and a tree's text is read as the tree.
use Rattle.std.proofs.Common.{◌≡◌, ◌≢◌, ℕ, List, Bool, true, false, refl, sym, ap, subst, ◌∙◌, Some}
use Rattle.ul_nodes.specs.Plain.{Plain, truth, node}
use Rattle.ul_marker_text.specs.MarkerText.{marker_text}
use Rattle.ul_marker_text.specs.MarkerOfText.{marker_of_text, IsMarker}
use Rattle.ul_marker_text.proofs.ForCallers.{text_again, read_is_marker, truth_is_none, marker_10, marker_92, marker_readable, marker_reduced, marker_no_extra, tree_is_marker}
use Rattle.ul_lines.specs.Pieces.{has}
use Rattle.ul_lock.specs.Region.{is_true, IsRegion}
use Rattle.ul_lock_lines.specs.Text.{IsReadRegion}

-- what is known of a tree that is read of a text
pub record Reads (b : List ℕ) (t : Plain) : Type 0 where
  pub text : marker_text t ≡ b
  pub region : IsReadRegion t
  pub within : is_true t ≡ false

-- a marker's tree is a region's
region_of_marker : (t : Plain) → IsMarker t → IsRegion t
region_of_marker t m = record { reduced = marker_reduced t m; not_false = λ e. truth_is_none false (subst (λ z. IsMarker z) e m); no_extra = marker_no_extra t m }

-- and not the one of all worlds
marker_within : (t : Plain) → IsMarker t → is_true t ≡ false
marker_within (truth v) m = absurd (truth_is_none v m)
marker_within (node l d bs) m = refl

no_truth : (t : Plain) → t ≢ truth false → is_true t ≡ false → (v : Bool) → t ≢ truth v
no_truth t h k true e = let q : true ≡ false = sym (ap is_true e) ∙ k in absurd cc
no_truth t h k false e = h e

-- a region's tree is a marker's, where it isn't the one of all worlds
marker_of_region : (t : Plain) → IsReadRegion t → is_true t ≡ false → IsMarker t
marker_of_region t h k = tree_is_marker t h.region.reduced h.region.no_extra (no_truth t h.region.not_false k) h.readable

-- what is read of a text is spelled so, and is a region
pub region_is : (b : List ℕ) (t : Plain) → marker_of_text b ≡ Some t → Reads b t
region_is b t e =
    let m = read_is_marker b t e in
    record { text = text_again b t e; region = record { region = region_of_marker t m; readable = marker_readable t m }; within = marker_within t m }

-- a tree that is read of a text is a region's
pub read_is_region : (b : List ℕ) (t : Plain) → marker_of_text b ≡ Some t → IsRegion t
read_is_region b t e = region_of_marker t (read_is_marker b t e)

-- a region's text is read as the region
pub region_again : (t : Plain) → IsReadRegion t → is_true t ≡ false → marker_of_text (marker_text t) ≡ Some t
region_again t h k = marker_of_region t h k

-- a region's text has no LF
pub region_10 : (t : Plain) → IsReadRegion t → is_true t ≡ false → has 10 (marker_text t) ≡ false
region_10 t h k = marker_10 t (marker_of_region t h k)

-- a region's text has no backslash
pub region_92 : (t : Plain) → IsReadRegion t → is_true t ≡ false → has 92 (marker_text t) ≡ false
region_92 t h k = marker_92 t (marker_of_region t h k)
