-- Edges that are made of regions.
use Rattle.std.proofs.Common.{◌≡◌, ℕ, List, [], Bool, true, false, Option, Some, None, refl, sym, ap, subst, ◌∙◌}
use Rattle.ul_base.specs.declared.node.Node.{Node}
use Rattle.ul_version.specs.Fields.{Fields}
use Rattle.ul_comparison.specs.Worlds.{WorldFields, IsWorld}
use Rattle.ul_nodes.specs.Apply.{both}
use Rattle.ul_nodes.specs.Plain.{Plain, truth}
use Rattle.ul_tree.specs.Regions.{IsRegionTree}
use Rattle.ul_tree.specs.Simplify.{Simplifies}
use Rattle.ul_tree.specs.Values.{tree_holds}
use Rattle.ul_tree.proofs.ForCallers.{has_and, holds_somewhere, no_extra, region_tree}
use Rattle.ul_algebra.specs.Answers.{IsDiagram}
use Rattle.ul_algebra.specs.Spelled.{tree_of}
use Rattle.ul_algebra.specs.Truths.{HoldsJoined}
use Rattle.ul_lock.specs.declared.parts.Edge.{Edge}
use Rattle.ul_region.specs.Truths.{PassView, DiagramMark, IsRegion, IsTruth, region_at, truth_within}
use Rattle.ul_merge.specs.Unions.{MeetSomewhere}
use Rattle.std.specs.Option.{option_map}
use Rattle.ul_lock_write.specs.Markers.{edge_marker, fork_marker}
use Rattle.ul_merge.specs.Edges.{LiesWithin, IsEdgeBy, IsMadeEdge}
use Rattle.ul_merge.specs.Over.{OrOver, edge_by, markers_in}

-- where in a region a truth holds
pub part_truth : (g h : PassView) (d a b : DiagramMark) → IsRegion g a → IsRegion g b → IsDiagram h d → HoldsJoined both a b d → IsTruth h d (truth_within (region_at a) (region_at b))
part_truth g h d a b r s k j = record { diagram = k; truth = has_and (tree_of a) (tree_of b) (tree_of d) (region_at a) (region_at b) r.truth s.truth k.reduced j }

-- a region that isn't false has a world
pub has_world : (h : PassView) (d : DiagramMark) → IsRegion h d → (tree_of d ≡ truth false → ⊥) → (w : WorldFields) × IsWorld w × (region_at d w ≡ true)
has_world h d t n =
    let own : IsRegionTree (tree_of d) = region_tree (tree_of d) (region_at d) t.truth in
    let at : (w : WorldFields) × IsWorld w × ((x : List ℕ) → tree_holds (tree_of d) w x ≡ true) = holds_somewhere.without_extra (tree_of d) own.reduced n (no_extra.region (tree_of d) own) in
    (at.0, at.1, at.2 [])

-- and so meets the supported region
pub meets_there : (h : PassView) (d s : DiagramMark) → IsRegion h d → (tree_of d ≡ truth false → ⊥) → LiesWithin d s → MeetSomewhere d s
meets_there h d s t n within = let at : (w : WorldFields) × IsWorld w × (region_at d w ≡ true) = has_world h d t n in (at.0, at.2, within at.0 at.1 at.2)

-- a region that is false has none
pub no_world : (d : DiagramMark) → tree_of d ≡ truth false → (w : WorldFields) → IsWorld w → region_at d w ≡ false
no_world d e w is = ap (λ (u : Plain). tree_holds u w []) e

-- the edge
pub made_edge : (h : PassView) (d : DiagramMark) (s m : Plain) (n : Node) (v : Fields) {edge : Edge}
    → IsRegion h d → (tree_of d ≡ truth false → ⊥) → Simplifies (tree_of d) s m → edge.target ≡ n → edge.version ≡ v → edge.marker ≡ m
    → IsMadeEdge n v (region_at d) s edge
made_edge h d s m n v t not k e f i = record {
  target = e;
  version = f;
  somewhere = has_world h d t not;
  marker = record {
    tree = tree_of d;
    reduced = t.truth.reduced;
    truth = λ w x is. ((λ r. sym (t.truth.truth w x is) ∙ r), (λ r. t.truth.truth w x is ∙ r));
    simplifies = subst (Simplifies (tree_of d) s) (sym i) k;
  };
}

-- what a test that failed says isn't so
pub failed : {P : Type 0} (b : Bool) → b ≡ false → (b ≡ true → P) × (P → b ≡ true) → P → ⊥
failed true e h p = cc
failed false e h p = not_true (h.1 p)
  where
    not_true : false ≡ true → ⊥
    not_true q = cc

-- the edge of what a marker was made as
pub edge_over : (h : PassView) (d : DiagramMark) (s : Plain) (n : Node) (v : Fields) (r : Option Plain) → IsRegion h d → (tree_of d ≡ truth false → ⊥) → OrOver fork_marker (Simplifies (tree_of d) s) r
    → OrOver (markers_in edge_marker) (IsEdgeBy n v (region_at d) s) (option_map (λ e. Some e) (edge_by n v r))
edge_over h d s n v (Some m) t not (k, printed) = (made_edge h d s m n v {edge = record { target = n; version = v; marker = m }} t not k refl refl refl, printed)
edge_over h d s n v None t not (m, k, over) = (Some (record { target = n; version = v; marker = m }), made_edge h d s m n v {edge = record { target = n; version = v; marker = m }} t not k refl refl refl, over)
