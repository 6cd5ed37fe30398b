use Rattle.std.proofs.Common.{List, ◌∙◌, ap, refl}
use Rattle.std.specs.BTreeSet.{insert_key}
use Rattle.ul_comparison.specs.Atoms.{AtomFields, atom_cmp}
use Rattle.ul_marker.specs.Parts.{atoms_of}
use Rattle.ul_marker.specs.Views.{marker_view}
use Rattle.ul_load.specs.Loading.{comparisons_with}
use Rattle.ul_load.specs.Views.{atoms_view}
use Rattle.ul_load.proofs.Sets.{fold_next}
use Rattle.ul_load.proofs.comparisons.Comparisons.add_markers.Goals as goal

pub loop-marker-preserved : goal.loop-marker-preserved
loop-marker-preserved c =
    fold_next (insert_key atom_cmp) (λ (atoms : List AtomFields). atoms) (λ m. atoms_of (marker_view m)) (λ xs ys. refl) c.args.markers.now c.loop-marker.marker-index c.marker-item.result _ _
    c.loop-marker-test.true c.marker-item.is (c.in_ok-add.ensures ∙ ap (comparisons_with (atoms_view c.loop-marker.self)) c.in_ok-atoms.ensures)
    ∙ c.loop-marker.invariant
