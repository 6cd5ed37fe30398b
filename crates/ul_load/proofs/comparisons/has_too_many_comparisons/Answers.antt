use Rattle.std.proofs.Common.{List, [], length, sym, ap, ◌∙◌}
use Rattle.std.specs.List.{flat_map}
use Rattle.std.specs.Prelude.{nat_lt}
use Rattle.std.proofs.lemmas.List.Folds.{flat_map-map}
use Rattle.ul_comparison.specs.Atoms.{AtomFields}
use Rattle.ul_marker.specs.Parts.{atoms_of}
use Rattle.ul_marker.specs.Views.{marker_view}
use Rattle.ul_load.specs.Loading.{comparisons_with}
use Rattle.ul_load.proofs.comparisons.has_too_many_comparisons.Goals as goal

pub returns : goal.returns
returns c =
    let met = flat_map-map atoms_of marker_view c.args.markers.now in
    let from_none = ap (λ (atoms : List AtomFields). comparisons_with atoms (flat_map (λ m. atoms_of (marker_view m)) c.args.markers.now)) c.new-comparisons.ensures in
    ap (λ n. nat_lt 256 n) (c.len.ensures ∙ ap length (c.in_ok-add_markers.ensures ∙ (from_none ∙ ap (comparisons_with []) (sym met))))
