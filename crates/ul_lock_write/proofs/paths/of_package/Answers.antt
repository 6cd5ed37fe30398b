use Rattle.std.proofs.Common.{sym, ap, ◌∙◌}
use Rattle.std.specs.Prelude.{flat_map}
use Rattle.ul_lock_write.specs.Markers.{edge_marker, extra_markers, first_over}
use Rattle.ul_lock_write.proofs.OverPaths.{join_none, join_some}
use Rattle.ul_lock_write.proofs.paths.of_package.Goals as goal

pub returns-in-Some : goal.returns-in-Some
returns-in-Some c =
    sym (join_some (flat_map edge_marker c.args.block.now.edges) (flat_map extra_markers c.args.block.now.extras) c.in-Some.count
    (ap (λ z. first_over (flat_map edge_marker z)) (sym c.as_slice.ensures) ∙ sym c.in-Some.ensures))

pub returns-in-None : goal.returns-in-None
returns-in-None c =
    c.of_extras.ensures
    ∙ sym (join_none (flat_map edge_marker c.args.block.now.edges) (flat_map extra_markers c.args.block.now.extras) _
    (ap (λ z. first_over (flat_map edge_marker z)) (sym c.as_slice.ensures) ∙ sym c.in-None.ensures)
    (ap (λ z. first_over (flat_map extra_markers z)) (sym c.as_slice-in-None.ensures)))
