use Rattle.std.proofs.Common.{sym, ap, ◌∙◌}
use Rattle.std.specs.Prelude.{flat_map}
use Rattle.ul_lock_write.specs.Markers.{edge_marker, extra_markers, first_over}
use Rattle.ul_lock_write.proofs.OverPaths.{over_here, over_on, over_end}
use Rattle.ul_lock_write.proofs.paths.of_extras.Goals as goal

pub returns-in-Some : goal.returns-in-Some
returns-in-Some c =
    over_here extra_markers c.args.extras.now c.loop-extra.extra-index c.extra-item.result _ c.in-Some.count c.loop-extra-test.true c.extra-item.is
    (ap (λ z. first_over (flat_map edge_marker z)) (sym c.as_slice.ensures) ∙ sym c.in-Some.ensures) c.loop-extra.invariant

pub loop-extra-preserved : goal.loop-extra-preserved
loop-extra-preserved c =
    over_on extra_markers c.args.extras.now c.loop-extra.extra-index c.extra-item.result _ c.loop-extra-test.true c.extra-item.is
    (ap (λ z. first_over (flat_map edge_marker z)) (sym c.as_slice.ensures) ∙ sym c.in-None.ensures) c.loop-extra.invariant

pub returns : goal.returns
returns c = over_end extra_markers c.args.extras.now c.loop-extra.extra-index _ c.loop-extra-test.false c.loop-extra.invariant
