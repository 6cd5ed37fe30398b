use Rattle.std.proofs.Common.{arith, refl, sym, ◌+◌, ◌-◌, ◌/◌}
use Rattle.std.proofs.lemmas.Option.{slice_get_read}
use Rattle.ul_version.specs.Fields.{Fields}
use Rattle.ul_version.specs.Order.{version_cmp}
use Rattle.ul_version.proofs.ForCallers.{version_total}
use Rattle.ul_report_judge.specs.Names.{place_of_version}
use Rattle.ul_report_judge.proofs.Halving.{found_place, halves_begin, halves_up, halves_down, halves_end}
use Rattle.ul_report_judge.proofs.places.place_of_version.Goals as goal

abbrev itself : Fields → Fields
itself v = v

pub loop-low-init : goal.loop-low-init
loop-low-init c = halves_begin itself version_cmp version_total c.args.versions.now c.args.version.now _ refl

pub loop-low-preserved-in-Less : goal.loop-low-preserved-in-Less
loop-low-preserved-in-Less c =
    let w = c.loop-low.invariant.within in
    halves_up itself version_cmp version_total c.args.versions.now c.args.version.now c.loop-low.low c.loop-low.high (c.loop-low.low + (c.loop-low.high - c.loop-low.low) / 2) c.index-versions-middle.result c.requires c.loop-low.invariant
    (omega arith) (omega arith) (slice_get_read c.args.versions.now _ _ c.index-versions-middle.result refl (omega arith) c.index-versions-middle.is) (sym c.in-Less.ensures)

pub returns-in-Equal : goal.returns-in-Equal
unfolding place_of_version
returns-in-Equal c =
    let w = c.loop-low.invariant.within in
    found_place itself version_cmp version_total c.args.versions.now c.args.version.now _ c.index-versions-middle.result c.requires
    (slice_get_read c.args.versions.now _ _ c.index-versions-middle.result refl (omega arith) c.index-versions-middle.is) (sym c.in-Equal.ensures)

pub loop-low-preserved : goal.loop-low-preserved
loop-low-preserved c =
    let w = c.loop-low.invariant.within in
    halves_down itself version_cmp version_total c.args.versions.now c.args.version.now c.loop-low.low c.loop-low.high (c.loop-low.low + (c.loop-low.high - c.loop-low.low) / 2) c.index-versions-middle.result c.requires c.loop-low.invariant
    (omega arith) (omega arith) (slice_get_read c.args.versions.now _ _ c.index-versions-middle.result refl (omega arith) c.index-versions-middle.is) (sym c.in-Greater.ensures)

pub returns : goal.returns
unfolding place_of_version
returns c = halves_end itself version_cmp version_total c.args.versions.now c.args.version.now c.loop-low.low c.loop-low.high c.loop-low.invariant c.loop-low-test.false
