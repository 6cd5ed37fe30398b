use Rattle.std.proofs.Common.{arith, refl, sym, ◌+◌, ◌-◌, ◌/◌, []}
use Rattle.std.proofs.lemmas.Option.{slice_get_read}
use Rattle.ul_lock_read.specs.Automaton.{plain_block}
use Rattle.ul_lock_read.proofs.Halving.{halves_begin, halves_up, halves_down, halves_end}
use Rattle.ul_lock_read.proofs.targets.place_of.Goals as goal

pub loop-low-init : goal.loop-low-init
loop-low-init c = halves_begin c.args.packages.now (plain_block c.args.name.now c.args.version.now [] [] []) _ refl

pub loop-low-preserved-in-Less : goal.loop-low-preserved-in-Less
loop-low-preserved-in-Less c =
    let w = c.loop-low.invariant.within in
    let key = plain_block c.args.name.now c.args.version.now [] [] [] in
    halves_up c.args.packages.now key c.loop-low.low c.loop-low.high (c.loop-low.low + (c.loop-low.high - c.loop-low.low) / 2) c.index-packages-middle.result c.requires c.loop-low.invariant
    (omega arith) (omega arith) (slice_get_read c.args.packages.now _ _ c.index-packages-middle.result refl (omega arith) c.index-packages-middle.is) (sym c.in-Less.ensures)

pub returns-in-Equal : goal.returns-in-Equal
returns-in-Equal c =
    let w = c.loop-low.invariant.within in (
      c.index-packages-middle.result,
      slice_get_read c.args.packages.now _ _ c.index-packages-middle.result refl (omega arith) c.index-packages-middle.is,
      sym c.in-Equal.ensures,
    )

pub loop-low-preserved : goal.loop-low-preserved
loop-low-preserved c =
    let w = c.loop-low.invariant.within in
    let key = plain_block c.args.name.now c.args.version.now [] [] [] in
    halves_down c.args.packages.now key c.loop-low.low c.loop-low.high (c.loop-low.low + (c.loop-low.high - c.loop-low.low) / 2) c.index-packages-middle.result c.requires c.loop-low.invariant
    (omega arith) (omega arith) (slice_get_read c.args.packages.now _ _ c.index-packages-middle.result refl (omega arith) c.index-packages-middle.is) (sym c.in-Greater.ensures)

pub returns : goal.returns
returns c = halves_end c.args.packages.now (plain_block c.args.name.now c.args.version.now [] [] []) c.loop-low.low c.loop-low.high c.loop-low.invariant c.loop-low-test.false
