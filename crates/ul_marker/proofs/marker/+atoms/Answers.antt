use Rattle.std.proofs.Common.{arith, refl}
use Rattle.ul_marker.proofs.Walks.{atoms_end, atoms_next}
use Rattle.ul_marker.proofs.marker.+atoms.Goals as goal

pub add_part_atoms-loop-part-init : goal.add_part_atoms-loop-part-init
add_part_atoms-loop-part-init t c = refl

pub add_part_atoms-loop-part-preserved : goal.add_part_atoms-loop-part-preserved
add_part_atoms-loop-part-preserved t c =
    atoms_next _ _ _ _ _ _ c.in_ok-atoms.ensures c.loop-part-test.true c.part-item.is c.loop-part.invariant

pub add_part_atoms-returns : goal.add_part_atoms-returns
add_part_atoms-returns t c = atoms_end c.args.parts.now c.loop-part.part-index _ _ (omega arith) c.loop-part.invariant
