use Rattle.std.proofs.Common.{◌≡◌}
use Rattle.std.specs.Vec.Iter.{into_iter_items}
use Rattle.ul_load.specs.Loading.{comparisons_with}
use Rattle.ul_load.specs.Views.{atoms_view}
use Rattle.ul_load.proofs.comparisons.Comparisons.add.Given as goal

abbrev pub invariant-loop-atom : goal.invariant-loop-atom
invariant-loop-atom l =
    comparisons_with (atoms_view l.self) (into_iter_items l.atom-iterator) ≡ comparisons_with (atoms_view l.fn.self) l.fn.atoms.items
