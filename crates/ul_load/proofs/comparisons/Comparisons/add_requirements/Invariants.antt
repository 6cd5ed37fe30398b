use Rattle.std.proofs.Common.{◌≡◌, drop}
use Rattle.ul_load.specs.Loading.{atoms_in, comparisons_with}
use Rattle.ul_load.specs.Views.{atoms_view}
use Rattle.ul_load.proofs.comparisons.Comparisons.add_requirements.Given as goal

abbrev pub invariant-loop-requirement : goal.invariant-loop-requirement
invariant-loop-requirement l =
    comparisons_with (atoms_view l.self) (atoms_in (drop l.requirement-index l.requirements))
    ≡ comparisons_with (atoms_view l.fn.self) (atoms_in l.requirements)
