use Rattle.std.proofs.Common.{◌≡◌, drop}
use Rattle.ul_load.specs.Loading.{atoms_in, comparisons_with, requirements_of}
use Rattle.ul_load.specs.Views.{atoms_view}
use Rattle.ul_load.proofs.comparisons.Comparisons.add_releases.Given as goal

abbrev pub invariant-loop-release : goal.invariant-loop-release
invariant-loop-release l =
    comparisons_with (atoms_view l.self) (atoms_in (requirements_of (drop l.release-index l.releases)))
    ≡ comparisons_with (atoms_view l.fn.self) (atoms_in (requirements_of l.releases))
