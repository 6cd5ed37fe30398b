use Rattle.std.proofs.Common.{◌≡◌, drop}
use Rattle.ul_load.specs.Loading.{comparisons_with}
use Rattle.ul_load.specs.Views.{atoms_of_sources, atoms_view}
use Rattle.ul_load.proofs.comparisons.Comparisons.add_sources_of.Given as goal

abbrev pub invariant-loop-source : goal.invariant-loop-source
invariant-loop-source l =
    comparisons_with (atoms_view l.self) (atoms_of_sources (drop l.source-index l.sources))
    ≡ comparisons_with (atoms_view l.fn.self) (atoms_of_sources l.sources)
