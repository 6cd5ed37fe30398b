use Rattle.std.proofs.Common.{◌≡◌, drop, flat_map}
use Rattle.ul_load.specs.Loading.{comparisons_with}
use Rattle.ul_load.specs.Views.{atoms_of_sources, atoms_view}
use Rattle.ul_load.proofs.comparisons.Comparisons.add_sources.Given as goal

abbrev pub invariant-loop-named : goal.invariant-loop-named
invariant-loop-named l =
    comparisons_with (atoms_view l.self) (flat_map (λ named. atoms_of_sources named.1) (drop l.named-index l.sources))
    ≡ comparisons_with (atoms_view l.fn.self) (flat_map (λ named. atoms_of_sources named.1) l.sources)
