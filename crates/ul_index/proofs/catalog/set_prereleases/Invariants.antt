use Rattle.std.proofs.Common.{◌≡◌, ◌++◌, drop, take}
use Rattle.ul_index.specs.Catalogs.{with_prereleases}
use Rattle.ul_index.proofs.catalog.set_prereleases.Given as goal

abbrev pub invariant-loop-found : goal.invariant-loop-found
invariant-loop-found l =
    take l.found-index l.packages ++ with_prereleases l.mode (drop l.found-index l.packages) ≡ with_prereleases l.mode l.initial.packages
