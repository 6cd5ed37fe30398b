use Rattle.std.proofs.Common.{◌≡◌, ◌++◌, drop, map, take}
use Rattle.ul_commands.specs.Relocking.{refreshed_package}
use Rattle.ul_commands.proofs.keeping.refresh_packages.Given as goal

abbrev pub invariant-loop-block : goal.invariant-loop-block
invariant-loop-block l =
    take l.block-index l.packages ++ map (refreshed_package l.catalog) (drop l.block-index l.packages)
    ≡ map (refreshed_package l.catalog) l.initial.packages
