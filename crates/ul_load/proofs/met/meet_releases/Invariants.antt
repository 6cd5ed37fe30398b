use Rattle.std.proofs.Common.{◌≡◌, drop}
use Rattle.ul_load.specs.Loading.{names_of, names_with, requirements_of}
use Rattle.ul_load.proofs.met.meet_releases.Given as goal

abbrev pub invariant-loop-release : goal.invariant-loop-release
invariant-loop-release l =
    names_with l.names.keys (names_of (requirements_of (drop l.release-index l.releases)))
    ≡ names_with l.fn.names.keys (names_of (requirements_of l.releases))
