use Rattle.std.proofs.Common.{◌≡◌, drop}
use Rattle.ul_load.specs.Loading.{names_of, names_with}
use Rattle.ul_load.proofs.met.meet_requirements.Given as goal

abbrev pub invariant-loop-requirement : goal.invariant-loop-requirement
invariant-loop-requirement l =
    names_with l.names.keys (names_of (drop l.requirement-index l.requirements)) ≡ names_with l.fn.names.keys (names_of l.requirements)
