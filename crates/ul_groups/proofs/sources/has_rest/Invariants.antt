use Rattle.std.proofs.Common.{◌≡◌, take, true}
use Rattle.ul_groups.specs.Sourced.{has_rest}
use Rattle.ul_groups.proofs.sources.has_rest.Given as goal

abbrev pub invariant-loop-source : goal.invariant-loop-source
invariant-loop-source l = has_rest (take l.source-index l.sources) ≡ true
