use Rattle.std.proofs.Common.{◌≡◌, ◌++◌, drop}
use Rattle.ul_inputs.specs.Locks.{kept_beside}
use Rattle.ul_inputs.proofs.locks.kept_in.Given as goal

abbrev pub invariant-loop-one : goal.invariant-loop-one
invariant-loop-one l = l.kept.items ++ kept_beside l.root (drop l.one-index l.packages) ≡ kept_beside l.root l.packages
