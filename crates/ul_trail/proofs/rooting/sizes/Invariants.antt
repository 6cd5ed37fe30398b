use Rattle.std.proofs.Common.{◌≡◌, take}
use Rattle.ul_trail.specs.Counts.{size_list}
use Rattle.ul_trail.proofs.rooting.sizes.Given as goal

abbrev pub invariant-loop-facts : goal.invariant-loop-facts
invariant-loop-facts l = l.sizes.items ≡ size_list (take l.facts-index l.nodes)
