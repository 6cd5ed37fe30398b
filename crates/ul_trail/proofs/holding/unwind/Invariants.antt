use Rattle.std.proofs.Common.{◌≡◌, ◌≤◌, take, length}
use Rattle.ul_trail.specs.Standing.{IsStanding}
use Rattle.ul_trail.proofs.holding.unwind.Given as goal

abbrev pub invariant-loop-standing : goal.invariant-loop-standing
invariant-loop-standing l = record {
  standing : IsStanding l.standing.sizes.items l.standing.known.items l.standing.before.items l.standing.facts.items;
  sizes : l.standing.sizes.items ≡ l.fn.standing.sizes.items;
  facts : l.standing.facts.items ≡ take (length l.standing.facts.items) l.fn.standing.facts.items;
  low : l.count ≤ length l.standing.facts.items;
}

abbrev pub decreases-loop-standing : goal.decreases-loop-standing
decreases-loop-standing l = length l.standing.facts.items
