use Rattle.std.proofs.Common.{◌≡◌}
use Rattle.ul_trail.proofs.Walking.{Walks}
use Rattle.ul_trail.proofs.propagation.walk.Given as goal

abbrev pub invariant-loop-place : goal.invariant-loop-place
invariant-loop-place l = record {
  sizes : l.standing.sizes.items ≡ l.fn.standing.sizes.items;
  walks : Walks l.fn.standing.sizes.items l.standing.known.items l.standing.before.items l.watching.terms.items l.level l.fn.cursor.seen l.fn.cursor.checked l.fn.standing.facts.items l.standing.facts.items l.row l.place-index;
}
