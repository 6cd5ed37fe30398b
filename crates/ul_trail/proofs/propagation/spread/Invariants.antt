use Rattle.std.proofs.Common.{◌≡◌, ◌≤◌, ◌+◌, ◌-◌, ◌*◌, length}
use Rattle.ul_trail.specs.Counts.{open_in}
use Rattle.ul_trail.specs.Standing.{IsStanding, IsSettled, HasForced}
use Rattle.ul_trail.proofs.propagation.spread.Given as goal

abbrev pub invariant-loop-now : goal.invariant-loop-now
invariant-loop-now l = record {
  sizes : l.standing.sizes.items ≡ l.fn.standing.sizes.items;
  standing : IsStanding l.standing.sizes.items l.standing.known.items l.standing.before.items l.standing.facts.items;
  grown : HasForced l.fn.standing.sizes.items l.watching.terms.items l.level l.fn.standing.facts.items l.standing.facts.items;
  seen : l.now.seen ≤ length l.standing.facts.items;
  checked : l.now.checked ≤ length l.watching.terms.items;
  settled : IsSettled l.standing.facts.items l.watching.terms.items l.now.seen l.now.checked;
}

abbrev pub decreases-loop-now : goal.decreases-loop-now
decreases-loop-now l = 2 * open_in l.fn.standing.sizes.items l.standing.facts.items + (length l.standing.facts.items - l.now.seen) + (length l.watching.terms.items - l.now.checked)
