use Rattle.std.proofs.Common.{◌≡◌, ◌++◌, take, length}
use Rattle.ul_problem.specs.Best.{joined_needs}
use Rattle.ul_trail.specs.Propagation.{root_facts}
use Rattle.ul_trail.specs.Counts.{sizes_of}
use Rattle.ul_trail.specs.Standing.{IsStanding}
use Rattle.ul_trail.specs.Kept.{IsIndexed}
use Rattle.ul_trail.specs.Roots.{root_picks}
use Rattle.ul_trail.proofs.rooting.plant.Given as goal

abbrev pub invariant-loop-place : goal.invariant-loop-place
invariant-loop-place l = record {
  standing : IsStanding l.standing.sizes.items l.standing.known.items l.standing.before.items l.standing.facts.items;
  sizes : l.standing.sizes.items ≡ sizes_of l.problem;
  facts : l.standing.facts.items ≡ root_facts l.problem (take l.place l.roots);
  picks : l.asked.picks.items ≡ root_picks (take l.place l.roots);
  indexed : IsIndexed l.asked.picks.items l.asked.positions.items;
  positions : length l.asked.positions.items ≡ length l.problem.nodes;
  queue : l.asked.queue.items ≡ l.problem.roots ++ joined_needs l.problem (root_picks (take l.place l.roots));
}
