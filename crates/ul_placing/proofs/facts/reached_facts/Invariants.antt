use Rattle.std.specs.Prelude.{slice_get}
use Rattle.std.proofs.Common.{◌≡◌, ◌≤◌, ℕ, List, drop, length, ◌++◌}
use Rattle.ul_problem.specs.declared.problem.NodeFacts.{NodeFacts}
use Rattle.ul_region.specs.Truths.{region_at}
use Rattle.ul_placing.specs.Facts.{AreFacts}
use Rattle.ul_placing.proofs.facts.reached_facts.Given as goal

abbrev pub invariant-loop-place_at : goal.invariant-loop-place_at
invariant-loop-place_at l = record {
  long : length l.aims.items ≡ length l.initial.aims.items;
  same : (k : ℕ) → l.place_at ≤ k → slice_get l.aims.items k ≡ slice_get l.initial.aims.items k;
  facts : (rest : List NodeFacts)
      → AreFacts (region_at l.place.region.now) l.prepared l.ranks (drop l.place_at l.prepared.nodes.items) (drop l.place_at l.initial.aims.items) rest
      → AreFacts (region_at l.place.region.now) l.prepared l.ranks l.prepared.nodes.items l.initial.aims.items (l.nodes.items ++ rest);
}
