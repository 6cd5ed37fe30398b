use Rattle.std.specs.Prelude.{All, Contains}
use Rattle.std.proofs.Common.{◌-◌, ◌^◌, take}
use Rattle.ul_prepared.specs.Gathered.{IsGathered}
use Rattle.ul_prepared.proofs.Taken.{MetTo}
use Rattle.ul_prepared.proofs.gathering.Gathered.meet_all.Given as goal

abbrev pub invariant-loop-start : goal.invariant-loop-start
invariant-loop-start l = record {
  gathered : IsGathered l.sources.0 l.sources.1 l.self;
  starts : All (Contains l.self.nodes.items) (take l.start-index l.starts);
}

abbrev pub invariant-loop-place : goal.invariant-loop-place
invariant-loop-place l = record {
  gathered : IsGathered l.sources.0 l.sources.1 l.self;
  starts : All (Contains l.self.nodes.items) l.starts;
  met : MetTo l.self l.place;
}

abbrev pub decreases-loop-place : goal.decreases-loop-place
decreases-loop-place l = 2 ^ 64 - l.place
