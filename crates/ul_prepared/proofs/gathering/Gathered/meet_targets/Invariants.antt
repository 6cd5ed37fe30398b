use Rattle.std.specs.Prelude.{All, Contains}
use Rattle.std.proofs.Common.{take}
use Rattle.ul_prepared.specs.Gathered.{IsGathered, TakesMore}
use Rattle.ul_prepared.proofs.gathering.Gathered.meet_targets.Given as goal

abbrev pub invariant-loop-target : goal.invariant-loop-target
invariant-loop-target l = record {
  gathered : IsGathered l.sources.0 l.sources.1 l.self;
  more : TakesMore l.initial.self l.self;
  taken : All (Contains l.self.nodes.items) (take l.target-index l.target-items);
}
