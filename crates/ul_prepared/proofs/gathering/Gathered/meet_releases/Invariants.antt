use Rattle.std.specs.Prelude.{All, Contains}
use Rattle.std.proofs.Common.{take}
use Rattle.ul_prepared.specs.Gathered.{IsGathered, TakesMore}
use Rattle.ul_prepared.specs.Lists.{lists_at}
use Rattle.ul_prepared.specs.Targets.{HaveTargets}
use Rattle.ul_prepared.proofs.gathering.Gathered.meet_releases.Given as goal

abbrev pub invariant-loop-k : goal.invariant-loop-k
invariant-loop-k l = record {
  gathered : IsGathered l.sources.0 l.sources.1 l.self;
  more : TakesMore l.initial.self l.self;
  targets : All (HaveTargets (Contains l.self.nodes.items)) (take l.k (lists_at l.initial.self.releases.items l.place));
}
