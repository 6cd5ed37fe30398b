use Rattle.std.specs.Prelude.{Contains}
use Rattle.std.proofs.Common.{take}
use Rattle.ul_prepared.specs.Gathered.{IsGathered, TakesMore}
use Rattle.ul_prepared.specs.Targets.{HaveTargets}
use Rattle.ul_prepared.proofs.gathering.Gathered.meet_list.Given as goal

abbrev pub invariant-loop-requirement : goal.invariant-loop-requirement
invariant-loop-requirement l = record {
  gathered : IsGathered l.sources.0 l.sources.1 l.self;
  more : TakesMore l.initial.self l.self;
  targets : HaveTargets (Contains l.self.nodes.items) (take l.requirement-index l.requirements);
}
