use Rattle.std.specs.Prelude.{Contains}
use Rattle.std.proofs.Common.{subst}
use Rattle.std.proofs.lemmas.List.{take_all}
use Rattle.std.proofs.lemmas.List.Elements.{All-nil}
use Rattle.ul_prepared.specs.Targets.{HasTargets, HaveTargets}
use Rattle.ul_prepared.proofs.Taken.{takes_none, takes_then}
use Rattle.ul_prepared.proofs.TargetFacts.{target_into}
use Rattle.ul_prepared.proofs.Zipped.{all_next}
use Rattle.ul_prepared.proofs.gathering.Gathered.meet_list.Goals as goal

pub loop-requirement-init : goal.loop-requirement-init
loop-requirement-init c = record {
  gathered = c.requires;
  more = takes_none c.args.self.now;
  targets = All-nil (HasTargets (Contains c.args.self.now.nodes.items));
}

pub loop-requirement-preserved : goal.loop-requirement-preserved
loop-requirement-preserved c =
    let told = c.in_ok-meet_targets.ensures in
    let before = Contains c.loop-requirement.self.nodes.items in
    let after = Contains c.meet_targets.new.self.nodes.items in record {
      gathered = told.gathered;
      more = takes_then _ _ _ c.loop-requirement.invariant.more told.more;
      targets = all_next (HasTargets before) (HasTargets after) c.args.requirements.now c.loop-requirement.requirement-index c.requirement-item.result
          (λ q h. target_into before after told.more.nodes q h) c.loop-requirement.invariant.targets told.targets c.loop-requirement-test.true c.requirement-item.is;
    }

pub returns-clause-targets : goal.returns-clause-targets
returns-clause-targets c = subst (HaveTargets (Contains c.loop-requirement.self.nodes.items))
    (take_all c.loop-requirement.requirement-index c.args.requirements.now c.loop-requirement-test.false) c.loop-requirement.invariant.targets
