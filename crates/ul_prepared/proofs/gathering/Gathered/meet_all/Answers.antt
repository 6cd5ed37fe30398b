use Rattle.std.specs.Prelude.{All, Contains}
use Rattle.std.proofs.Common.{subst, arith}
use Rattle.std.proofs.lemmas.List.{take_all}
use Rattle.std.proofs.lemmas.List.Elements.{All-nil, All-weaker}
use Rattle.ul_prepared.proofs.Taken.{met_all, met_next}
use Rattle.ul_prepared.proofs.Zipped.{all_next}
use Rattle.ul_prepared.proofs.gathering.Gathered.meet_all.Goals as goal

pub loop-start-init : goal.loop-start-init
loop-start-init c = record { gathered = c.requires; starts = All-nil (Contains c.args.self.now.nodes.items) }

pub loop-start-preserved : goal.loop-start-preserved
loop-start-preserved c =
    let told = c.in_ok-meet.ensures in record {
      gathered = told.gathered;
      starts = all_next (Contains c.loop-start.self.nodes.items) (Contains c.meet.new.self.nodes.items) c.args.starts.now c.loop-start.start-index c.start-item.result
          told.more.nodes c.loop-start.invariant.starts told.taken c.loop-start-test.true c.start-item.is;
    }

pub loop-place-init : goal.loop-place-init
loop-place-init c = record {
  gathered = c.loop-start.invariant.gathered;
  starts = subst (All (Contains c.loop-start.self.nodes.items)) (take_all c.loop-start.start-index c.args.starts.now c.loop-start-test.false) c.loop-start.invariant.starts;
  met = λ k r below at. absurd (omega (arith, below));
}

pub loop-place-preserved : goal.loop-place-preserved
loop-place-preserved c =
    let told = c.in_ok-meet_releases.ensures in
    let before = c.loop-place.self in
    let after = c.meet_releases.new.self in record {
      gathered = told.gathered;
      starts = All-weaker (Contains before.nodes.items) (Contains after.nodes.items) told.more.nodes c.args.starts.now c.loop-place.invariant.starts;
      met = met_next before after c.loop-place.place told.more (omega (arith, c.loop-place-test.true, c.len.ensures, before.releases.ok)) c.loop-place.invariant.met told.targets;
    }

pub returns-clause-whole : goal.returns-clause-whole
returns-clause-whole c = record {
  starts = c.loop-place.invariant.starts;
  targets = met_all c.loop-place.self c.loop-place.place (omega (arith, c.loop-place-test.false, c.len.ensures, c.loop-place.self.releases.ok)) c.loop-place.invariant.met;
}
