use Rattle.std.specs.Prelude.{All, Contains}
use Rattle.std.proofs.Common.{◌≡◌, ap, arith, length, sym, subst, ◌∙◌}
use Rattle.std.specs.Vec.{vec_len}
use Rattle.std.proofs.lemmas.Bool.Decides.{Decides-eqb}
use Rattle.std.proofs.lemmas.List.{take_all}
use Rattle.std.proofs.lemmas.List.Elements.{All-nil}
use Rattle.ul_requirement.specs.Fields.{RequirementFields}
use Rattle.ul_prepared.specs.Gathered.{HasPlace}
use Rattle.ul_prepared.proofs.Taken.{base_alone, takes_none, takes_then}
use Rattle.ul_prepared.proofs.Zipped.{all_next}
use Rattle.ul_prepared.proofs.gathering.Gathered.meet_targets.Goals as goal

pub returns-then-is_empty-clause-targets : goal.returns-then-is_empty-clause-targets
returns-then-is_empty-clause-targets c =
    let inside = c.requirement.inside in
    let none : vec_len inside.extras ≡ 0 = (Decides-eqb (vec_len inside.extras) 0).0 (sym c.is_empty.ensures ∙ c.if-is_empty.true) in
    let size : length inside.extras.items ≡ 0 = omega (arith, none, inside.extras.ok) in
    let name : inside.name ≡ c.args.requirement.now.name = ap (λ (r : RequirementFields). r.name) c.requirement.view_is in
    base_alone (Contains c.meet_name.new.self.nodes.items) c.args.requirement.now (ap (λ (r : RequirementFields). length r.extras) (sym c.requirement.view_is) ∙ size)
    (c.in_ok-meet_name.ensures.gathered.based c.args.requirement.now.name (subst (HasPlace c.meet_name.new.self.places) name c.in_ok-meet_name.ensures.placed))

pub loop-target-init : goal.loop-target-init
loop-target-init c = record {
  gathered = c.requires;
  more = takes_none c.args.self.now;
  taken = All-nil (Contains c.args.self.now.nodes.items);
}

pub loop-target-preserved : goal.loop-target-preserved
loop-target-preserved c =
    let told = c.in_ok-meet.ensures in record {
      gathered = told.gathered;
      more = takes_then _ _ _ c.loop-target.invariant.more told.more;
      taken = all_next (Contains c.loop-target.self.nodes.items) (Contains c.meet.new.self.nodes.items) c.deref-target-items.result.now c.loop-target.target-index c.target-item.result
          told.more.nodes c.loop-target.invariant.taken told.taken c.loop-target-test.true c.target-item.is;
    }

pub returns-clause-targets : goal.returns-clause-targets
returns-clause-targets c = subst (All (Contains c.loop-target.self.nodes.items))
    (take_all c.loop-target.target-index c.deref-target-items.result.now c.loop-target-test.false ∙ (c.deref-target-items.ensures.value ∙ c.in_ok-targets.ensures)) c.loop-target.invariant.taken
