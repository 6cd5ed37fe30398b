use Rattle.std.proofs.Common.{◌≡◌, arith, map, refl}
use Rattle.std.proofs.lemmas.List.{nil_from_length}
use Rattle.std.specs.Vec.Iter.{into_iter_items}
use Rattle.ul_base.proofs.ForCallers.{made_holds}
use Rattle.ul_project.specs.Extras.{of_extra}
use Rattle.ul_groups.proofs.LeftLists.{left_next, left_none}
use Rattle.ul_groups.proofs.extras.list_of_extra.Goals as goal

pub loop-requirement-preserved : goal.loop-requirement-preserved
loop-requirement-preserved c =
    let more = c.in_ok-list.ensures in
    left_next (of_extra c.args.name.now) _ _ _ _ _ c.in-Some.requirement more.0 more.2
    (made_holds c.of_extra.result more.0 (λ q. q ≡ of_extra c.args.name.now c.in-Some.requirement) more.1 c.of_extra.ensures) c.in-Some.ensures.steps.0
    c.loop-requirement.invariant

pub returns : goal.returns
returns c =
    left_none (map (of_extra c.args.name.now)) c.loop-requirement.list.items _ (into_iter_items c.loop-requirement.requirement-iterator) refl
    (nil_from_length (into_iter_items c.loop-requirement.requirement-iterator) (omega (arith, c.in-None.ensures.steps.0, c.loop-requirement.requirement-iterator.rest.ok)))
    c.loop-requirement.invariant
