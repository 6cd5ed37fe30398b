use Rattle.std.proofs.Common.{◌≡◌, ◌∙◌, ap}
use Rattle.std.proofs.lemmas.List.{take_all}
use Rattle.ul_base.proofs.ForCallers.{made_holds}
use Rattle.ul_prepared.specs.Lists.{lists_of}
use Rattle.ul_prepared.proofs.Loops.{mapped_more}
use Rattle.ul_prepared.proofs.shared.lists_by_extra.Goals as goal

pub loop-requirements-preserved : goal.loop-requirements-preserved
loop-requirements-preserved c =
    let more = c.in_ok-found-2.ensures in
    let one = more.0 in
    mapped_more (λ l. l.now) c.args.lists.now c.loop-requirements.found.items c.in_ok-found-2.found.items c.loop-requirements.requirements-index c.requirements-item.result one
    more.2 c.loop-requirements.invariant (made_holds c.of.result one (λ b. b ≡ c.requirements-item.result.now) more.1 c.of.ensures) c.loop-requirements-test.true c.requirements-item.is

pub returns : goal.returns
returns c = c.loop-requirements.invariant ∙ ap lists_of (take_all c.loop-requirements.requirements-index c.args.lists.now c.loop-requirements-test.false)
