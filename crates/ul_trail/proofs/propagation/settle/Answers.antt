use Rattle.std.proofs.lemmas.Option.{slice_get_within}
use Rattle.std.proofs.Common.{subst, inl, inr, refl}
use Rattle.ul_trail.specs.Findings.{IsFinding}
use Rattle.ul_trail.proofs.Settling.{settled_held, settled_calm, loose_sized, settled_forced, list_sized}
use Rattle.ul_trail.proofs.propagation.settle.Goals as goal

pub push-requires-clause-sized : goal.push-requires-clause-sized
push-requires-clause-sized c = loose_sized _ c.args.terms.now c.args.standing.now.facts.items c.args.place c.in-Forced.at c.index-terms-place.result c.terms-list.result.now c.index-list-at.result c.in_ok-term-in-Forced.term c.requires.sized c.requires.place c.index-terms-place.is c.terms-list.ensures.value
    (subst (IsFinding c.args.standing.now.sizes.items c.args.standing.now.facts.items c.terms-list.result.now) c.in-Forced.is c.examine-finding.ensures) c.index-list-at.is c.in_ok-term-in-Forced.ensures

pub returns-in-Held-clause-settlement : goal.returns-in-Held-clause-settlement
returns-in-Held-clause-settlement c = (
  refl,
  settled_held c.args.terms.now c.args.standing.now.facts.items c.args.place c.index-terms-place.result c.terms-list.result.now c.requires.place c.index-terms-place.is c.terms-list.ensures.value
      (subst (IsFinding c.args.standing.now.sizes.items c.args.standing.now.facts.items c.terms-list.result.now) c.in-Held.is c.examine-finding.ensures),
)

pub returns-in-Calm-clause-settlement : goal.returns-in-Calm-clause-settlement
returns-in-Calm-clause-settlement c = inl (
  refl,
  settled_calm c.args.terms.now c.args.standing.now.facts.items c.args.place c.index-terms-place.result c.terms-list.result.now c.requires.place c.index-terms-place.is c.terms-list.ensures.value
      (subst (IsFinding c.args.standing.now.sizes.items c.args.standing.now.facts.items c.terms-list.result.now) c.in-Calm.is c.examine-finding.ensures),
)

pub returns-in_ok-push-in-Forced-clause-settlement : goal.returns-in_ok-push-in-Forced-clause-settlement
returns-in_ok-push-in-Forced-clause-settlement c = inr (settled_forced c.args.standing.now.sizes.items c.args.terms.now c.args.level c.args.standing.now.facts.items c.push.new.self.facts.items c.args.place c.in-Forced.at c.index-terms-place.result c.terms-list.result.now c.index-list-at.result c.in_ok-term-in-Forced.term c.requires.sized c.requires.place c.index-terms-place.is c.terms-list.ensures.value
    (subst (IsFinding c.args.standing.now.sizes.items c.args.standing.now.facts.items c.terms-list.result.now) c.in-Forced.is c.examine-finding.ensures) c.index-list-at.is c.in_ok-term-in-Forced.ensures c.in_ok-push-in-Forced.ensures.facts)

pub examine-finding-requires-clause-sized : goal.examine-finding-requires-clause-sized
examine-finding-requires-clause-sized c = list_sized c.args.standing.now.sizes.items c.args.terms.now c.args.place c.index-terms-place.result c.terms-list.result.now c.requires.sized c.requires.place c.index-terms-place.is c.terms-list.ensures.value

pub bounds-terms-place : goal.bounds-terms-place
bounds-terms-place c = c.requires.place

pub bounds-list-at : goal.bounds-list-at
bounds-list-at c =
    let loose = subst (IsFinding c.args.standing.now.sizes.items c.args.standing.now.facts.items c.terms-list.result.now) c.in-Forced.is c.examine-finding.ensures in
    slice_get_within c.terms-list.result.now c.in-Forced.at loose.term loose.is

pub push-requires-clause-standing : goal.push-requires-clause-standing
push-requires-clause-standing c = c.requires.standing
