use Rattle.std.proofs.Common.{List, ℕ, ap, get_or, map, refl, sym, ◌∙◌}
use Rattle.ul_index.proofs.DirectPlaces.{found_more, more_ahead, past_ahead, walk_more}
use Rattle.ul_index.proofs.direct_index.DirectIndex.on.Goals as goal

pub loop-requirement-preserved-then-is_on : goal.loop-requirement-preserved-then-is_on
loop-requirement-preserved-then-is_on c =
    let there = c.in-Some.ensures.lookup in
    walk_more c.args.requirements.now c.args.name.now (map (λ q. q.now) c.loop-requirement.found.items) _ c.loop-requirement.place _ c.in-Some.requirement.now c.args.self.now.next.items
    there.3.0 there.1 (sym c.is_on.ensures ∙ c.if-is_on.true) c.requires.next (ap (λ (l : List ℕ). get_or l c.loop-requirement.place 0) c.as_slice-next.ensures.value)
    (found_more (λ q. q.now) c.loop-requirement.found.items c.push.new.self.items c.in-Some.requirement c.in_ok-push.ensures.items) c.loop-requirement.invariant

pub loop-requirement-smaller-then-is_on : goal.loop-requirement-smaller-then-is_on
loop-requirement-smaller-then-is_on c =
    let there = c.in-Some.ensures.lookup in
    more_ahead c.args.requirements.now c.args.name.now c.loop-requirement.place _ c.in-Some.requirement.now c.args.self.now.next.items
    there.3.0 there.1 (sym c.is_on.ensures ∙ c.if-is_on.true) c.requires.next (ap (λ (l : List ℕ). get_or l c.loop-requirement.place 0) c.as_slice-next.ensures.value)

pub loop-requirement-smaller : goal.loop-requirement-smaller
loop-requirement-smaller c =
    let there = c.in-Some.ensures.lookup in
    past_ahead c.args.requirements.now c.args.name.now c.loop-requirement.place _ c.in-Some.requirement.now
    there.3.0 there.1 (sym c.is_on.ensures ∙ c.if-is_on.false) refl
