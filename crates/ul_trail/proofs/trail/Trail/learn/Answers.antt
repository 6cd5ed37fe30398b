use Rattle.std.proofs.Common.{◌≡◌, ℕ, List, ◌++◌, ◌+◌, true, length, slice_get, Some, length-append, arith, ap, subst, sym, ◌∙◌}
use Rattle.ul_problem.specs.declared.term.Term.{Term}
use Rattle.ul_problem.specs.declared.step.Step.{Step}
use Rattle.ul_problem.specs.Steps.{AreRightAfter, IsStepWithin, said_by}
use Rattle.ul_trail.specs.Track.{Track}
use Rattle.ul_trail.specs.Propagation.{IsTrailOf}
use Rattle.ul_trail.specs.Standing.{AllSized, IsSettled}
use Rattle.ul_trail.specs.HeldSteps.{steps_in, ArePlaced}
use Rattle.ul_trail.specs.Kept.{IsKept, AreMarks, turns_of}
use Rattle.ul_trail.proofs.Rewinding.{settled_terms, marks_terms, learned_within, said_sized, all_sized_join, trail_learned}
use Rattle.ul_trail.proofs.trail.Trail.learn.Goals as goal

pub hold-requires-clause-within : goal.hold-requires-clause-within
hold-requires-clause-within c = subst (λ (ss : List Step). (k : ℕ) (s : Step) → slice_get ss k ≡ Some s → IsStepWithin c.args.problem.now s) (sym c.as_slice.ensures.value)
    (learned_within c.args.problem.now c.args.self.now.steps c.args.learned.items c.requires.right.follow.right c.requires.learned)

right-of : (c : goal.After-self-2-1) → IsTrailOf c.args.problem.now (record { steps = steps_in c.self.inside.held c.self.inside.watching.terms.items; terms = c.self.inside.watching.terms.items; facts = c.self.inside.standing.facts.items; sizes = c.self.inside.standing.sizes.items; width = length c.self.inside.watching.rows.items; queue = c.self.inside.queue.items; turns = turns_of c.self.inside.marks.items; whole = c.self.inside.whole })
right-of c = subst (IsTrailOf c.args.problem.now) (sym c.self.view_is) c.requires.right

kept-of : (c : goal.After-self-2-1) → IsKept c.self.inside
kept-of c = let w = right-of c in c.self.invariant w.whole

terms-is : (c : goal.After-self-2-1) → c.hold.new.watching.terms.items ≡ c.self.inside.watching.terms.items ++ said_by c.args.problem.now c.args.learned.items
terms-is c = c.in_ok-hold.ensures.terms ∙ ap (λ (ss : List Step). c.self.inside.watching.terms.items ++ said_by c.args.problem.now ss) c.as_slice.ensures.value

read-is : (c : goal.After-self-2-1) → steps_in c.append.new.self c.hold.new.watching.terms.items ≡ steps_in c.self.inside.held c.self.inside.watching.terms.items ++ c.args.learned.items
read-is c =
    let k = kept-of c in
    ap (steps_in c.append.new.self) (terms-is c) ∙ (c.in_ok-append.ensures c.args.problem.now c.self.inside.watching.terms.items k.placed).1

pub invariant_of-self-2 : goal.invariant_of-self-2
invariant_of-self-2 c = λ h.
    let k = kept-of c in
    let w = right-of c in
    let et = terms-is c in
    let len : length c.hold.new.watching.terms.items ≡ length c.self.inside.watching.terms.items + length (said_by c.args.problem.now c.args.learned.items) = ap (λ (x : List (List Term)). length x) et ∙ length-append c.self.inside.watching.terms.items (said_by c.args.problem.now c.args.learned.items) in
    let ch = k.checked in
    record {
      placed = subst (ArePlaced c.append.new.self.places.items c.append.new.self.others.items) (sym et) (c.in_ok-append.ensures c.args.problem.now c.self.inside.watching.terms.items k.placed).0;
      standing = k.standing;
      watched = c.in_ok-hold.ensures.watched;
      width = c.in_ok-hold.ensures.width ∙ k.width;
      sized = subst (AllSized c.self.inside.standing.sizes.items) (sym et) (all_sized_join c.self.inside.standing.sizes.items c.self.inside.watching.terms.items (said_by c.args.problem.now c.args.learned.items) k.sized
          (subst (λ (z : List ℕ). AllSized z (said_by c.args.problem.now c.args.learned.items)) (sym w.sizes) (said_sized c.args.problem.now c.args.learned.items c.roots.ensures.whole (learned_within c.args.problem.now c.args.self.now.steps c.args.learned.items c.requires.right.follow.right c.requires.learned))));
      seen = k.seen;
      checked = omega arith;
      settled = subst (λ (x : List (List Term)). IsSettled c.self.inside.standing.facts.items x c.self.inside.cursor.seen c.self.inside.cursor.checked) (sym et) (settled_terms c.self.inside.standing.facts.items c.self.inside.watching.terms.items (said_by c.args.problem.now c.args.learned.items) c.self.inside.cursor.seen c.self.inside.cursor.checked k.checked k.settled);
      level = k.level;
      picks = k.picks;
      indexed = k.indexed;
      positions = k.positions;
      passed = k.passed;
      marks = subst (λ (x : List (List Term)). AreMarks x c.self.inside.standing.facts.items c.self.inside.picks.items c.self.inside.queue.items c.self.inside.marks.items) (sym et) (marks_terms c.self.inside.watching.terms.items (said_by c.args.problem.now c.args.learned.items) c.self.inside.standing.facts.items c.self.inside.picks.items c.self.inside.queue.items c.self.inside.marks.items k.marks);
    }

abbrev track-of : goal.After-self-2-1 → List Step → List (List Term) → ℕ → Track
track-of c steps terms width = record { steps = steps; terms = terms; facts = c.self.inside.standing.facts.items; sizes = c.self.inside.standing.sizes.items; width = width; queue = c.self.inside.queue.items; turns = turns_of c.self.inside.marks.items; whole = true }

pub returns-clause-kept : goal.returns-clause-kept
returns-clause-kept c =
    let w = right-of c in
    let r = trail_learned c.args.problem.now _ c.args.learned.items w (subst (λ (t : Track). AreRightAfter c.args.problem.now t.steps c.args.learned.items) (sym c.self.view_is) c.requires.learned) c.requires.forbidden in
    let r1 = subst (λ (x : List Step). IsTrailOf c.args.problem.now (track-of c x (c.self.inside.watching.terms.items ++ said_by c.args.problem.now c.args.learned.items) (length c.self.inside.watching.rows.items))) (sym (read-is c)) r in
    let r2 = subst (λ (x : List (List Term)). IsTrailOf c.args.problem.now (track-of c (steps_in c.append.new.self c.hold.new.watching.terms.items) x (length c.self.inside.watching.rows.items))) (sym (terms-is c)) r1 in
    subst (λ (n : ℕ). IsTrailOf c.args.problem.now (track-of c (steps_in c.append.new.self c.hold.new.watching.terms.items) c.hold.new.watching.terms.items n)) (sym c.in_ok-hold.ensures.width) r2

pub returns-clause-steps : goal.returns-clause-steps
returns-clause-steps c = read-is c ∙ ap (λ (t : Track). t.steps ++ c.args.learned.items) c.self.view_is
