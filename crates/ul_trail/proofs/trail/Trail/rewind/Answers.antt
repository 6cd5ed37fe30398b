use Rattle.std.proofs.Common.{◌≡◌, ℕ, List, Bool, true, length, take, slice_get, Some, arith, ap, subst, sym, ◌∙◌, refl}
use Rattle.std.proofs.lemmas.Option.{slice_get_read}
use Rattle.ul_problem.specs.Best.{Picks}
use Rattle.ul_trail.specs.Track.{Track}
use Rattle.ul_trail.specs.Facts.{level_of, picks_of, up_to}
use Rattle.ul_trail.specs.Propagation.{IsTrailOf}
use Rattle.ul_trail.specs.Standing.{AllSized, IsSettled}
use Rattle.ul_trail.specs.HeldSteps.{steps_in}
use Rattle.ul_trail.specs.Kept.{IsKept, AreMarks, HasPassed, IsIndexed, IsMark, turns_of}
use Rattle.ul_trail.specs.declared.fact.Fact.{Fact}
use Rattle.ul_trail.specs.declared.mark.Mark.{Mark}
use Rattle.ul_trail.proofs.Levels.{up_to-all}
use Rattle.ul_trail.proofs.Rewinding.{take_length, turns_take, turns_at, turns_rise_of, indexed_take, marks_take, trail_back_to}
use Rattle.ul_trail.proofs.trail.Trail.rewind.Goals as goal

pub unwind-requires-clause-count : goal.unwind-requires-clause-count
unwind-requires-clause-count c =
    let k = c.self.invariant (ap (λ (t : Track). t.whole) c.self.view_is ∙ c.requires.right.whole) in
    let e : slice_get c.self.inside.marks.items c.args.level ≡ Some c.index-mark.result.now = slice_get_read c.self.inside.marks.items (length c.self.inside.marks.items) c.args.level c.index-mark.result.now refl (omega arith) c.index-mark.ensures in
    (k.marks.at c.args.level c.index-mark.result.now e).facts_within

right-of : (c : goal.After-self-then-level-len-1) → IsTrailOf c.args.problem.now (record { steps = steps_in c.self.inside.held c.self.inside.watching.terms.items; terms = c.self.inside.watching.terms.items; facts = c.self.inside.standing.facts.items; sizes = c.self.inside.standing.sizes.items; width = length c.self.inside.watching.rows.items; queue = c.self.inside.queue.items; turns = turns_of c.self.inside.marks.items; whole = c.self.inside.whole })
right-of c = subst (IsTrailOf c.args.problem.now) (sym c.self.view_is) c.requires.right

kept-of : (c : goal.After-self-then-level-len-1) → IsKept c.self.inside
kept-of c = let w = right-of c in c.self.invariant w.whole

at-of : (c : goal.After-self-then-level-len-1) → slice_get c.self.inside.marks.items c.args.level ≡ Some c.index-mark.result.now
at-of c = slice_get_read c.self.inside.marks.items (length c.self.inside.marks.items) c.args.level c.index-mark.result.now refl (omega arith) c.index-mark.ensures

mark-of : (c : goal.After-self-then-level-len-1) → IsMark c.self.inside.watching.terms.items c.self.inside.standing.facts.items c.self.inside.picks.items c.self.inside.queue.items c.args.level c.index-mark.result.now
mark-of c = let k = kept-of c in k.marks.at c.args.level c.index-mark.result.now (at-of c)

pub invariant_of-self : goal.invariant_of-self
invariant_of-self c = λ h.
    let k = kept-of c in
    let m = mark-of c in
    let ef = c.unwind.ensures.facts in
    let ep = c.truncate.ensures.items in
    let eq = c.truncate-then-level-len.ensures.items in
    let em = c.truncate-then-level-len-2.ensures.items in
    let len : length c.unwind.new.standing.facts.items ≡ c.index-mark.result.now.facts = ap (λ (x : List Fact). length x) ef ∙ take_length c.self.inside.standing.facts.items c.index-mark.result.now.facts m.facts_within in
    let mlen : length (take c.args.level c.self.inside.marks.items) ≡ c.args.level = take_length c.self.inside.marks.items c.args.level (omega arith) in
    record {
      placed = k.placed;
      standing = c.unwind.ensures.standing;
      watched = k.watched;
      width = k.width ∙ ap (λ (z : List ℕ). length z) (sym c.unwind.ensures.sizes);
      sized = subst (λ (z : List ℕ). AllSized z c.self.inside.watching.terms.items) (sym c.unwind.ensures.sizes) k.sized;
      seen = omega arith;
      checked = m.checked;
      settled = subst (λ (x : List Fact). IsSettled x c.self.inside.watching.terms.items c.index-mark.result.now.facts c.index-mark.result.now.checked) (sym ef) m.settled;
      level = ap level_of ef ∙ (m.level ∙ (sym mlen ∙ ap (λ (x : List Mark). length x) (sym em)));
      picks = ep ∙ (m.picked ∙ ap picks_of (sym ef));
      indexed = subst (λ (d : Picks). IsIndexed d c.self.inside.positions.items) (sym ep) (indexed_take c.self.inside.picks.items c.self.inside.positions.items c.index-mark.result.now.picks k.indexed);
      positions = k.positions ∙ ap (λ (z : List ℕ). length z) (sym c.unwind.ensures.sizes);
      passed = subst (λ (q : List ℕ). HasPassed q c.truncate.new.self.items c.index-mark.result.now.first) (sym eq) (subst (λ (d : Picks). HasPassed (take c.index-mark.result.now.queue c.self.inside.queue.items) d c.index-mark.result.now.first) (sym ep) m.passed);
      marks = subst (λ (ms : List Mark). AreMarks c.self.inside.watching.terms.items c.unwind.new.standing.facts.items c.truncate.new.self.items c.truncate-then-level-len.new.self.items ms) (sym em)
          (subst (λ (q : List ℕ). AreMarks c.self.inside.watching.terms.items c.unwind.new.standing.facts.items c.truncate.new.self.items q (take c.args.level c.self.inside.marks.items)) (sym eq)
          (subst (λ (d : Picks). AreMarks c.self.inside.watching.terms.items c.unwind.new.standing.facts.items d (take c.index-mark.result.now.queue c.self.inside.queue.items) (take c.args.level c.self.inside.marks.items)) (sym ep)
          (subst (λ (x : List Fact). AreMarks c.self.inside.watching.terms.items x (take c.index-mark.result.now.picks c.self.inside.picks.items) (take c.index-mark.result.now.queue c.self.inside.queue.items) (take c.args.level c.self.inside.marks.items)) (sym ef)
          (marks_take c.self.inside.watching.terms.items c.self.inside.standing.facts.items c.self.inside.picks.items c.self.inside.queue.items c.self.inside.marks.items c.args.level c.index-mark.result.now (at-of c) k.marks))));
    }

abbrev track-of : goal.After-self-then-level-len-1 → List Fact → List ℕ → List ℕ → List ℕ → Track
track-of c facts sizes queue turns = record { steps = steps_in c.self.inside.held c.self.inside.watching.terms.items; terms = c.self.inside.watching.terms.items; facts = facts; sizes = sizes; width = length c.self.inside.watching.rows.items; queue = queue; turns = turns; whole = true }

pub returns-then-level-len-clause-kept : goal.returns-then-level-len-clause-kept
returns-then-level-len-clause-kept c =
    let w = right-of c in
    let k = kept-of c in
    let m = mark-of c in
    let r = trail_back_to c.args.problem.now _ c.args.level c.index-mark.result.now.facts c.index-mark.result.now.queue
    (turns_rise_of c.self.inside.watching.terms.items c.self.inside.standing.facts.items c.self.inside.picks.items c.self.inside.queue.items c.self.inside.marks.items c.args.level c.index-mark.result.now (at-of c) k.marks)
    w m.front m.level (turns_at c.self.inside.marks.items c.args.level c.index-mark.result.now (at-of c)) in
    let ef = c.unwind.ensures.facts in
    let eq = c.truncate-then-level-len.ensures.items in
    let et : turns_of c.truncate-then-level-len-2.new.self.items ≡ take c.args.level (turns_of c.self.inside.marks.items) = ap turns_of c.truncate-then-level-len-2.ensures.items ∙ turns_take c.self.inside.marks.items c.args.level in
    let r1 = subst (λ (x : List Fact). IsTrailOf c.args.problem.now (track-of c x c.self.inside.standing.sizes.items (take c.index-mark.result.now.queue c.self.inside.queue.items) (take c.args.level (turns_of c.self.inside.marks.items)))) (sym ef) r in
    let r2 = subst (λ (z : List ℕ). IsTrailOf c.args.problem.now (track-of c c.unwind.new.standing.facts.items z (take c.index-mark.result.now.queue c.self.inside.queue.items) (take c.args.level (turns_of c.self.inside.marks.items)))) (sym c.unwind.ensures.sizes) r1 in
    let r3 = subst (λ (q : List ℕ). IsTrailOf c.args.problem.now (track-of c c.unwind.new.standing.facts.items c.unwind.new.standing.sizes.items q (take c.args.level (turns_of c.self.inside.marks.items)))) (sym eq) r2 in
    let r4 = subst (λ (q : List ℕ). IsTrailOf c.args.problem.now (track-of c c.unwind.new.standing.facts.items c.unwind.new.standing.sizes.items c.truncate-then-level-len.new.self.items q)) (sym et) r3 in
    subst (λ (b : Bool). IsTrailOf c.args.problem.now (record { steps = steps_in c.self.inside.held c.self.inside.watching.terms.items; terms = c.self.inside.watching.terms.items; facts = c.unwind.new.standing.facts.items; sizes = c.unwind.new.standing.sizes.items; width = length c.self.inside.watching.rows.items; queue = c.truncate-then-level-len.new.self.items; turns = turns_of c.truncate-then-level-len-2.new.self.items; whole = b })) (sym w.whole) r4

pub returns-then-level-len-clause-facts : goal.returns-then-level-len-clause-facts
returns-then-level-len-clause-facts c = let m = mark-of c in c.unwind.ensures.facts ∙ (m.front ∙ ap (λ (t : Track). up_to c.args.level t.facts) c.self.view_is)

pub returns-else-level-len-clause-facts : goal.returns-else-level-len-clause-facts
returns-else-level-len-clause-facts c =
    let k = c.self.invariant (ap (λ (t : Track). t.whole) c.self.view_is ∙ c.requires.right.whole) in
    let e : level_of c.args.self.now.facts ≡ level_of c.self.inside.standing.facts.items = ap (λ (t : Track). level_of t.facts) (sym c.self.view_is) in
    let l = k.level in
    sym (up_to-all c.args.level c.args.self.now.facts (omega arith))
