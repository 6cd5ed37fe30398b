use Rattle.std.proofs.lemmas.Option.{slice_get_within}
use Rattle.std.proofs.Common.{◌≡◌, ℕ, List, [], ◌∷◌, ◌++◌, ◌+◌, ◌≤◌, suc, true, false, length, length-append, arith, ap, subst, sym, ◌∙◌, refl, None, Some}
use Rattle.ul_problem.specs.declared.term.Term.{Term}
use Rattle.ul_problem.specs.declared.term.Term.TheVariants.{In}
use Rattle.ul_problem.specs.Plain.{size_of, needs_of}
use Rattle.ul_problem.specs.Best.{Picks, is_decided, targets}
use Rattle.ul_problem.specs.declared.problem.Need.{Need}
use Rattle.ul_problem.proofs.ForCallers.{not_decided, node_of_size}
use Rattle.ul_trail.specs.Track.{Track}
use Rattle.ul_trail.specs.Facts.{is_open, level_of, picks_of, one_of}
use Rattle.ul_trail.specs.Propagation.{IsTrailOf}
use Rattle.ul_trail.specs.Moves.{decision_at}
use Rattle.ul_trail.specs.Standing.{AllSized, IsSettled}
use Rattle.ul_trail.specs.HeldSteps.{steps_in}
use Rattle.ul_trail.specs.Kept.{IsKept, AreMarks, HasPassed, turns_of, IsIndexed}
use Rattle.ul_trail.specs.declared.fact.Fact.{Fact}
use Rattle.ul_trail.specs.declared.mark.Mark.{Mark}
use Rattle.ul_trail.proofs.Settling.{settled_push}
use Rattle.ul_trail.proofs.Decisions.{decision_sized, decided_there, passed_push, level_push, picks_push, marks_push, turns_push, trail_decided, mark_settled, IsMarkOf}
use Rattle.ul_trail.proofs.trail.Trail.decide.Goals as goal

pub push-requires-2-clause-sized : goal.push-requires-2-clause-sized
push-requires-2-clause-sized c =
    let w : IsTrailOf c.args.problem.now (record { steps = steps_in c.self.inside.held c.self.inside.watching.terms.items; terms = c.self.inside.watching.terms.items; facts = c.self.inside.standing.facts.items; sizes = c.self.inside.standing.sizes.items; width = length c.self.inside.watching.rows.items; queue = c.self.inside.queue.items; turns = turns_of c.self.inside.marks.items; whole = c.self.inside.whole })
    = subst (IsTrailOf c.args.problem.now) (sym c.self.view_is) c.requires.right in
    decision_sized c.args.problem.now c.self.inside.standing.sizes.items c.args.node c.args.version c.size_at.result c.decision-term.result w.sizes c.requires.there c.size_at.ensures c.decision-term.ensures

right-of : (c : goal.After-self-3-1) → IsTrailOf c.args.problem.now (record { steps = steps_in c.self.inside.held c.self.inside.watching.terms.items; terms = c.self.inside.watching.terms.items; facts = c.self.inside.standing.facts.items; sizes = c.self.inside.standing.sizes.items; width = length c.self.inside.watching.rows.items; queue = c.self.inside.queue.items; turns = turns_of c.self.inside.marks.items; whole = c.self.inside.whole })
right-of c = subst (IsTrailOf c.args.problem.now) (sym c.self.view_is) c.requires.right

kept-of : (c : goal.After-self-3-1) → IsKept c.self.inside
kept-of c = let w = right-of c in c.self.invariant w.whole

abbrev fact-of : goal.After-self-3-1 → Fact
fact-of c = record { term = c.decision-term.result; level = c.len-level.result; cause = None }

level-is : (c : goal.After-self-3-1) → c.len-level.result ≡ suc (level_of c.self.inside.standing.facts.items)
level-is c =
    let k = kept-of c in
    let e = k.level in
    let m : length c.push.new.self.items ≡ length c.self.inside.marks.items + 1 = ap (λ (x : List Mark). length x) c.in_ok-push.ensures.items ∙ length-append c.self.inside.marks.items (c.mark_of-mark.result ∷ []) in
    let l = c.len-level.ensures in
    omega arith

picks-is : (c : goal.After-self-3-1) → c.pick.new.picks.items ≡ c.self.inside.picks.items ++ (c.args.node, c.args.version) ∷ []
picks-is c = c.in_ok-pick.ensures.picks

queue-is : (c : goal.After-self-3-1) → c.pick.new.queue.items ≡ c.self.inside.queue.items ++ targets (needs_of c.args.problem.now c.args.node c.args.version)
queue-is c = c.in_ok-pick.ensures.queue ∙ ap (λ (x : List Need). c.self.inside.queue.items ++ targets x) c.needs_at.ensures

passed-is : (c : goal.After-self-3-1) → HasPassed c.self.inside.queue.items c.self.inside.picks.items c.first_undecided-first.result
passed-is c = subst (λ (q : List ℕ). HasPassed q c.self.inside.picks.items c.first_undecided-first.result) c.as_slice.ensures.value
    (subst (λ (d : Picks). HasPassed c.as_slice.result.now d c.first_undecided-first.result) c.as_slice-2.ensures.value c.first_undecided-first.ensures.passed)

mark-of : (c : goal.After-self-3-1) → IsMarkOf c.self.inside.watching.terms.items c.self.inside.standing.facts.items c.self.inside.picks.items c.self.inside.queue.items c.mark_of-mark.result
mark-of c =
    let k = kept-of c in
    let a = k.checked in let b = c.mark_of-mark.ensures.checked in
    record {
      facts_are = c.mark_of-mark.ensures.facts;
      picks_are = let x = c.mark_of-mark.ensures.picks in let y = c.len.ensures in omega arith;
      queue_is = let x = c.mark_of-mark.ensures.queue in let y = c.len-2.ensures in omega arith;
      passed = subst (λ (j : ℕ). HasPassed c.self.inside.queue.items c.self.inside.picks.items j) (sym c.mark_of-mark.ensures.first) (passed-is c);
      checked = omega arith;
      settled = mark_settled c.self.inside.standing.facts.items c.self.inside.watching.terms.items c.self.inside.cursor.seen c.self.inside.cursor.checked c.mark_of-mark.result.checked k.settled b c.mark_of-mark.ensures.settled;
    }

pub pick-requires-clause-indexed : goal.pick-requires-clause-indexed
pick-requires-clause-indexed c = (c.self.invariant (subst (IsTrailOf c.args.problem.now) (sym c.self.view_is) c.requires.right).whole).indexed

pub pick-requires-clause-undecided : goal.pick-requires-clause-undecided
pick-requires-clause-undecided c =
    let k = c.self.invariant (subst (IsTrailOf c.args.problem.now) (sym c.self.view_is) c.requires.right).whole in
    subst (λ (d : Picks). is_decided c.args.node d ≡ false) (sym (k.picks ∙ ap (λ (t : Track). picks_of t.facts) c.self.view_is)) (not_decided c.args.problem.now (picks_of c.args.self.now.facts) c.args.node c.requires.next)

pub pick-requires-clause-there : goal.pick-requires-clause-there
pick-requires-clause-there c =
    let right = subst (IsTrailOf c.args.problem.now) (sym c.self.view_is) c.requires.right in
    decided_there c.args.problem.now c.self.inside.standing.sizes.items c.self.inside.positions.items c.args.node c.args.version right.sizes (c.self.invariant right.whole).positions c.requires.there

pub invariant_of-self-2 : goal.invariant_of-self-2
invariant_of-self-2 c = λ h.
    let k = kept-of c in
    let w = right-of c in
    let ef = c.in_ok-push-2.ensures.facts in
    let lf = level-is c in
    let sz = decision_sized c.args.problem.now c.self.inside.standing.sizes.items c.args.node c.args.version c.size_at.result c.decision-term.result w.sizes c.requires.there c.size_at.ensures c.decision-term.ensures in
    let len : length c.push-2.new.self.facts.items ≡ length c.self.inside.standing.facts.items + 1 = ap (λ (x : List Fact). length x) ef ∙ length-append c.self.inside.standing.facts.items (fact-of c ∷ []) in
    let mlen : length c.push.new.self.items ≡ length c.self.inside.marks.items + 1 = ap (λ (x : List Mark). length x) c.in_ok-push.ensures.items ∙ length-append c.self.inside.marks.items (c.mark_of-mark.result ∷ []) in
    let seen = k.seen in let lev = k.level in
    let lvl = level_push c.self.inside.standing.facts.items (fact-of c) lf in
    record {
      placed = k.placed;
      standing = c.in_ok-push-2.ensures.standing;
      watched = k.watched;
      width = k.width ∙ ap (λ (z : List ℕ). length z) (sym c.in_ok-push-2.ensures.sizes);
      sized = subst (λ (z : List ℕ). AllSized z c.self.inside.watching.terms.items) (sym c.in_ok-push-2.ensures.sizes) k.sized;
      seen = omega arith;
      checked = k.checked;
      settled = subst (λ (x : List Fact). IsSettled x c.self.inside.watching.terms.items c.self.inside.cursor.seen c.self.inside.cursor.checked) (sym ef) (settled_push c.self.inside.standing.facts.items (fact-of c) c.self.inside.watching.terms.items c.self.inside.cursor.seen c.self.inside.cursor.checked k.seen k.settled);
      level = ap level_of ef ∙ (lvl ∙ omega arith);
      picks = picks-is c ∙ (ap (λ (d : Picks). d ++ (c.args.node, c.args.version) ∷ []) k.picks ∙ (sym (picks_push c.self.inside.standing.facts.items (fact-of c) c.args.node c.args.version c.size_at.result refl c.decision-term.ensures (let a = c.requires.there in let b = c.size_at.ensures in omega arith)) ∙ ap picks_of (sym ef)));
      indexed = c.in_ok-pick.ensures.indexed;
      positions = c.in_ok-pick.ensures.positions ∙ (k.positions ∙ ap (λ (z : List ℕ). length z) (sym c.in_ok-push-2.ensures.sizes));
      passed = subst (λ (q : List ℕ). HasPassed q c.pick.new.picks.items c.first_undecided-first.result) (sym (queue-is c))
          (subst (λ (d : Picks). HasPassed (c.self.inside.queue.items ++ targets (needs_of c.args.problem.now c.args.node c.args.version)) d c.first_undecided-first.result) (sym (picks-is c))
          (passed_push c.self.inside.queue.items (targets (needs_of c.args.problem.now c.args.node c.args.version)) c.self.inside.picks.items ((c.args.node, c.args.version) ∷ []) c.first_undecided-first.result (passed-is c)
          (subst (λ (q : List ℕ). c.first_undecided-first.result ≤ length q) c.as_slice.ensures.value c.first_undecided-first.ensures.within)));
      marks = subst (λ (ms : List Mark). AreMarks c.self.inside.watching.terms.items c.push-2.new.self.facts.items c.pick.new.picks.items c.pick.new.queue.items ms) (sym c.in_ok-push.ensures.items)
          (subst (λ (q : List ℕ). AreMarks c.self.inside.watching.terms.items c.push-2.new.self.facts.items c.pick.new.picks.items q (c.self.inside.marks.items ++ c.mark_of-mark.result ∷ [])) (sym (queue-is c))
          (subst (λ (d : Picks). AreMarks c.self.inside.watching.terms.items c.push-2.new.self.facts.items d (c.self.inside.queue.items ++ targets (needs_of c.args.problem.now c.args.node c.args.version)) (c.self.inside.marks.items ++ c.mark_of-mark.result ∷ [])) (sym (picks-is c))
          (subst (λ (x : List Fact). AreMarks c.self.inside.watching.terms.items x (c.self.inside.picks.items ++ (c.args.node, c.args.version) ∷ []) (c.self.inside.queue.items ++ targets (needs_of c.args.problem.now c.args.node c.args.version)) (c.self.inside.marks.items ++ c.mark_of-mark.result ∷ [])) (sym ef)
          (marks_push c.self.inside.watching.terms.items c.self.inside.standing.facts.items (fact-of c) c.self.inside.picks.items ((c.args.node, c.args.version) ∷ []) c.self.inside.queue.items (targets (needs_of c.args.problem.now c.args.node c.args.version)) c.self.inside.marks.items c.mark_of-mark.result k.picks k.level lf (mark-of c) k.marks))));
    }

abbrev decision_record : Term → ℕ → Fact
decision_record t l = record { term = t; level = l; cause = None }

made : (t u : Term) (a b : ℕ) → t ≡ u → a ≡ b → decision_record t a ≡ decision_record u b
made t u a b e g = ap (λ (x : Term). decision_record x a) e ∙ ap (λ (l : ℕ). decision_record u l) g

fact-is : (c : goal.After-self-3-1) → fact-of c ≡ decision_at c.args.problem.now c.self.inside.standing.facts.items c.args.node c.args.version
fact-is c = made c.decision-term.result (In c.args.node (one_of (size_of c.args.problem.now c.args.node) c.args.version)) c.len-level.result (level_of c.self.inside.standing.facts.items + 1)
    (c.decision-term.ensures ∙ ap (λ (z : ℕ). In c.args.node (one_of z c.args.version)) c.size_at.ensures) (let l = level-is c in omega arith)

abbrev track-of : goal.After-self-3-1 → List Fact → List ℕ → List ℕ → List ℕ → Track
track-of c facts sizes queue turns = record { steps = steps_in c.self.inside.held c.self.inside.watching.terms.items; terms = c.self.inside.watching.terms.items; facts = facts; sizes = sizes; width = length c.self.inside.watching.rows.items; queue = queue; turns = turns; whole = true }

pub returns-clause-kept : goal.returns-clause-kept
returns-clause-kept c =
    let w = right-of c in
    let m = mark-of c in
    let r : IsTrailOf c.args.problem.now (track-of c (c.self.inside.standing.facts.items ++ decision_at c.args.problem.now c.self.inside.standing.facts.items c.args.node c.args.version ∷ []) c.self.inside.standing.sizes.items (c.self.inside.queue.items ++ targets (needs_of c.args.problem.now c.args.node c.args.version)) (turns_of c.self.inside.marks.items ++ c.mark_of-mark.result.queue ∷ []))
    = trail_decided c.args.problem.now _ c.args.node c.args.version c.mark_of-mark.result.queue w c.requires.there (subst (λ (t : Track). is_open t.facts c.args.node (Some c.args.version) ≡ true) (sym c.self.view_is) c.requires.open) m.queue_is in
    let e1 : c.push-2.new.self.facts.items ≡ c.self.inside.standing.facts.items ++ decision_at c.args.problem.now c.self.inside.standing.facts.items c.args.node c.args.version ∷ [] = c.in_ok-push-2.ensures.facts ∙ ap (λ (f : Fact). c.self.inside.standing.facts.items ++ f ∷ []) (fact-is c) in
    let e4 : turns_of c.push.new.self.items ≡ turns_of c.self.inside.marks.items ++ c.mark_of-mark.result.queue ∷ [] = ap turns_of c.in_ok-push.ensures.items ∙ turns_push c.self.inside.marks.items c.mark_of-mark.result in
    let r1 = subst (λ (x : List Fact). IsTrailOf c.args.problem.now (track-of c x c.self.inside.standing.sizes.items (c.self.inside.queue.items ++ targets (needs_of c.args.problem.now c.args.node c.args.version)) (turns_of c.self.inside.marks.items ++ c.mark_of-mark.result.queue ∷ []))) (sym e1) r in
    let r2 = subst (λ (z : List ℕ). IsTrailOf c.args.problem.now (track-of c c.push-2.new.self.facts.items z (c.self.inside.queue.items ++ targets (needs_of c.args.problem.now c.args.node c.args.version)) (turns_of c.self.inside.marks.items ++ c.mark_of-mark.result.queue ∷ []))) (sym c.in_ok-push-2.ensures.sizes) r1 in
    let r3 = subst (λ (q : List ℕ). IsTrailOf c.args.problem.now (track-of c c.push-2.new.self.facts.items c.push-2.new.self.sizes.items q (turns_of c.self.inside.marks.items ++ c.mark_of-mark.result.queue ∷ []))) (sym (queue-is c)) r2 in
    subst (λ (q : List ℕ). IsTrailOf c.args.problem.now (track-of c c.push-2.new.self.facts.items c.push-2.new.self.sizes.items c.pick.new.queue.items q)) (sym e4) r3

pub first_undecided-first-requires-clause-indexed : goal.first_undecided-first-requires-clause-indexed
first_undecided-first-requires-clause-indexed c = subst (λ (d : Picks). IsIndexed d c.as_slice-3.result.now) (sym c.as_slice-2.ensures.value) (subst (IsIndexed c.self.inside.picks.items) (sym c.as_slice-3.ensures.value) (c.self.invariant (subst (IsTrailOf c.args.problem.now) (sym c.self.view_is) c.requires.right).whole).indexed)

pub first_undecided-first-requires-clause-passed : goal.first_undecided-first-requires-clause-passed
first_undecided-first-requires-clause-passed c = subst (λ (q : List ℕ). HasPassed q c.as_slice-2.result.now c.self.inside.first) (sym c.as_slice.ensures.value) (subst (λ (d : Picks). HasPassed c.self.inside.queue.items d c.self.inside.first) (sym c.as_slice-2.ensures.value) (c.self.invariant (subst (IsTrailOf c.args.problem.now) (sym c.self.view_is) c.requires.right).whole).passed)

pub size_at-requires : goal.size_at-requires
size_at-requires c = let f = node_of_size c.args.problem.now c.args.node c.args.version c.requires.there in slice_get_within c.args.problem.now.nodes c.args.node f.0 f.1

pub needs_at-requires-clause-node : goal.needs_at-requires-clause-node
needs_at-requires-clause-node c = let f = node_of_size c.args.problem.now c.args.node c.args.version c.requires.there in slice_get_within c.args.problem.now.nodes c.args.node f.0 f.1

pub mark_of-mark-requires : goal.mark_of-mark-requires
mark_of-mark-requires c = (c.self.invariant (subst (IsTrailOf c.args.problem.now) (sym c.self.view_is) c.requires.right).whole).seen

pub decision-term-requires : goal.decision-term-requires
decision-term-requires c = let size = c.size_at.ensures in let there = c.requires.there in omega arith
