use Rattle.std.proofs.Common.{◌≡◌, ℕ, List, ◌++◌, ap, ◌∙◌}
use Rattle.ul_problem.specs.Best.{Picks, first_open, joined_needs}
use Rattle.ul_trail.specs.Track.{Track}
use Rattle.ul_trail.specs.Facts.{picks_of}
use Rattle.ul_trail.proofs.Decided.{next_here, next_none}
use Rattle.ul_trail.proofs.trail.Trail.next.Goals as goal

pub returns-then-place-queue : goal.returns-then-place-queue
returns-then-place-queue c =
    let k = c.self.invariant (ap (λ (t : Track). t.whole) c.self.view_is ∙ c.requires.right.whole) in
    let d : c.as_slice.result.now ≡ picks_of c.args.self.now.facts = c.as_slice.ensures.value ∙ (k.picks ∙ ap (λ (t : Track). picks_of t.facts) c.self.view_is) in
    let q : c.as_slice-queue.result.now ≡ c.args.problem.now.roots ++ joined_needs c.args.problem.now (picks_of c.args.self.now.facts) = c.as_slice-queue.ensures.value ∙ (ap (λ (t : Track). t.queue) c.self.view_is ∙ c.requires.right.queue) in
    next_here c.as_slice-queue.result.now c.as_slice.result.now c.first_undecided-place.result c.first_undecided-place.ensures.passed c.first_undecided-place.ensures.found c.if-place-queue.true
    ∙ (ap (λ (x : Picks). first_open x c.as_slice-queue.result.now) d ∙ ap (λ (x : List ℕ). first_open (picks_of c.args.self.now.facts) x) q)

pub returns-else-place-queue : goal.returns-else-place-queue
returns-else-place-queue c =
    let k = c.self.invariant (ap (λ (t : Track). t.whole) c.self.view_is ∙ c.requires.right.whole) in
    let d : c.as_slice.result.now ≡ picks_of c.args.self.now.facts = c.as_slice.ensures.value ∙ (k.picks ∙ ap (λ (t : Track). picks_of t.facts) c.self.view_is) in
    let q : c.as_slice-queue.result.now ≡ c.args.problem.now.roots ++ joined_needs c.args.problem.now (picks_of c.args.self.now.facts) = c.as_slice-queue.ensures.value ∙ (ap (λ (t : Track). t.queue) c.self.view_is ∙ c.requires.right.queue) in
    next_none c.as_slice-queue.result.now c.as_slice.result.now c.first_undecided-place.result c.first_undecided-place.ensures.passed c.first_undecided-place.ensures.found c.if-place-queue.false
    ∙ (ap (λ (x : Picks). first_open x c.as_slice-queue.result.now) d ∙ ap (λ (x : List ℕ). first_open (picks_of c.args.self.now.facts) x) q)
