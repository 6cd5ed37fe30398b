-- What a trail keeps.
use Rattle.std.specs.Prelude.{◌≡◌, ℕ, List, [], ◌∷◌, true, Some, ◌<◌, ◌≤◌, slice_get, get_or, length, take}
use Rattle.ul_problem.specs.Best.{Picks, is_decided}
use Rattle.ul_problem.specs.declared.term.Term.{Term}
use Rattle.ul_trail.specs.declared.fact.Fact.{Fact}
use Rattle.ul_trail.specs.declared.mark.Mark.{Mark}
use Rattle.ul_trail.specs.declared.trail.Trail.TheInside.{Inside}
use Rattle.ul_trail.specs.Facts.{picks_of, level_of, up_to}
use Rattle.ul_trail.specs.Standing.{IsStanding, IsSettled, AllSized}
use Rattle.ul_trail.specs.Watched.{IsWatched}
use Rattle.ul_trail.specs.HeldSteps.{ArePlaced}

-- how many nodes were asked for before each decision
abbrev pub turns_of : List Mark → List ℕ
turns_of [] = []
turns_of (m ∷ ms) = m.queue ∷ turns_of ms

-- the place of each pick is kept under its node
pub record IsIndexed (picks : Picks) (positions : List ℕ) : Type 0 where
  pub inside : (i : ℕ) (e : ℕ × ℕ) → slice_get picks i ≡ Some e → e.0 < length positions
  pub at : (i : ℕ) (e : ℕ × ℕ) → slice_get picks i ≡ Some e → get_or positions e.0 0 ≡ i

-- the nodes of the queue before a place are all decided
pub record HasPassed (queue : List ℕ) (picks : Picks) (first : ℕ) : Type 0 where
  pub at : (i n : ℕ) → i < first → slice_get queue i ≡ Some n → is_decided n picks ≡ true

-- what stood before the decision of level l + 1
pub record IsMark (terms : List (List Term)) (facts : List Fact) (picks : Picks) (queue : List ℕ) (l : ℕ) (m : Mark) : Type 0 where
  pub facts_within : m.facts ≤ length facts
  pub picks_within : m.picks ≤ length picks
  pub queue_within : m.queue ≤ length queue
  pub front : take m.facts facts ≡ up_to l facts
  pub level : level_of (take m.facts facts) ≡ l
  pub picked : take m.picks picks ≡ picks_of (take m.facts facts)
  pub checked : m.checked ≤ length terms
  pub settled : IsSettled (take m.facts facts) terms m.facts m.checked
  pub passed : HasPassed (take m.queue queue) (take m.picks picks) m.first

-- the marks, one for each decision
pub record AreMarks (terms : List (List Term)) (facts : List Fact) (picks : Picks) (queue : List ℕ) (marks : List Mark) : Type 0 where
  pub at : (l : ℕ) (m : Mark) → slice_get marks l ≡ Some m → IsMark terms facts picks queue l m
  pub rise : (l k : ℕ) (m n : Mark) → l < k → slice_get marks l ≡ Some m → slice_get marks k ≡ Some n → (m.facts ≤ n.facts) × (m.picks ≤ n.picks) × (m.queue ≤ n.queue)

-- what a trail keeps, where nothing was lost for want of memory
pub record IsKept (s : Inside) : Type 0 where
  pub placed : ArePlaced s.held.places.items s.held.others.items s.watching.terms.items
  pub standing : IsStanding s.standing.sizes.items s.standing.known.items s.standing.before.items s.standing.facts.items
  pub watched : IsWatched s.watching.terms.items s.watching.rows.items
  pub width : length s.watching.rows.items ≡ length s.standing.sizes.items
  pub sized : AllSized s.standing.sizes.items s.watching.terms.items
  pub seen : s.cursor.seen ≤ length s.standing.facts.items
  pub checked : s.cursor.checked ≤ length s.watching.terms.items
  pub settled : IsSettled s.standing.facts.items s.watching.terms.items s.cursor.seen s.cursor.checked
  pub level : level_of s.standing.facts.items ≡ length s.marks.items
  pub picks : s.picks.items ≡ picks_of s.standing.facts.items
  pub indexed : IsIndexed s.picks.items s.positions.items
  pub positions : length s.positions.items ≡ length s.standing.sizes.items
  pub passed : HasPassed s.queue.items s.picks.items s.first
  pub marks : AreMarks s.watching.terms.items s.standing.facts.items s.picks.items s.queue.items s.marks.items
