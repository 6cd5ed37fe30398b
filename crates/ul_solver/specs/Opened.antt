-- The versions whose steps are held, and how many facts were looked at for certain ones.
use Rattle.std.specs.Prelude.{◌≡◌, ℕ, ◌+◌, List, [], ◌∷◌, Bool, true, false, cond, ◌<◌, ◌≤◌, get_or, length, take, replicate}
use Rattle.ul_ranges.specs.Flags.{has}
use Rattle.ul_problem.specs.Plain.{Plain, size_of}
use Rattle.ul_problem.specs.declared.term.Term.TheVariants.{In}
use Rattle.ul_problem.specs.declared.step.Step.{Step}
use Rattle.ul_trail.specs.Track.{Track}
use Rattle.ul_trail.specs.Facts.{IsHeld, one_of, level_of, up_to}
use Rattle.ul_trail.specs.Moves.{HasVersionSteps}
use Rattle.ul_solver.specs.declared.opened.Opened.{Opened}

-- the version of the node is opened: the flags are given node by node
abbrev pub is_opened : List (List Bool) → ℕ → ℕ → Bool
is_opened rows n v = has v (get_or rows n [])

-- how many flags of a list aren't set
abbrev pub closed_in : List Bool → ℕ
closed_in [] = 0
closed_in (b ∷ bs) = cond b 0 1 + closed_in bs

-- how many versions of all nodes aren't opened
abbrev pub all_closed : List (List Bool) → ℕ
all_closed [] = 0
all_closed (r ∷ rs) = closed_in r + all_closed rs

-- no version of the first k nodes is opened
pub record AreClosedTo (p : Plain) (k : ℕ) (rows : List (List Bool)) : Type 0 where
  pub count : length rows ≡ k
  pub each : (n : ℕ) → n < k → get_or rows n [] ≡ replicate (size_of p n) false

-- there are flags for each version of each node, and of each opened version the steps are held
pub record AreOpened (p : Plain) (steps : List Step) (rows : List (List Bool)) : Type 0 where
  pub count : length rows ≡ length p.nodes
  pub sizes : (n : ℕ) → n < length p.nodes → length (get_or rows n []) ≡ size_of p n
  pub held : (n v : ℕ) → is_opened rows n v ≡ true → HasVersionSteps p steps n v

-- what the first k facts make certain is opened; the facts below the present level are among them
pub record AreLooked (p : Plain) (t : Track) (rows : List (List Bool)) (k : ℕ) : Type 0 where
  pub within : k ≤ length t.facts
  pub certain : (n v : ℕ) → v < size_of p n → IsHeld (take k t.facts) (In n (one_of (size_of p n) v)) → is_opened rows n v ≡ true
  pub lower : (l : ℕ) → l < level_of t.facts → length (up_to l t.facts) ≤ k

-- what the solver keeps of opened versions
pub record IsOpened (p : Plain) (t : Track) (o : Opened) : Type 0 where
  pub are : AreOpened p t.steps o.versions.items
  pub looked : AreLooked p t o.versions.items o.looked
  pub counts : length o.counts.items ≡ length p.nodes
