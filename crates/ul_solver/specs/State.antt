-- What the solver keeps of its trail, and its measure.
use Rattle.std.specs.Prelude.{◌≡◌, ℕ, suc, ◌+◌, ◌*◌, ◌^◌, Bool, List, [], ◌∷◌, ◌++◌, false, Option, Some, None, ◌<◌, ◌≤◌, slice_get, length}
use Rattle.ul_problem.specs.Terms.{node_of, set_of}
use Rattle.ul_problem.specs.Plain.{Plain, order_of}
use Rattle.ul_problem.specs.Best.{next_of}
use Rattle.ul_problem.specs.declared.term.Term.{Term}
use Rattle.ul_trail.specs.Track.{Track}
use Rattle.ul_trail.specs.declared.fact.Fact.{Fact}
use Rattle.ul_trail.specs.Facts.{is_open, picks_of, level_of, up_to, first_of}
use Rattle.ul_trail.specs.Counts.{open_in, levels_of, AreReached}
use Rattle.ul_trail.specs.Propagation.{IsTrailOf, NoConflict}
use Rattle.ul_trail.specs.Moves.{HasPythons}
use Rattle.ul_solver.specs.Measure.{number_of}
use Rattle.ul_solver.specs.Opened.{all_closed}

-- v is the first version of the node's order that no fact excludes
abbrev pub IsFirstOpen : Plain → List Fact → ℕ → ℕ → Type 0
IsFirstOpen p facts n v = (i : ℕ) × (slice_get (order_of p n) i ≡ Some v) × ((j w : ℕ) → j < i → slice_get (order_of p n) j ≡ Some w → is_open facts n (Some w) ≡ false)

-- a fact without a cause is the next node at the first version that no earlier fact excludes
abbrev pub IsChosen : Plain → List Fact → Term → Option ℕ → Type 0
IsChosen p front t (Some c) = Unit {0}
IsChosen p front t None = (next_of p (picks_of front) ≡ Some (node_of t)) × IsFirstOpen p front (node_of t) (first_of (set_of t))

-- each fact is chosen so after those before it, and no level is above the number of roots and decisions up to it
abbrev pub IsSteered : Plain → List Fact → List Fact → Type 0
IsSteered p front [] = Unit {0}
IsSteered p front (f ∷ fs) = IsChosen p front f.term f.cause × (f.level ≤ length (picks_of (front ++ f ∷ []))) × IsSteered p (front ++ f ∷ []) fs

-- the facts up to a level, with all steps
abbrev pub cut_at : Track → ℕ → Track
cut_at t l = record { steps = t.steps; terms = t.terms; facts = up_to l t.facts; sizes = t.sizes; width = t.width; queue = t.queue; turns = t.turns; whole = t.whole }

-- what the solver keeps
pub record IsState (p : Plain) (t : Track) : Type 0 where
  pub right : IsTrailOf p t
  pub pythons : HasPythons p t.steps
  pub steered : IsSteered p [] t.facts
  pub reached : AreReached t.facts
  pub below : (l : ℕ) → l < level_of t.facts → NoConflict p (cut_at t l)
  pub bounded : level_of t.facts ≤ length p.nodes

-- the measure of facts: one number a level, as one number
unfoldable pub measure_of : List ℕ → List Fact → ℕ
measure_of sizes facts = number_of (open_in sizes [] + 2) (levels_of sizes facts)

-- what no measure of facts reaches
unfoldable pub measure_bound : List ℕ → ℕ
measure_bound sizes = (open_in sizes [] + 2) ^ suc (length sizes)

-- the measure: how many versions aren't opened counts first
abbrev pub measure_with : List (List Bool) → List ℕ → List Fact → ℕ
measure_with rows sizes facts = all_closed rows * measure_bound sizes + measure_of sizes facts
