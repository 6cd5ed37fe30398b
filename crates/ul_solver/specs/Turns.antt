-- A turn of the solver.
use Rattle.std.specs.Prelude.{◌≡◌, ℕ, ◌+◌, Bool, true, false, None, ◌<◌, ◌≤◌, length}
use Rattle.ul_problem.specs.Plain.{Plain}
use Rattle.ul_problem.specs.Steps.{Accepts}
use Rattle.ul_problem.specs.Best.{next_of}
use Rattle.ul_trail.specs.Track.{Track}
use Rattle.ul_trail.specs.declared.fact.Progress.{Progress}
use Rattle.ul_trail.specs.Counts.{sizes_of}
use Rattle.ul_trail.specs.Facts.{picks_of}
use Rattle.ul_trail.specs.Moves.{HasSteps}
use Rattle.ul_trail.specs.Propagation.{NoConflict, IsProgress}
use Rattle.ul_solver.specs.Opened.{IsOpened, all_closed, is_opened}
use Rattle.ul_solver.specs.State.{IsState, measure_with}
use Rattle.ul_solver.specs.declared.opened.Opened.{Opened}
use Rattle.ul_solver.specs.declared.solver.Turn.{Turn}
use Rattle.ul_solver.specs.declared.solver.Turn.TheVariants.{Again, Finished, Refused}

-- Steps may have been opened: the solver's state is kept, and the facts stay.
pub record IsWider (p : Plain) (before : Track) (o : Opened) (now : Track) (q : Opened) : Type 0 where
  pub state : IsState p now
  pub opened : IsOpened p now q
  pub facts : now.facts ≡ before.facts
  pub fewer : all_closed q.versions.items ≤ all_closed o.versions.items

-- of versions alone: no fact more counts as looked at
pub record HasWidened (p : Plain) (before : Track) (o : Opened) (now : Track) (q : Opened) : Type 0 where
  pub wider : IsWider p before o now q
  pub looked : q.looked ≡ o.looked
  pub more : (m w : ℕ) → is_opened o.versions.items m w ≡ true → is_opened q.versions.items m w ≡ true

-- the steps of this version were opened
pub record HasOpened (p : Plain) (before : Track) (o : Opened) (n v : ℕ) (now : Track) (q : Opened) : Type 0 where
  pub widened : HasWidened p before o now q
  pub there : is_opened q.versions.items n v ≡ true
  pub less : all_closed q.versions.items < all_closed o.versions.items

-- whether some steps were opened: else nothing has changed in the trail
abbrev pub IsOpening : Track → Opened → Track → Opened → Bool → Type 0
IsOpening before o now q true = all_closed q.versions.items < all_closed o.versions.items
IsOpening before o now q false = now ≡ before

-- a look at one fact more, or at all that there are
pub record IsLook (p : Plain) (before : Track) (o : Opened) (now : Track) (q : Opened) (count : ℕ) (any : Bool) : Type 0 where
  pub wider : IsWider p before o now q
  pub looked : q.looked ≡ count
  pub opening : IsOpening before o now q any

-- a look at all facts that are new: it ends behind one for which steps were opened
abbrev pub IsLookedOver : Plain → Track → Opened → Track → Opened → Bool → Type 0
IsLookedOver p before o now q true = IsWider p before o now q × (all_closed q.versions.items < all_closed o.versions.items)
IsLookedOver p before o now q false = IsWider p before o now q × (now ≡ before) × (q.looked ≡ length now.facts)

-- the solver's state is kept, propagation came to this, and the measure has fallen
pub record IsMove (p : Plain) (before : Track) (o : Opened) (now : Track) (q : Opened) (g : Progress) : Type 0 where
  pub state : IsState p now
  pub opened : IsOpened p now q
  pub progress : IsProgress p now g
  pub falls : measure_with q.versions.items (sizes_of p) now.facts < measure_with o.versions.items (sizes_of p) before.facts

-- propagation behind steps that were opened, or at the beginning: the measure of opened versions stays
pub record IsFollowed (p : Plain) (before now : Track) (o : Opened) (g : Progress) : Type 0 where
  pub state : IsState p now
  pub opened : IsOpened p now o
  pub progress : IsProgress p now g

-- nothing is left to decide, and the trail shows what it must
pub record IsFinished (p : Plain) (before now : Track) : Type 0 where
  pub same : now ≡ before
  pub end : next_of p (picks_of before.facts) ≡ None
  pub calm : NoConflict p before
  pub held : HasSteps p (picks_of before.facts) before.steps

-- what a turn comes to
abbrev pub IsTurn : Plain → Track → Opened → Track → Opened → Turn → Type 0
IsTurn p before o now q (Again g) = IsMove p before o now q g
IsTurn p before o now q Finished = IsFinished p before now
IsTurn p before o now q (Refused derivation) = Accepts p derivation
