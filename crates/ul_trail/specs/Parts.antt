-- The trail's parts, as the code has them: what is true of each, and how propagation changes them.
use Rattle.std.specs.Prelude.{◌≡◌, ◌++◌, ◌∷◌, [], ℕ, List, Option, Some, Bool, cond, ◌<◌, length, slice_get, get_or, take}
use Rattle.ul_problem.specs.Terms.{node_of}
use Rattle.ul_problem.specs.declared.term.Term.{Term}
use Rattle.ul_trail.specs.Track.{Track}
use Rattle.ul_trail.specs.Facts.{IsMirror}
use Rattle.ul_problem.specs.Plain.{Plain, needs_of}
use Rattle.ul_problem.specs.Best.{targets}
use Rattle.ul_problem.specs.declared.step.Step.{Step}
use Rattle.ul_problem.specs.Steps.{said_by}
use Rattle.ul_trail.specs.Propagation.{root_fact}
use Rattle.ul_trail.specs.Standing.{IsStanding, IsSettled, HasForced}
use Rattle.ul_trail.specs.Findings.{IsSettlement, IsWalked}
use Rattle.ul_trail.specs.Watched.{IsWatched, has_term}
use Rattle.ul_trail.specs.declared.fact.Fact.{Fact}
use Rattle.ul_trail.specs.declared.standing.Standing.{Standing}
use Rattle.ul_trail.specs.declared.watching.Watching.{Watching}
use Rattle.ul_trail.specs.declared.propagation.Cursor.{Cursor}
use Rattle.ul_trail.specs.declared.rooting.Asked.{Asked}

-- what is known of each node is what the facts leave open
abbrev pub Stands : Standing → Type 0
Stands s = IsStanding s.sizes.items s.known.items s.before.items s.facts.items

-- the row of each node has the places of the lists with a term on it
abbrev pub Watches : Watching → Type 0
Watches w = IsWatched w.terms.items w.rows.items

-- the facts have grown by what the lists force at a level
abbrev pub Grows : Watching → ℕ → Standing → Standing → Type 0
Grows w level old now = HasForced old.sizes.items w.terms.items level old.facts.items now.facts.items

-- what a look at the list at a place does
abbrev pub Settles : List (List Term) → ℕ → ℕ → Standing → Standing → Bool → Type 0
Settles terms level place old now held =
    IsSettlement old.sizes.items terms level place old.facts.items now.facts.items held

-- each list before `checked` derives nothing, or is on the node of a fact that wasn't looked at
abbrev pub IsSettledBy : Watching → Standing → Cursor → Type 0
IsSettledBy w s c = IsSettled s.facts.items w.terms.items c.seen c.checked

-- what a walk over the row of a fact's node finds
abbrev pub IsWalkedBy : Watching → Standing → Cursor → Option ℕ → Type 0
IsWalkedBy w s c found = IsWalked w.terms.items c.seen c.checked s.facts.items found

-- what steps say is held after what was held
abbrev pub HoldsMore : Plain → List Step → Watching → Watching → Type 0
HoldsMore p steps old now = now.terms.items ≡ old.terms.items ++ said_by p steps

-- the fact of a root stands at the end
abbrev pub AppendsRoot : Plain → ℕ → Standing → Standing → Type 0
AppendsRoot p n old now = now.facts.items ≡ old.facts.items ++ root_fact p n ∷ []

-- what the one version of a root needs is asked for at the end
abbrev pub AsksNeeds : Plain → ℕ → Asked → Asked → Type 0
AsksNeeds p n old now = now.queue.items ≡ old.queue.items ++ targets (needs_of p n 0)

-- what was open of the node of the fact at a place before it
abbrev pub IsOpenBefore : Track → ℕ → Term → Type 0
IsOpenBefore t place q =
    (f : Fact) → slice_get t.facts place ≡ Some f
    → IsMirror (take place t.facts) (node_of f.term) (get_or t.sizes (node_of f.term) 0) q

-- a place stands at the end of the row of each node that has one of the terms, and the other rows stay
abbrev pub AreListed : ℕ → List Term → List (List ℕ) → List (List ℕ) → Type 0
AreListed place ts old now =
    (n : ℕ) → n < length old → get_or now n [] ≡ get_or old n [] ++ cond (has_term n ts) (place ∷ []) []

-- the terms are on nodes below a number
abbrev pub AreBelow : List Term → ℕ → Type 0
AreBelow ts width = (i : ℕ) (t : Term) → slice_get ts i ≡ Some t → node_of t < width
