-- When a trail is one of a problem's, and what propagation makes of it.
use Rattle.std.specs.Prelude.{◌≡◌, ℕ, List, [], ◌∷◌, ◌++◌, true, false, Option, Some, None, ◌<◌, ◌≤◌, slice_get, length, take}
use Rattle.ul_problem.specs.Terms.{Selection, node_of, allows, holds, negation}
use Rattle.ul_problem.specs.Plain.{Plain, size_of}
use Rattle.ul_problem.specs.Serving.{Serves, Forbids}
use Rattle.ul_problem.specs.Steps.{says, AreRightAfter, said_by}
use Rattle.ul_problem.specs.declared.term.Term.{Term}
use Rattle.ul_problem.specs.declared.term.Term.TheVariants.{In}
use Rattle.ul_problem.specs.declared.step.Step.{Step}
use Rattle.ul_trail.specs.Track.{Track}
use Rattle.ul_trail.specs.declared.fact.Progress.{Progress}
use Rattle.ul_trail.specs.declared.fact.Progress.TheVariants.{Quiet, Conflict}
use Rattle.ul_trail.specs.declared.fact.Fact.{Fact}
use Rattle.ul_trail.specs.Facts.{is_open, IsFailed, AreHeld, AreHeldBut, one_of, picks_of, level_of, up_to}
use Rattle.ul_trail.specs.Counts.{sizes_of}
use Rattle.ul_problem.specs.Best.{joined_needs, Agrees}

-- A fact is right after the facts before it: a root's or a decision at one version of its node, or the one way out of a held step.
abbrev pub IsDerived : Plain → List Step → List Fact → Term → Option ℕ → Type 0
IsDerived p steps earlier t None = (n : ℕ) × (v : ℕ) × (v < size_of p n) × (t ≡ In n (one_of (size_of p n) v))
IsDerived p steps earlier t (Some c) = (s : Step) × (u : Term) × (slice_get steps c ≡ Some s) × (t ≡ negation u) × AreHeldBut earlier u (says p s)

-- each fact is right after those before it
abbrev pub AreDerivedAfter : Plain → List Step → List Fact → List Fact → Type 0
AreDerivedAfter p steps earlier [] = Unit {0}
AreDerivedAfter p steps earlier (f ∷ fs) = IsDerived p steps earlier f.term f.cause × AreDerivedAfter p steps (earlier ++ f ∷ []) fs

-- all the facts hold of the selection
abbrev pub AreTrue : Selection → List Fact → Type 0
AreTrue σ [] = Unit {0}
AreTrue σ (f ∷ fs) = (holds σ f.term ≡ true) × AreTrue σ fs

-- levels don't fall
abbrev pub AreLevels : ℕ → List Fact → Type 0
AreLevels low [] = Unit {0}
AreLevels low (f ∷ fs) = (low ≤ f.level) × AreLevels f.level fs

-- no serving selection has all terms of a held step
abbrev pub AreForbidden : Plain → List Step → Type 0
AreForbidden p steps = (k : ℕ) (s : Step) → slice_get steps k ≡ Some s → Forbids p (says p s)

-- the held steps are right and forbidden, and the facts follow from them and from the decisions
pub record Follow (p : Plain) (steps : List Step) (facts : List Fact) : Type 0 where
  pub right : AreRightAfter p [] steps
  pub forbidden : AreForbidden p steps
  pub derived : AreDerivedAfter p steps [] facts
  pub levels : AreLevels 0 facts

-- a decision is above the facts before it
pub record AreRaised (facts : List Fact) : Type 0 where
  pub at : (i : ℕ) (f : Fact) → slice_get facts i ≡ Some f → f.cause ≡ None → 0 < f.level → level_of (take i facts) < f.level

-- an option of each node is open
pub record IsAlive (facts : List Fact) : Type 0 where
  pub at : (n : ℕ) → (o : Option ℕ) × (is_open facts n o ≡ true)

-- the fact of a root: it is at its one version
abbrev pub root_fact : Plain → ℕ → Fact
root_fact p n = record { term = In n (one_of (size_of p n) 0); level = 0; cause = None }

-- the facts of roots, in their order
abbrev pub root_facts : Plain → List ℕ → List Fact
root_facts p [] = []
root_facts p (n ∷ ns) = root_fact p n ∷ root_facts p ns

-- none is a root's
abbrev pub AreLater : List Fact → Type 0
AreLater [] = Unit {0}
AreLater (f ∷ fs) = (f.cause ≡ None → 0 < f.level) × AreLater fs

-- the facts begin with the roots'
pub record IsBegun (p : Plain) (facts : List Fact) : Type 0 where
  pub rest : List Fact
  pub is : facts ≡ root_facts p p.roots ++ rest
  pub later : AreLater rest

-- The trail is one of the problem's: nothing was lost for want of memory, the held steps are right, and no serving selection has all
-- terms of one; the facts begin with the roots', and each further one is a decision, one level up, or derived from its cause and the facts
-- before it; each node has an option that they leave open; the nodes that are asked for are the roots and what the decisions need.
pub record IsTrailOf (p : Plain) (t : Track) : Type 0 where
  pub whole : t.whole ≡ true
  pub follow : Follow p t.steps t.facts
  pub said : t.terms ≡ said_by p t.steps
  pub sizes : t.sizes ≡ sizes_of p
  pub width : t.width ≡ length p.nodes
  pub queue : t.queue ≡ p.roots ++ joined_needs p (picks_of t.facts)
  pub turns : (l q : ℕ) → slice_get t.turns l ≡ Some q → (q ≤ length t.queue) × (take q t.queue ≡ p.roots ++ joined_needs p (picks_of (up_to l t.facts)))
  pub levels : length t.turns ≡ level_of t.facts
  pub raised : AreRaised t.facts
  pub alive : IsAlive t.facts
  pub begun : IsBegun p t.facts

-- an option of a node: one of its versions, or being absent
abbrev pub IsOption : ℕ → Option ℕ → Type 0
IsOption size None = Unit {0}
IsOption size (Some v) = v < size

-- a new fact: an option of its node was open that it excludes
abbrev pub IsNew : Plain → List Fact → Term → Type 0
IsNew p earlier t = (node_of t < length p.nodes) × ((o : Option ℕ) × IsOption (size_of p (node_of t)) o × (is_open earlier (node_of t) o ≡ true) × (allows t o ≡ false))

-- each fact is new after those before it, of this level, and has a cause
abbrev pub AreNewAfter : Plain → ℕ → List Fact → List Fact → Type 0
AreNewAfter p level earlier [] = Unit {0}
AreNewAfter p level earlier (f ∷ fs) = (f.level ≡ level) × ((c : ℕ) × (f.cause ≡ Some c)) × IsNew p earlier f.term × AreNewAfter p level (earlier ++ f ∷ []) fs

-- the facts grow by derived ones of the present level
abbrev pub HasGrown : Plain → List Fact → List Fact → Type 0
HasGrown p before now = (more : List Fact) × (now ≡ before ++ more) × AreNewAfter p (level_of before) before more

-- a step derives nothing: not all its terms are held, nor all but one that isn't known to fail
abbrev pub IsQuietAt : Plain → List Fact → Step → Type 0
IsQuietAt p facts s = (AreHeld facts (says p s) → ⊥) × ((u : Term) → AreHeldBut facts u (says p s) → IsFailed facts u)

-- all terms of the held step at this place are held
abbrev pub IsConflict : Plain → Track → ℕ → Type 0
IsConflict p t k = (s : Step) × (slice_get t.steps k ≡ Some s) × AreHeld t.facts (says p s)

-- no held step derives anything
abbrev pub IsQuiet : Plain → Track → Type 0
IsQuiet p t = (k : ℕ) (s : Step) → slice_get t.steps k ≡ Some s → IsQuietAt p t.facts s

-- no held step has all its terms held
abbrev pub NoConflict : Plain → Track → Type 0
NoConflict p t = (k : ℕ) → IsConflict p t k → ⊥

-- what propagation answers, of the trail as it leaves it
abbrev pub IsProgress : Plain → Track → Progress → Type 0
IsProgress p t Quiet = IsQuiet p t
IsProgress p t (Conflict k) = IsConflict p t k

-- the facts hold of each serving selection that agrees with the roots and decisions among them
abbrev pub AreSound : Plain → List Fact → Type 0
AreSound p facts = (σ : Selection) → Serves p σ → Agrees σ (picks_of facts) → AreTrue σ facts
