-- The laws of the trail.
use Rattle.std.specs.Prelude.{◌≡◌, ℕ, List, [], ◌∷◌, ◌++◌, false, Some, None, ◌≤◌}
use Rattle.ul_problem.specs.Terms.{Selection, node_of, term_on, IsOrdered, negation}
use Rattle.ul_problem.specs.Plain.{Plain}
use Rattle.ul_problem.specs.Serving.{Serves}
use Rattle.ul_problem.specs.Best.{Agrees, Extends, IsChain, next_of, version_in}
use Rattle.ul_problem.specs.Problems.{IsWellFormed}
use Rattle.ul_trail.specs.Track.{Track}
use Rattle.ul_trail.specs.declared.fact.Fact.{Fact}
use Rattle.ul_trail.specs.Facts.{is_open, picks_of, AreHeld, AreHeldBut, up_to, level_of}
use Rattle.ul_problem.specs.Steps.{IsResolvent, AreRightAfter}
use Rattle.ul_problem.specs.declared.term.Term.{Term}
use Rattle.ul_problem.specs.declared.step.Step.{Step}
use Rattle.ul_trail.specs.Propagation.{Follow, IsDerived, AreForbidden, AreTrue, IsTrailOf, NoConflict}
use Rattle.ul_trail.specs.Moves.{HasSteps}

-- The facts up to any place hold of each serving selection that agrees with the roots and decisions up to it.
abbrev pub FactsFollow : Type 0
FactsFollow = (p : Plain) (t : Track) (front rest : List Fact) (σ : Selection) → Follow p t.steps t.facts → t.facts ≡ front ++ rest → Serves p σ → Agrees σ (picks_of front) → AreTrue σ front

-- A version that the facts exclude is in no serving selection that agrees with them.
abbrev pub ExcludedArePassed : Type 0
ExcludedArePassed = (p : Plain) (t : Track) (front rest : List Fact) (n w : ℕ) → Follow p t.steps t.facts → t.facts ≡ front ++ rest → is_open front n (Some w) ≡ false → Extends p (picks_of front ++ (n, w) ∷ []) → ⊥

-- A cut takes a fact away: where a list is held with the fact, and the step that gave the fact is held but for the term that it negates,
-- the resolvent on the fact's node is held without it.
abbrev pub CutIsHeld : Type 0
CutIsHeld = (front : List Fact) (f : Fact) (left right ts : List Term) (t u : Term)
    → IsOrdered left → IsOrdered right → f.term ≡ negation u → AreHeldBut front u right → AreHeld (front ++ f ∷ []) left
    → term_on (node_of u) left ≡ Some t → IsResolvent (node_of u) left right ts → AreHeld front ts

-- a fact that follows keeps the facts those of the problem
abbrev pub PushKeeps : Type 0
PushKeeps = (p : Plain) (t : Track) (f : Fact) → Follow p t.steps t.facts → IsDerived p t.steps t.facts f.term f.cause → level_of t.facts ≤ f.level → Follow p t.steps (t.facts ++ f ∷ [])

-- going back to a level with learned steps keeps the facts those of the problem
abbrev pub BackKeeps : Type 0
BackKeeps = (p : Plain) (t : Track) (level : ℕ) (learned : List Step) → Follow p t.steps t.facts → AreRightAfter p t.steps learned → AreForbidden p learned → Follow p (t.steps ++ learned) (up_to level t.facts)

-- The picks of a finished trail without a conflict serve: its roots and decisions, where no node that they ask for is undecided.
abbrev pub FinishedServes : Type 0
FinishedServes = (p : Plain) (t : Track) → IsWellFormed p → IsTrailOf p t → HasSteps p (picks_of t.facts) t.steps → NoConflict p t → IsChain p [] (picks_of t.facts)
    → next_of p (picks_of t.facts) ≡ None → Serves p (version_in (picks_of t.facts))
