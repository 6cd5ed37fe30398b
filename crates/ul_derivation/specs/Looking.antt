-- What looking for a need in rows takes and tells, and what a cut is told of.
use Rattle.std.specs.Prelude.{◌≡◌, ℕ, List, [], Bool, true, Option, Some, None, length, get_or}
use Rattle.ul_ranges.specs.Flags.{has}
use Rattle.std.specs.List.{Contains}
use Rattle.ul_problem.specs.Plain.{Plain}
use Rattle.ul_problem.specs.Terms.{IsOrdered}
use Rattle.ul_problem.specs.Steps.{AreTermsOf, HasNeed, HasTermOn, IsResolvent, says}
use Rattle.ul_problem.specs.declared.step.Step.{Step}
use Rattle.ul_problem.specs.declared.step.Step.TheVariants.{Need as NeedStep, Python, Base, Cut}
use Rattle.ul_problem.specs.declared.term.Term.{Term}
use Rattle.ul_problem.specs.declared.problem.Need.{Need}

-- the permitted versions of each need of a target are a set of this size
abbrev pub AreNeedsOfSize : List Need → ℕ → ℕ → Type 0
AreNeedsOfSize needs target size = (need : Need) → Contains needs need → need.node ≡ target → length need.permitted ≡ size

-- each of the versions has the need
abbrev pub HaveNeed : List (List Need) → List Bool → ℕ → List Bool → Type 0
HaveNeed rows versions target permitted = (v : ℕ) → has v versions ≡ true → HasNeed (get_or rows v []) target permitted

-- the terms of a step, as they were made, or as they stand in a cut
abbrev pub said_or : Step → Option (List Term) → List Term
said_or step (Some ts) = ts
said_or (NeedStep n s m w) None = []
said_or (Python n s) None = []
said_or (Base n s) None = []
said_or (Cut i j m ts) None = ts

-- the terms are what a step says, of the problem and in order
pub record IsSaid (p : Plain) (step : Step) (terms : List Term) : Type 0 where
  pub same : terms ≡ says p step
  pub fits : AreTermsOf p terms
  pub is_ordered : IsOrdered terms

-- both lists have a term on the node, and the terms are their resolvent on it
abbrev pub AreCut : ℕ → List Term → List Term → List Term → Type 0
AreCut m left right ts = HasTermOn m left × HasTermOn m right × IsResolvent m left right ts

-- the terms are the resolvent on a node of what two steps say, each of which has a term on it
abbrev pub AreCutOf : Plain → Step → Step → ℕ → List Term → Type 0
AreCutOf p left right m ts = AreCut m (says p left) (says p right) ts
