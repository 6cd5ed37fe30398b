-- A trail as plain data: the held steps, what each says, the facts, how many versions each node has, how many nodes are watched, the
-- nodes that are asked for in their order, how many were asked for before each decision, and whether nothing was lost for want of memory.
use Rattle.std.specs.Prelude.{ℕ, List, Bool}
use Rattle.ul_problem.specs.declared.step.Step.{Step}
use Rattle.ul_problem.specs.declared.term.Term.{Term}
use Rattle.ul_trail.specs.declared.fact.Fact.{Fact}

-- a trail
pub record Track : Type 0 where
  pub steps : List Step
  pub terms : List (List Term)
  pub facts : List Fact
  pub sizes : List ℕ
  pub width : ℕ
  pub queue : List ℕ
  pub turns : List ℕ
  pub whole : Bool
