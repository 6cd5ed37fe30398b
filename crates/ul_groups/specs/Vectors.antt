-- Worked examples: requirements adjusted by overrides, constraints and sources.
use Rattle.std.specs.Prelude.{◌≡◌, ℕ, List, [], ◌∷◌, codes, true, false, Option, Some, None}
use Rattle.ul_version.specs.Fields.{plain}
use Rattle.ul_specifier.specs.Clauses.{ClauseFields}
use Rattle.ul_specifier.specs.declared.clause.Op.{Op}
use Rattle.ul_specifier.specs.declared.clause.Op.TheVariants.{AtLeast, Equal, Less}
use Rattle.ul_comparison.specs.Formulas.{Formula, all, text, more, none}
use Rattle.ul_comparison.specs.declared.variable.Variable.TheVariants.{OsName}
use Rattle.ul_requirement.specs.Fields.{RequirementFields}
use Rattle.ul_groups.specs.Adjusted.{adjusted_list, all_on}

-- a requirement of a name
abbrev pub asks : List ℕ → List (List ℕ) → List ClauseFields → Option Formula → RequirementFields
asks name extras specifiers marker = record { name = name; extras = extras; specifiers = specifiers; marker = marker }

-- one clause: an operator, and a release of one number
abbrev pub clause : Op → ℕ → List ClauseFields
clause op n = record { op = op; version = plain (n ∷ []); prefix = false } ∷ []

-- os_name == 'a'
abbrev pub on_a : Formula
on_a = text OsName (codes "a") true

-- os_name == 'b'
abbrev pub on_b : Formula
on_b = text OsName (codes "b") true

-- both
abbrev pub on_both : Formula
on_both = all (more on_a (more on_b none))

-- q[x]>=1; os_name == 'a'
abbrev pub asked_first : RequirementFields
asked_first = asks (codes "q") (codes "x" ∷ []) (clause AtLeast 1) (Some on_a)

-- q<3; os_name == 'b'
abbrev pub below : RequirementFields
below = asks (codes "q") [] (clause Less 3) (Some on_b)

-- q[y]==2
abbrev pub exactly : RequirementFields
exactly = asks (codes "q") (codes "y" ∷ []) (clause Equal 2) None

-- p>=1, another name
abbrev pub other : RequirementFields
other = asks (codes "p") [] (clause AtLeast 1) None

-- requirements adjusted by lists of constraints, overrides, and constraints that sources are
abbrev pub adjusted_by : (constraints overrides sources : List RequirementFields) → List RequirementFields
    → List RequirementFields
adjusted_by constraints overrides sources =
    adjusted_list (all_on constraints) (all_on overrides) (all_on sources)

-- what overrides, constraints and sources make of requirements
pub record AdjustedRequirements : Type 0 where
  pub replacement : adjusted_by [] (below ∷ exactly ∷ []) [] (asked_first ∷ other ∷ [])
      ≡ asks (codes "q") (codes "x" ∷ []) (clause Less 3) (Some on_both)
      ∷ asks (codes "q") (codes "x" ∷ []) (clause Equal 2) (Some on_a)
      ∷ other ∷ []
  pub followers : adjusted_by (below ∷ exactly ∷ []) [] [] (other ∷ asked_first ∷ [])
      ≡ other ∷ asked_first
      ∷ asks (codes "q") [] (clause Less 3) (Some on_both)
      ∷ asks (codes "q") [] (clause Equal 2) (Some on_a) ∷ []
  pub constrained_after : adjusted_by (below ∷ []) (exactly ∷ []) [] (asked_first ∷ [])
      ≡ asks (codes "q") (codes "x" ∷ []) (clause Equal 2) (Some on_a)
      ∷ asks (codes "q") [] (clause Less 3) (Some on_both) ∷ []
  pub nothing_on_it : adjusted_by (asked_first ∷ []) (exactly ∷ []) (below ∷ []) (other ∷ []) ≡ other ∷ []
  pub nothing_asked : adjusted_by (asked_first ∷ []) (exactly ∷ []) (below ∷ []) [] ≡ []
  pub one_constraint_each : adjusted_by (exactly ∷ []) [] [] (below ∷ below ∷ [])
      ≡ below ∷ asks (codes "q") [] (clause Equal 2) (Some on_b)
      ∷ below ∷ asks (codes "q") [] (clause Equal 2) (Some on_b) ∷ []
  pub sources_after_constraints : adjusted_by (exactly ∷ []) [] (below ∷ []) (asked_first ∷ other ∷ [])
      ≡ asked_first
      ∷ asks (codes "q") [] (clause Less 3) (Some on_both)
      ∷ asks (codes "q") [] (clause Equal 2) (Some on_a)
      ∷ asks (codes "q") [] (clause Less 3) (Some on_both)
      ∷ other ∷ []
  pub sources_after_overrides : adjusted_by [] (exactly ∷ []) (below ∷ []) (asked_first ∷ [])
      ≡ asks (codes "q") (codes "x" ∷ []) (clause Equal 2) (Some on_a)
      ∷ asks (codes "q") [] (clause Less 3) (Some on_both) ∷ []
