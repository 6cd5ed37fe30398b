-- By which truth a region that nothing serves is split further: each need of its core comes from a firm requirement,
-- and the first that fails somewhere in the region splits it.
use Rattle.std.specs.Prelude.{◌≡◌, List, Contains, Bool, not, Some, slice_get}
use Rattle.ul_base.specs.declared.node.Node.{Node}
use Rattle.ul_base.specs.Kept.{IsFirst}
use Rattle.ul_version.specs.Fields.{Fields}
use Rattle.ul_comparison.specs.Worlds.{WorldFields}
use Rattle.ul_requirement.specs.Fields.{RequirementFields}
use Rattle.ul_requirement.specs.Truth.{applies_at}
use Rattle.ul_problem.specs.Plain.{Plain, node_at}
use Rattle.ul_problem.specs.declared.problem.NodeFacts.{NodeFacts}
use Rattle.ul_index.specs.Applied.{IsFirm}
use Rattle.ul_index.specs.Catalogs.{Packages, requirements}
use Rattle.ul_index.specs.Regions.{Region, Somewhere, Throughout}
use Rattle.ul_blame.specs.declared.needs.CoreNeed.{CoreNeed}
use Rattle.ul_split.specs.Origins.{ComesFrom}

-- the firm requirement of a release at the node that a need of the problem comes from
pub record IsAskedBy (c : Packages) (R : Region) (p : Plain) (k : CoreNeed) (n : Node) (q : RequirementFields)
    : Type 0 where
  pub facts : NodeFacts
  pub at : node_at p k.node ≡ Some facts
  pub node : facts.node ≡ n
  pub version : Fields
  pub stands : slice_get facts.versions k.version ≡ Some version
  pub from : ComesFrom (IsFirm (requirements c n.name version) R n) (requirements c n.name version) k.place q

-- the requirement that the need comes from fails at some world of the region
pub record IsFailing (c : Packages) (R : Region) (p : Plain) (k : CoreNeed) : Type 0 where
  pub node : Node
  pub requirement : RequirementFields
  pub asked : IsAskedBy c R p k node requirement
  pub fails : Somewhere R (λ w. not (applies_at requirement node w))

-- the truth is that of the requirement of the core's first need that fails somewhere in the region
pub record CoreSplit (c : Packages) (R : Region) (p : Plain) (core : List CoreNeed) (truth : WorldFields → Bool)
    : Type 0 where
  pub need : CoreNeed
  pub first : IsFirst (IsFailing c R p) core need
  pub node : Node
  pub requirement : RequirementFields
  pub asked : IsAskedBy c R p need node requirement
  pub is : truth ≡ applies_at requirement node

-- each need of the core comes from a requirement that is true at every world of the region
abbrev pub HoldsThroughout : Packages → Region → Plain → List CoreNeed → Type 0
HoldsThroughout c R p core = (k : CoreNeed) (n : Node) (q : RequirementFields) → Contains core k → IsAskedBy c R p k n q
    → Throughout R (applies_at q n)
