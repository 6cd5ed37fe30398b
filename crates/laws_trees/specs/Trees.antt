-- Truths of worlds that have a reduced tree: those of markers, of requirements at a node, of a release's Python bound
-- and of the worlds that a project supports.
use Rattle.std.specs.Prelude.{ℕ, List, Contains, Bool, not, ◌&&◌}
use Rattle.ul_base.specs.declared.node.Node.{Node}
use Rattle.ul_version.specs.Fields.{Fields}
use Rattle.ul_specifier.specs.Clauses.{ClauseFields}
use Rattle.ul_comparison.specs.Formulas.{AreFormulas, Formula, IsFormula, formulas_of}
use Rattle.ul_comparison.specs.Truth.{marker_holds}
use Rattle.ul_comparison.specs.Worlds.{WorldFields}
use Rattle.ul_requirement.specs.Fields.{IsRequirement, ReleaseFields, RequirementFields}
use Rattle.ul_requirement.specs.Truth.{applies_at}
use Rattle.ul_nodes.specs.Plain.{Plain}
use Rattle.ul_tree.specs.Regions.{HasTruth}
use Rattle.ul_index.specs.Catalogs.{Packages, is_fit, is_release_fit, requirements}
use Rattle.ul_project.specs.Region.{is_supported}

-- some reduced tree has the truth at each world, whatever the extra
abbrev pub HasTree : (WorldFields → Bool) → Type 0
HasTree p = (t : Plain) × HasTruth t p

-- each requirement of a catalog has a marker that a text can spell
abbrev pub AreRequirements : Packages → Type 0
AreRequirements c = (n : List ℕ) (v : Fields) (q : RequirementFields) → Contains (requirements c n v) q
    → IsRequirement q

-- the truths that have trees
pub record TruthTrees : Type 0 where
  pub both : (p q : WorldFields → Bool) → HasTree p → HasTree q → HasTree (λ w. p w && q w)
  pub negated : (p : WorldFields → Bool) → HasTree p → HasTree (λ w. not (p w))
  pub marker : (m : Formula) (x : List ℕ) → IsFormula m → HasTree (λ w. marker_holds m w x)
  pub applied : (q : RequirementFields) (n : Node) → IsRequirement q → HasTree (applies_at q n)
  pub release : (r : ReleaseFields) → HasTree (is_release_fit r)
  pub fit : (c : Packages) (n : List ℕ) (v : Fields) → HasTree (is_fit c n v)
  pub supported : (python : List ClauseFields) (environments : List Formula) → AreFormulas (formulas_of environments)
      → HasTree (is_supported python environments)
