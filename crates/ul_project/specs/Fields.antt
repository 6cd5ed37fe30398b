-- Projects as plain data.
use Rattle.std.specs.Prelude.{◌≡◌, ℕ, List, map, length, false}
use Rattle.std.specs.List.Sorted.{IsStrictlySortedBy}
use Rattle.ul_base.specs.Names.{name_cmp}
use Rattle.ul_comparison.specs.Formulas.{Formula, AreFormulas, formulas_of}
use Rattle.ul_requirement.specs.Fields.{PackageFields, RequirementFields}
use Rattle.ul_requirement.specs.declared.wish.Mode.{Mode}
use Rattle.ul_requirement.specs.declared.wish.Prereleases.{Prereleases}
use Rattle.ul_requirement.specs.declared.wish.Strategy.{Strategy}
use Rattle.ul_nodes.specs.Plain.{Plain, truth}
use Rattle.ul_tree.specs.Regions.{IsRegionTree}
use Rattle.ul_project.specs.Groups.{GroupFields}
use Rattle.ul_project.specs.Lists.{Named}
use Rattle.ul_project.specs.Sources.{SourceFields}

-- a project: a package with one release, its extras, how many requirements each has, the environments that it names, the
-- region of the worlds that it supports, how versions are preferred, which pre-releases count, how regions are split, its
-- groups, the sources of names, in byte order of these, its constraints and its overrides
pub record ProjectFields : Type 0 where
  pub «package» : PackageFields
  pub extras : List (List ℕ)
  pub sizes : List ℕ
  pub environments : List Formula
  pub region : Plain
  pub mode : Mode
  pub prereleases : Prereleases
  pub strategy : Strategy
  pub groups : List GroupFields
  pub sources : List (Named (List SourceFields))
  pub constraints : List RequirementFields
  pub overrides : List RequirementFields

-- what is true of each project
pub record IsProject (p : ProjectFields) : Type 0 where
  pub release : length p.package.releases ≡ 1
  pub extras : IsStrictlySortedBy name_cmp p.extras
  pub environments : AreFormulas (formulas_of p.environments)
  pub region : IsRegionTree p.region
  pub some : p.region ≡ truth false → ⊥
  pub groups : IsStrictlySortedBy name_cmp (map (λ g. g.name) p.groups)
