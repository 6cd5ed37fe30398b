-- Each region of a catalog has a problem.
use Rattle.std.specs.Prelude.{List}
use Rattle.std.specs.List.{AllByRecursion}
use Rattle.ul_base.specs.declared.node.Node.{Node}
use Rattle.ul_requirement.specs.Fields.{IsPackage, WishFields}
use Rattle.ul_index.specs.Catalogs.{NamesDiffer, Packages}
use Rattle.ul_index.specs.Regions.{Region}
use Rattle.ul_problem.specs.Plain.{Plain}
use Rattle.ul_prepared.specs.Project.{IsProjectOf}
use Rattle.ul_region.specs.Problem.{IsProblemOf}
use Rattle.laws_trees.specs.Trees.{AreRequirements, HasTree}

-- what a problem is made of: packages whose names differ and whose versions differ, requirements whose markers a text
-- can spell, and the project's nodes to start from
pub record IsAskedOf (c : Packages) (starts : List Node) : Type 0 where
  pub differ : NamesDiffer c
  pub packages : AllByRecursion IsPackage c
  pub requirements : AreRequirements c
  pub project : IsProjectOf c starts

-- a region that has a tree has a problem
abbrev pub ProblemExists : Type 0
ProblemExists = (c : Packages) (starts : List Node) (wish : WishFields) (R : Region) → IsAskedOf c starts → HasTree R
    → (p : Plain) × IsProblemOf c starts wish R p
