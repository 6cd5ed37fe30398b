-- A region has one problem.
use Rattle.std.specs.Prelude.{◌≡◌, List}
use Rattle.ul_base.specs.declared.node.Node.{Node}
use Rattle.ul_problem.specs.Plain.{Plain}
use Rattle.ul_requirement.specs.Fields.{WishFields}
use Rattle.ul_index.specs.Catalogs.{Packages}
use Rattle.ul_index.specs.Regions.{Agree, Region}
use Rattle.ul_region.specs.Problem.{IsProblemOf}

-- regions that agree at every world have equal problems, places and sets included
abbrev pub EqualProblems : Type 0
EqualProblems = (c : Packages) (starts : List Node) (wish : WishFields) (R S : Region) (p q : Plain) → Agree R S
    → IsProblemOf c starts wish R p → IsProblemOf c starts wish S q → p ≡ q
