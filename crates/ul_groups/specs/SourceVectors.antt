-- Worked examples: the constraints that sources are.
use Rattle.std.specs.Prelude.{◌≡◌, ℕ, List, [], ◌∷◌, codes, map, false, true, Option, Some, None}
use Rattle.ul_version.specs.Fields.{plain}
use Rattle.ul_specifier.specs.Clauses.{ClauseFields}
use Rattle.ul_specifier.specs.declared.clause.Op.TheVariants.{Distinct}
use Rattle.ul_comparison.specs.Formulas.{Formula, all, text, more, none}
use Rattle.ul_comparison.specs.declared.variable.Variable.TheVariants.{OsName}
use Rattle.ul_requirement.specs.Fields.{PackageFields, ReleaseFields, RequirementFields}
use Rattle.ul_requirement.specs.declared.wish.Prereleases.TheVariants.{IfNecessaryOrExplicit}
use Rattle.ul_index.specs.Catalogs.{Packages}
use Rattle.ul_project.specs.Lists.{Named}
use Rattle.ul_project.specs.Sources.{SourceFields}
use Rattle.ul_groups.specs.Sourced.{constraint, constraints_of}

-- os_name == 'a'
abbrev pub on_a : Formula
on_a = text OsName (codes "a") true

-- os_name != 'a'
abbrev pub off_a : Formula
off_a = text OsName (codes "a") false

-- os_name == 'b'
abbrev pub on_b : Formula
on_b = text OsName (codes "b") true

-- os_name != 'b'
abbrev pub off_b : Formula
off_b = text OsName (codes "b") false

-- a release of one number that comes from a source, or from none
abbrev pub release : ℕ → Option (List ℕ) → ReleaseFields
release n source =
    record { version = plain (n ∷ []); python = []; requirements = []; yanked = false; files = []; source = source }

-- a package with these releases
abbrev pub packed : List ℕ → List ReleaseFields → PackageFields
packed name releases = record { name = name; entries = 0; prereleases = IfNecessaryOrExplicit; releases = releases }

-- demo: 1; t: 1, 2 from beta, 3 from gamma; u: 4
abbrev pub some_packages : Packages
some_packages =
    packed (codes "demo") (release 1 None ∷ [])
    ∷ packed (codes "t") (release 1 None ∷ release 2 (Some (codes "beta")) ∷ release 3 (Some (codes "gamma")) ∷ [])
    ∷ packed (codes "u") (release 4 None ∷ []) ∷ []

-- a source of a label, under a condition or everywhere
abbrev pub source : List ℕ → Option Formula → SourceFields
source label condition = record { label = label; condition = condition }

-- any version but this one
abbrev pub not_version : ℕ → ClauseFields
not_version n = record { op = Distinct; version = plain (n ∷ []); prefix = false }

-- no version of these
abbrev pub no_version : List ℕ → List ClauseFields
no_version ns = map not_version ns

-- the constraints that sources of names are in these packages
abbrev pub constrained : List (Named (List SourceFields)) → List RequirementFields
constrained sources = constraints_of sources some_packages

-- the sources of `t`
abbrev pub sources_of_t : List SourceFields → List (Named (List SourceFields))
sources_of_t ss = (codes "t", ss) ∷ []

-- sources, and the constraints that they are
pub record SourceConstraints : Type 0 where
  pub everywhere : constrained (sources_of_t (source (codes "beta") None ∷ []))
      ≡ constraint (codes "t") (no_version (1 ∷ 3 ∷ [])) None ∷ []
  pub under_a_condition : constrained (sources_of_t (source (codes "beta") (Some on_a) ∷ []))
      ≡ constraint (codes "t") (no_version (1 ∷ 3 ∷ [])) (Some on_a)
      ∷ constraint (codes "t") (no_version (2 ∷ 3 ∷ [])) (Some (all (more off_a none))) ∷ []
  pub two_conditions :
      constrained (sources_of_t (source (codes "gamma") (Some on_a) ∷ source (codes "beta") (Some on_b) ∷ []))
      ≡ constraint (codes "t") (no_version (1 ∷ 2 ∷ [])) (Some on_a)
      ∷ constraint (codes "t") (no_version (1 ∷ 3 ∷ [])) (Some on_b)
      ∷ constraint (codes "t") (no_version (2 ∷ 3 ∷ [])) (Some (all (more off_a (more off_b none)))) ∷ []
  pub no_rest : constrained (sources_of_t (source (codes "beta") (Some on_a) ∷ source (codes "gamma") None ∷ []))
      ≡ constraint (codes "t") (no_version (1 ∷ 3 ∷ [])) (Some on_a)
      ∷ constraint (codes "t") (no_version (1 ∷ 2 ∷ [])) None ∷ []
  pub no_such_label : constrained (sources_of_t (source (codes "direct") None ∷ []))
      ≡ constraint (codes "t") (no_version (1 ∷ 2 ∷ 3 ∷ [])) None ∷ []
  pub no_such_name : constrained ((codes "v", source (codes "beta") None ∷ []) ∷ [])
      ≡ constraint (codes "v") [] None ∷ []
  pub names_in_order :
      constrained ((codes "t", source (codes "beta") None ∷ []) ∷ (codes "u", source (codes "beta") None ∷ []) ∷ [])
      ≡ constraint (codes "t") (no_version (1 ∷ 3 ∷ [])) None
      ∷ constraint (codes "u") (no_version (4 ∷ [])) None ∷ []
