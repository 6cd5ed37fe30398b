-- Worked examples of loading: what is read, in which order, and what is found.
use Rattle.std.specs.Prelude.{◌≡◌, ℕ, List, [], ◌∷◌, codes, length, map, false, Option, None, Some, Ok, Err, option_map}
use Rattle.ul_files.specs.Files.{FileMap}
use Rattle.ul_version.specs.Fields.{plain}
use Rattle.ul_comparison.specs.Formulas.{Formula}
use Rattle.ul_marker.specs.Reading.{marker_of}
use Rattle.ul_requirement.specs.Fields.{RequirementFields}
use Rattle.ul_requirement.specs.Reading.{requirement_of}
use Rattle.ul_requirement.specs.declared.wish.Prereleases.TheVariants.{Allow}
use Rattle.ul_index.specs.Catalogs.{Packages}
use Rattle.ul_index.specs.Documents.{shape}
use Rattle.ul_index.specs.Results.{option_bind, read_each}
use Rattle.ul_index.specs.declared.place.Place.TheVariants.{Document}
use Rattle.ul_project.specs.Sources.{SourceFields}
use Rattle.ul_load.specs.Conditions.{conditions_of}
use Rattle.ul_load.specs.Loading.{Beginning, Found, Traced, beginning_of, document, first_progress, load_in}

-- a project that requires these, with the conditions of its sources, without environments, constraints and overrides
abbrev pub asks_under : List Formula → List RequirementFields → Beginning
asks_under conditions qs = beginning_of (record {
  name = codes "demo";
  entries = 1;
  prereleases = Allow;
  releases = record { version = plain (0 ∷ []); python = []; requirements = qs; yanked = false; files = []; source = None } ∷ [];
}) [] conditions [] []

-- one without sources
abbrev pub asks : List RequirementFields → Beginning
asks = asks_under []

-- the names of packages, in order
abbrev pub names_in : Found Packages → Found (List (List ℕ))
names_in (Ok ps) = Ok (map (λ p. p.name) ps)
names_in (Err f) = Err f

-- the paths that are read, and the names of the packages that are found
abbrev pub read_and_named : Traced Packages → Traced (List (List ℕ))
read_and_named t = (t.0, names_in t.1)

-- what is loaded from the folder `ix` in so many turns, by a project that requires these texts
abbrev pub loading_of : FileMap → List (List ℕ) → ℕ → Option (Traced (List (List ℕ)))
loading_of m directs turns =
    option_bind (read_each requirement_of directs)
    (λ qs. option_map read_and_named (load_in m (codes "ix") (asks qs) turns))

-- the document of `a`, whose releases require `c` and `b`, and `c`
abbrev pub a_asks : List ℕ × List ℕ
a_asks = (
  codes "ix/a.json",
  codes "{\"name\": \"a\", \"versions\": [{\"version\": \"1\", \"requires_dist\": [\"c\", \"b\"]}, {\"version\": \"2\", \"requires_dist\": [\"c\"]}]}",
)

-- one whose only release isn't usable
abbrev pub unusable : List ℕ × List ℕ
unusable = (codes "ix/a.json", codes "{\"name\": \"a\", \"versions\": [{\"version\": \"!\", \"requires_dist\": [\"c\"]}]}")

-- one that is no document
abbrev pub no_document : List ℕ × List ℕ
no_document = (codes "ix/b.json", codes "[]")

-- names in the order in which they are met, each read once; names without documents; and a document that is refused
pub record LoadingExamples : Type 0 where
  pub absent : loading_of [] (codes "b" ∷ codes "A" ∷ codes "b>1" ∷ []) 9
      ≡ Some (codes "ix/b.json" ∷ codes "ix/a.json" ∷ [], Ok (codes "demo" ∷ codes "b" ∷ codes "a" ∷ []))
  pub few_turns : loading_of [] (codes "b" ∷ codes "a" ∷ []) 2 ≡ None
  pub turns : loading_of [] (codes "b" ∷ codes "a" ∷ []) 3
      ≡ Some (codes "ix/b.json" ∷ codes "ix/a.json" ∷ [], Ok (codes "demo" ∷ codes "b" ∷ codes "a" ∷ []))
  pub itself : loading_of [] (codes "demo" ∷ []) 1 ≡ Some ([], Ok (codes "demo" ∷ []))
  pub met_in_documents : loading_of (a_asks ∷ []) (codes "a" ∷ codes "d" ∷ []) 9
      ≡ Some (
        codes "ix/a.json" ∷ codes "ix/d.json" ∷ codes "ix/c.json" ∷ codes "ix/b.json" ∷ [],
        Ok (codes "demo" ∷ codes "a" ∷ codes "d" ∷ codes "c" ∷ codes "b" ∷ []),
      )
  pub unusable_asks_nothing : loading_of (unusable ∷ []) (codes "a" ∷ []) 9
      ≡ Some (codes "ix/a.json" ∷ [], Ok (codes "demo" ∷ codes "a" ∷ []))
  pub refused_document : loading_of (no_document ∷ []) (codes "a" ∷ codes "b" ∷ codes "c" ∷ []) 9
      ≡ Some (codes "ix/a.json" ∷ codes "ix/b.json" ∷ [], Err (document (codes "ix/b.json") (shape Document)))

-- a source of the index `beta`, which counts under a condition
abbrev pub beta_under : Formula → SourceFields
beta_under m = record { label = codes "beta"; condition = Some m }

-- a source that counts everywhere
abbrev pub beta : SourceFields
beta = record { label = codes "beta"; condition = None }

-- how many comparisons count as the project's own, where it requires these, and `t` has a source for each condition, and
-- `u` has one more, without a condition
abbrev pub own_count : List (List ℕ) → List (List ℕ) → Option ℕ
own_count directs conditions =
    option_bind (read_each requirement_of directs) (λ qs.
    option_map (λ ms. length
    (first_progress (asks_under (conditions_of ((codes "t", map beta_under ms) ∷ (codes "u", beta ∷ []) ∷ [])) qs)).comparisons)
    (read_each marker_of conditions))

-- the comparisons of conditions, each once, also where a requirement has it too
pub record ConditionExamples : Type 0 where
  pub no_condition : own_count (codes "a" ∷ []) [] ≡ Some 0
  pub one_condition : own_count [] (codes "'x' in platform_version" ∷ []) ≡ Some 1
  pub two_conditions : own_count [] (codes "'x' in platform_version" ∷ codes "'y' in platform_version" ∷ []) ≡ Some 2
  pub equal_conditions : own_count [] (codes "'x' in platform_version" ∷ codes "'x' not in platform_version" ∷ []) ≡ Some 1
  pub required_too : own_count (codes "a; 'x' in platform_version" ∷ []) (codes "'x' in platform_version" ∷ []) ≡ Some 1
  pub required_other : own_count (codes "a; 'x' in platform_version" ∷ []) (codes "'y' in platform_version" ∷ []) ≡ Some 2
  pub not_opaque : own_count [] (codes "sys_platform == 'win32'" ∷ []) ≡ Some 0
