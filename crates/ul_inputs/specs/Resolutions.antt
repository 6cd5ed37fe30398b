-- What a resolution is about: the project, the catalog and the wish that files say.
use Rattle.std.specs.Prelude.{◌≡◌, ℕ, List, [], ◌∷◌, false, Option, Ok}
use Rattle.ul_requirement.specs.Fields.{PackageFields, ReleaseFields, WishFields}
use Rattle.ul_index.specs.Catalogs.{Packages}
use Rattle.ul_project.specs.Fields.{IsProject, ProjectFields}
use Rattle.ul_inputs.specs.declared.resolutions.Resolution.{Resolution}
use Rattle.ul_inputs.specs.Inputs.{Input, ◌>>=◌, just}
use Rattle.ul_inputs.specs.Projects.{project_at}
use Rattle.ul_inputs.specs.Locks.{Kept, old_lock}
use Rattle.ul_inputs.specs.Catalogs.{catalog_in}

-- the project with its groups as extras, the adjusted catalog, and what is wished
pub record ResolutionFields : Type 0 where
  pub project : ProjectFields
  pub catalog : Packages
  pub wish : WishFields

-- what a project wishes, with what an old lock keeps
abbrev pub wish_of : ProjectFields → List Kept → WishFields
wish_of p kept = record { mode = p.mode; strategy = p.strategy; kept = kept }

-- the parts of a resolution
abbrev pub resolution_of : ProjectFields → List Kept → Packages → ResolutionFields
resolution_of p kept c = record { project = p; catalog = c; wish = wish_of p kept }

-- a resolution as plain data
abbrev pub view : Resolution → ResolutionFields
view r = record { project = r.project; catalog = r.catalog; wish = r.wish }

-- what a project says, with what an old lock keeps and the index folder's documents
abbrev pub resolution_with : (folder : List ℕ) → ProjectFields → List Kept → Input ResolutionFields
resolution_with folder p kept = catalog_in folder p >>= λ c. just (Ok (resolution_of p kept c))

-- what a project file, an old lock and an index folder say, read in this order
abbrev pub resolution_in : (project folder : List ℕ) → Option (List ℕ) → Input ResolutionFields
resolution_in project folder old =
    project_at project
    >>= λ p. old_lock old
    >>= λ kept. resolution_with folder p kept

-- what is true of each resolution that is read: the catalog begins with the project, whose one release isn't yanked
pub record IsResolution (r : ResolutionFields) : Type 0 where
  pub first : PackageFields
  pub others : Packages
  pub begins : r.catalog ≡ first ∷ others
  pub named : first.name ≡ r.project.package.name
  pub release : ReleaseFields
  pub one : first.releases ≡ release ∷ []
  pub usable : release.yanked ≡ false
  pub project : IsProject r.project

-- a package with one release, which isn't yanked
pub record HasUsable (p : PackageFields) : Type 0 where
  pub release : ReleaseFields
  pub one : p.releases ≡ release ∷ []
  pub usable : release.yanked ≡ false
