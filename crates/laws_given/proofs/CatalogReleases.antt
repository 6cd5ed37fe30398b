-- What is true of each package of a catalog is true of its releases, and of the requirements that it has for a name and
-- a version.
use Rattle.std.proofs.Common.{◌≡◌, ℕ, List, Option, Some, None, refl}
use Rattle.std.specs.Prelude.{Contains, find, bytes_eq}
use Rattle.std.specs.List.{AllByRecursion}
use Rattle.std.specs.Ordering.{is_eq}
use Rattle.ul_base.proofs.ForCallers.{found_in}
use Rattle.ul_version.specs.Fields.{Fields}
use Rattle.ul_version.specs.Order.{version_cmp}
use Rattle.ul_requirement.specs.Fields.{PackageFields, ReleaseFields, RequirementFields}
use Rattle.ul_index.specs.Catalogs.{Packages, release_of, releases_in, releases_of, requirements, requirements_in}
use Rattle.laws_given.proofs.Lists.{all_at}

found_release : (c : Packages) (n : List ℕ) (v : Fields) (r : ReleaseFields) → release_of c n v ≡ Some r
    → Contains (releases_of c n) r
unfolding release_of
found_release c n v r e = found_in (λ (x : ReleaseFields). is_eq (version_cmp x.version v)) (releases_of c n) r e

-- a catalog of packages with releases that are such
module _ (K : PackageFields → Type 0) (R : ReleaseFields → Type 0)
    (releases : (p : PackageFields) → K p → AllByRecursion R p.releases) (c : Packages)
    (all : AllByRecursion K c) where
  of_package : (o : Option PackageFields) → ((p : PackageFields) → o ≡ Some p → Contains c p)
      → AllByRecursion R (releases_in o)
  of_package None at = tt
  of_package (Some p) at = releases p (all_at K c p all (at p refl))

  -- each release of a name is such
  pub releases_have : (n : List ℕ) → AllByRecursion R (releases_of c n)
  unfolding releases_of
  releases_have n =
      of_package (find (λ (p : PackageFields). bytes_eq p.name n) c)
      (λ p e. found_in (λ (q : PackageFields). bytes_eq q.name n) c p e)

  -- and so is the one of a version
  pub release_has : (n : List ℕ) (v : Fields) (r : ReleaseFields) → release_of c n v ≡ Some r → R r
  release_has n v r is = all_at R (releases_of c n) r (releases_have n) (found_release c n v r is)

  module _ (P : RequirementFields → Type 0) (has : (r : ReleaseFields) → R r → AllByRecursion P r.requirements) where
    of_release : (o : Option ReleaseFields) → ((r : ReleaseFields) → o ≡ Some r → R r)
        → AllByRecursion P (requirements_in o)
    of_release None at = tt
    of_release (Some r) at = has r (at r refl)

    -- each requirement of a version is such
    pub requirement_has : (n : List ℕ) (v : Fields) (q : RequirementFields) → Contains (requirements c n v) q → P q
    unfolding requirements
    requirement_has n v q at =
        all_at P (requirements c n v) q (of_release (release_of c n v) (release_has n v)) at
