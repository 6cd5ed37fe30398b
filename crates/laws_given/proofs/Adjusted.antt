-- An adjusted catalog has names and versions.
use Rattle.std.proofs.Common.{List, [], ◌∷◌, map}
use Rattle.std.specs.List.{AllByRecursion}
use Rattle.ul_requirement.specs.Fields.{RequirementFields}
use Rattle.ul_index.specs.Catalogs.{Packages}
use Rattle.ul_project.specs.Fields.{ProjectFields}
use Rattle.ul_groups.specs.Adjusted.{package_for}
use Rattle.ul_groups.specs.Sourced.{source_constraints}
use Rattle.laws_given.specs.Texts.{AdjustedAreTexts, IsNamedRequirement, IsTextPackage, IsTextRelease}
use Rattle.laws_given.proofs.AdjustedReleases.{IsOfBounds, releases_adjusted}
use Rattle.laws_given.proofs.Expanded.{text_release}

-- nothing is asked of what requirements are adjusted by
abbrev AnyBound : RequirementFields → Type 0
AnyBound q = Unit {0}

any_bounds : (qs : List RequirementFields) → AllByRecursion AnyBound qs
any_bounds [] = tt
any_bounds (q ∷ qs) = (tt, any_bounds qs)

adjusted_named : IsOfBounds IsNamedRequirement AnyBound
adjusted_named = record {
  overridden = λ q o h k. record { name = h.name; extras = h.extras };
  constrained = λ q c h k. record { name = h.name; extras = tt };
}

packages_are : (p : ProjectFields) (sources : List RequirementFields) (c : Packages) → AllByRecursion IsTextPackage c
    → AllByRecursion IsTextPackage (map (package_for p sources) c)
packages_are p sources [] h = tt
packages_are p sources (found ∷ others) h = (
  record {
    name = h.0.name;
    releases = releases_adjusted IsNamedRequirement AnyBound adjusted_named IsTextRelease text_release
        p.constraints p.overrides sources (any_bounds p.constraints) (any_bounds p.overrides) (any_bounds sources)
        found.releases h.0.releases;
  },
  packages_are p sources others h.1,
)

pub adjusted_are_texts : AdjustedAreTexts
adjusted_are_texts p c h = packages_are p (source_constraints p c) c h
