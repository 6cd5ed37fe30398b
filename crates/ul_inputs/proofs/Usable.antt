-- The project's release isn't yanked, and stays so where groups become extras and requirements are adjusted.
use Rattle.std.proofs.Common.{◌≡◌, ℕ, List, [], false, map, None, Ok, Err, refl, ap, subst}
use Rattle.ul_index.specs.Catalogs.{Packages}
use Rattle.ul_project.specs.Fields.{IsProject, ProjectFields}
use Rattle.ul_project.specs.Headline.{IsAnswer}
use Rattle.ul_project.specs.Results.{◌>>=◌}
use Rattle.ul_load.specs.Begun.{BeginsWith}
use Rattle.ul_groups.specs.Adjusted.{adjusted_release, all_on, catalog_for, package_for}
use Rattle.ul_groups.specs.Sourced.{source_constraints}
use Rattle.ul_groups.specs.Answers.{Gives}
use Rattle.ul_groups.specs.Expanded.{ExtraLists, Expanding, all_lists, expanded_project, first_requirements, group_lists, group_named, own_size, with_extras, with_lists}
use Rattle.ul_inputs.specs.Catalogs.{BeginsAdjusted}
use Rattle.ul_inputs.specs.Locks.{Kept}
use Rattle.ul_inputs.specs.Resolutions.{HasUsable, IsResolution, resolution_of}

-- the release of a project that bytes say
pub said_usable : (bytes : List ℕ) (p : ProjectFields) → IsAnswer bytes (Ok p) → HasUsable p.package
said_usable bytes p said = let is = said.project.fields in record {
  release = record { version = said.file.head.version; python = []; requirements = said.file.requirements; yanked = false; files = []; source = None };
  one = ap (λ (q : ProjectFields). q.package.releases) is;
  usable = refl;
}

-- a project with extras has the release, with other requirements
with_usable : (p : ProjectFields) (lists : ExtraLists) → HasUsable p.package → HasUsable (with_extras p lists).package
with_usable p lists had = record {
  release = with_lists (own_size p.sizes (first_requirements p.package.releases)) lists had.release;
  one = ap (map (with_lists (own_size p.sizes (first_requirements p.package.releases)) lists)) had.one;
  usable = had.usable;
}

ok_same : (p q : ProjectFields) → (let r : Expanding ProjectFields = Ok p in r) ≡ Ok q → p ≡ q
ok_same p q e = cc

-- the project of an expansion
expanded_from : (p q : ProjectFields) (lists : Expanding ExtraLists) → HasUsable p.package
    → (lists >>= λ found. Ok (with_extras p (all_lists p.extras p.sizes p.package found))) ≡ Ok q → HasUsable q.package
expanded_from p q (Ok lists) had went =
    subst (λ (x : ProjectFields). HasUsable x.package) (ok_same _ q went) (with_usable p (all_lists p.extras p.sizes p.package lists) had)
expanded_from p q (Err e) had went = absurd (cc)

pub expanded_usable : (p q : ProjectFields) → HasUsable p.package → Gives {X = ProjectFields} (λ x. x) (Ok q) (expanded_project p)
    → HasUsable q.package
expanded_usable p q had went = expanded_from p q (group_lists (group_named p.groups) p.groups) had went

-- the catalog for a project begins with the package for it
pub adjusted_begins : (p : ProjectFields) (c : Packages) → BeginsWith p.package c
    → BeginsAdjusted p (catalog_for p c)
adjusted_begins p c begun = record {
  sources = source_constraints p c;
  others = map (package_for p (source_constraints p c)) begun.others;
  is = ap (map (package_for p (source_constraints p c))) begun.is;
}

-- a resolution of a project with a catalog that begins with its adjusted package
pub is_resolution : (p : ProjectFields) (kept : List Kept) (c : Packages) → IsProject p → HasUsable p.package → BeginsAdjusted p c
    → IsResolution (resolution_of p kept c)
is_resolution p kept c project had begun = record {
  first = package_for p begun.sources p.package;
  others = begun.others;
  begins = begun.is;
  named = refl;
  release = adjusted_release (all_on p.constraints) (all_on p.overrides) (all_on begun.sources) had.release;
  one = ap (map (adjusted_release (all_on p.constraints) (all_on p.overrides) (all_on begun.sources))) had.one;
  usable = had.usable;
  project = project;
}
