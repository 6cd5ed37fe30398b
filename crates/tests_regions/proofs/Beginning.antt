-- What begins with a project.
use Rattle.std.proofs.Common.{◌≡◌, ◌∷◌, [], List, false, refl, subst, sym}
use Rattle.std.specs.List.Sorted.{IsStrictlySortedBy}
use Rattle.ul_base.specs.declared.node.Node.{Node}
use Rattle.ul_base.specs.Names.{name_cmp}
use Rattle.ul_requirement.specs.Fields.{PackageFields, ReleaseFields}
use Rattle.ul_requirement.specs.Truth.{base}
use Rattle.ul_index.specs.Catalogs.{Packages}
use Rattle.ul_prepared.specs.Project.{IsProjectOf}
use Rattle.tests_regions.specs.Begun.{HasOne}

none_rise : IsStrictlySortedBy name_cmp []
unfolding IsStrictlySortedBy
none_rise = tt

-- a package with one release that isn't yanked
pub has_one : (p : PackageFields) (r : ReleaseFields) → p.releases ≡ r ∷ [] → r.yanked ≡ false → HasOne p
has_one p r one usable = record { release = r; one = one; usable = usable }

based : (p : PackageFields) (ps : Packages) → HasOne p → IsProjectOf (p ∷ ps) (base p.name ∷ [])
based p ps h = record {
  project = p;
  others = ps;
  first = refl;
  release = h.release;
  one = h.one;
  kept = h.usable;
  extras = [];
  increasing = none_rise;
  are = refl;
}

-- a catalog whose first package is a project's, and its base
pub begun : (p : PackageFields) (ps : Packages) (starts : List Node) → HasOne p → starts ≡ base p.name ∷ [] → IsProjectOf (p ∷ ps) starts
begun p ps starts h e = subst (IsProjectOf (p ∷ ps)) (sym e) (based p ps h)

-- a catalog whose first package has one release, which isn't yanked, starts from that package's base
pub begun_with_release : (p : PackageFields) (ps : Packages) (r : ReleaseFields) → p.releases ≡ r ∷ [] → r.yanked ≡ false
    → IsProjectOf (p ∷ ps) (base p.name ∷ [])
begun_with_release p ps r one kept = based p ps (has_one p r one kept)
