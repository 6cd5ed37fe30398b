-- What holds of packages holds of adjusted ones.
use Rattle.std.proofs.Common.{◌≡◌, ◌∙◌, ℕ, List, [], ◌∷◌, map, refl, ap, sym, subst}
use Rattle.std.proofs.lemmas.List.{length-map}
use Rattle.std.proofs.lemmas.List.Elements.{All-map}
use Rattle.ul_requirement.specs.Fields.{IsOtherVersion, PackageFields, ReleaseFields, RequirementFields, VersionsDiffer}
use Rattle.ul_index.specs.Catalogs.{IsCatalog, Packages, with_prereleases}
use Rattle.ul_index.proofs.ForCallers.{catalog_still}
use Rattle.ul_project.specs.Fields.{ProjectFields}
use Rattle.ul_project.specs.Lists.{Named}
use Rattle.ul_project.specs.Sources.{SourceFields}
use Rattle.ul_groups.specs.Adjusted.{ByName, adjusted_catalog, adjusted_list, adjusted_package, adjusted_release, all_on, catalog_for, constrained_list, overridden_list, package_for, with_requirements}
use Rattle.ul_groups.specs.Sourced.{constraints_of, source_constraints}
use Rattle.ul_groups.specs.NameLists.{Entries, HasEach, at_name}

differ_still : (cs os ss : ByName) (rs : List ReleaseFields) → VersionsDiffer rs → VersionsDiffer (map (adjusted_release cs os ss) rs)
differ_still cs os ss [] h = tt
differ_still cs os ss (r ∷ rs) h =
    (All-map (IsOtherVersion (adjusted_release cs os ss r)) (adjusted_release cs os ss) rs h.0, differ_still cs os ss rs h.1)

-- the versions of adjusted releases differ still
pub differ_of : (cs os ss : ByName) (rs made : List ReleaseFields) → made ≡ map (adjusted_release cs os ss) rs → VersionsDiffer rs
    → VersionsDiffer made
differ_of cs os ss rs made e h = subst VersionsDiffer (sym e) (differ_still cs os ss rs h)

-- adjusted packages are a catalog
pub catalog_of : (cs os ss : ByName) (ps qs : Packages) → qs ≡ map (adjusted_package cs os ss) ps → IsCatalog ps → IsCatalog qs
catalog_of cs os ss ps qs e h =
    subst IsCatalog (sym e)
    (catalog_still (adjusted_package cs os ss) (λ p. refl) (λ p. length-map p.releases (adjusted_release cs os ss)) ps h)

each_at : (f g : ByName) → ((name : List ℕ) → f name ≡ g name) → f ≡ g
each_at f g h = λ i name. h name i

-- the packages are adjusted by the lists that the maps have
pub adjusted_by_lists : (cs os ss : Entries) (constraints overrides sources : List RequirementFields) (ps : Packages)
    → HasEach cs constraints → HasEach os overrides → HasEach ss sources
    → map (adjusted_package (at_name cs) (at_name os) (at_name ss)) ps ≡ adjusted_catalog constraints overrides sources ps
adjusted_by_lists cs os ss constraints overrides sources ps c o s =
    ap (λ (f : ByName). map (adjusted_package f (at_name os) (at_name ss)) ps) (each_at (at_name cs) (all_on constraints) c)
    ∙ ap (λ (f : ByName). map (adjusted_package (all_on constraints) f (at_name ss)) ps) (each_at (at_name os) (all_on overrides) o)
    ∙ ap (λ (f : ByName). map (adjusted_package (all_on constraints) (all_on overrides) f) ps) (each_at (at_name ss) (all_on sources) s)

-- ---- where there is nothing to adjust by

not_overridden : (qs : List RequirementFields) → overridden_list (all_on []) qs ≡ qs
not_overridden [] = refl
not_overridden (q ∷ qs) = ap (λ (rest : List RequirementFields). q ∷ rest) (not_overridden qs)

not_constrained : (qs : List RequirementFields) → constrained_list (all_on []) qs ≡ qs
not_constrained [] = refl
not_constrained (q ∷ qs) = ap (λ (rest : List RequirementFields). q ∷ rest) (not_constrained qs)

list_stays : (qs : List RequirementFields) → adjusted_list (all_on []) (all_on []) (all_on []) qs ≡ qs
list_stays qs =
    ap (λ (xs : List RequirementFields). constrained_list (all_on []) (constrained_list (all_on []) xs)) (not_overridden qs)
    ∙ ap (constrained_list (all_on [])) (not_constrained qs) ∙ not_constrained qs

release_stays : (r : ReleaseFields) → adjusted_release (all_on []) (all_on []) (all_on []) r ≡ r
release_stays r = ap (with_requirements r) (list_stays r.requirements)

releases_stay : (rs : List ReleaseFields) → map (adjusted_release (all_on []) (all_on []) (all_on [])) rs ≡ rs
releases_stay [] = refl
releases_stay (r ∷ rs) =
    ap (λ (s : ReleaseFields). s ∷ map (adjusted_release (all_on []) (all_on []) (all_on [])) rs) (release_stays r)
    ∙ ap (λ (rest : List ReleaseFields). r ∷ rest) (releases_stay rs)

package_stays : (p : PackageFields) → adjusted_package (all_on []) (all_on []) (all_on []) p ≡ p
package_stays p = ap (λ rs. record p { releases = rs }) (releases_stay p.releases)

packages_stay : (ps : Packages) → adjusted_catalog [] [] [] ps ≡ ps
packages_stay [] = refl
packages_stay (p ∷ ps) =
    ap (λ (q : PackageFields). q ∷ adjusted_catalog [] [] [] ps) (package_stays p)
    ∙ ap (λ (rest : Packages). p ∷ rest) (packages_stay ps)

-- the packages stay as they are where there are neither constraints nor overrides nor sources
pub adjusted_by_none : (constraints overrides : List RequirementFields) (sources : List (Named (List SourceFields))) (ps : Packages)
    → constraints ≡ [] → overrides ≡ [] → sources ≡ [] → ps ≡ adjusted_catalog constraints overrides (constraints_of sources ps) ps
adjusted_by_none constraints overrides sources ps c o s =
    sym (packages_stay ps) ∙ ap (λ cs. adjusted_catalog cs [] [] ps) (sym c) ∙ ap (λ os. adjusted_catalog constraints os [] ps) (sym o)
    ∙ ap (λ ss. adjusted_catalog constraints overrides (constraints_of ss ps) ps) (sym s)

-- ---- the project's mode

each_for : (p : ProjectFields) (sources : List RequirementFields) (ps : Packages)
    → with_prereleases p.prereleases (adjusted_catalog p.constraints p.overrides sources ps) ≡ map (package_for p sources) ps
each_for p sources [] = refl
each_for p sources (q ∷ qs) = ap (λ (rest : Packages). package_for p sources q ∷ rest) (each_for p sources qs)

-- adjusted packages in the project's mode are those for the project
pub packages_for : (p : ProjectFields) (ps : Packages)
    → with_prereleases p.prereleases (adjusted_catalog p.constraints p.overrides (source_constraints p ps) ps) ≡ catalog_for p ps
packages_for p ps = each_for p (source_constraints p ps) ps
