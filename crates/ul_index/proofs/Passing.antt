-- Which releases count: some of the package's, and of the project its one release, if it isn't yanked.
use Rattle.std.proofs.Common.{◌≡◌, ◌∙◌, ℕ, List, [], ◌∷◌, filter, find, map, Bool, true, false, not, ◌||◌, cond, Some, Contains, refl, ap, bytes_eq, if◌then◌else◌}
use Rattle.std.specs.List.{list_any}
use Rattle.std.proofs.lemmas.Bool.{and_from, not_from_false, or_left, or_right}
use Rattle.ul_base.proofs.ForCallers.{bytes_eq-same}
use Rattle.ul_version.specs.Fields.{is_pre_of}
use Rattle.ul_specifier.specs.Meaning.{pins_of}
use Rattle.ul_requirement.specs.Fields.{PackageFields, ReleaseFields, RequirementFields}
use Rattle.ul_requirement.specs.declared.wish.Prereleases.{Prereleases}
use Rattle.ul_requirement.specs.declared.wish.Prereleases.TheVariants.{Allow}
use Rattle.ul_index.specs.Catalogs.{Packages, prereleases_in, prereleases_of, releases_in, releases_of}
use Rattle.ul_index.specs.Eligible.{directs_on, eligible, in_order, passes, passing, takes_pre}
use Rattle.ul_index.proofs.Orders.{filter_in}

-- a release that counts is one of the name's
pub passing_in : (c : Packages) (n : List ℕ) (r : ReleaseFields) → Contains (passing c n) r
    → Contains (releases_of c n) r
unfolding passing
passing_in c n r m =
    filter_in (passes (directs_on c n) (takes_pre (prereleases_of c n) (directs_on c n) (releases_of c n)))
    (releases_of c n) r m

-- ---- the project

-- all pre-releases of the project count
own_prereleases : (project : PackageFields) (others : Packages) → prereleases_of (project ∷ others) project.name ≡ Allow
unfolding prereleases_of
own_prereleases project others =
    ap (λ (b : Bool). if b then Allow else prereleases_in
    (find (λ (p : PackageFields). bytes_eq p.name project.name) (project ∷ others)))
    (bytes_eq-same project.name)

own_releases : (project : PackageFields) (others : Packages)
    → releases_of (project ∷ others) project.name ≡ project.releases
unfolding releases_of
own_releases project others =
    ap (λ (b : Bool). releases_in
    (cond b (Some project) (find (λ (p : PackageFields). bytes_eq p.name project.name) others)))
    (bytes_eq-same project.name)

-- where pre-releases count a release does that isn't yanked
own_passes : (qs : List RequirementFields) (r : ReleaseFields) → r.yanked ≡ false → passes qs true r ≡ true
own_passes qs r e =
    let pinned = list_any (λ (q : RequirementFields). pins_of q.specifiers r.version) qs in
    and_from (not (is_pre_of r.version) || true) (not r.yanked || pinned)
    (or_right (not (is_pre_of r.version)) true refl)
    (or_left (not r.yanked) pinned (not_from_false r.yanked e))

counted : (mode : Prereleases) (qs : List RequirementFields) (rs : List ReleaseFields) (r : ReleaseFields)
    → mode ≡ Allow → rs ≡ r ∷ []
    → r.yanked ≡ false → filter (passes qs (takes_pre mode qs rs)) rs ≡ r ∷ []
counted mode qs rs r by one kept =
    ap (λ (m : Prereleases). filter (passes qs (takes_pre m qs rs)) rs) by
    ∙ ap (λ (ss : List ReleaseFields). filter (passes qs true) ss) one
    ∙ ap (λ (b : Bool). cond b (r ∷ []) []) (own_passes qs r kept)

-- the project's one release is eligible, whatever its version, if it isn't yanked
pub own_eligible : (project : PackageFields) (others : Packages) (r : ReleaseFields) → project.releases ≡ r ∷ []
    → r.yanked ≡ false
    → eligible (project ∷ others) project.name ≡ r.version ∷ []
unfolding eligible passing
own_eligible project others r one kept =
    let c = project ∷ others in
    ap (λ (rs : List ReleaseFields). in_order (map (λ (s : ReleaseFields). s.version) rs))
    (counted (prereleases_of c project.name) (directs_on c project.name) (releases_of c project.name) r
    (own_prereleases project others)
    (own_releases project others ∙ one) kept)
