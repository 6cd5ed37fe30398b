-- The mode of pre-releases changes nothing else of a catalog.
use Rattle.std.proofs.Common.{◌≡◌, ◌+◌, ◌<◌, ◌^◌, ◌∙◌, ℕ, List, [], ◌∷◌, length, map, find, Bool, true, false, cond, Option, Some, None, option_map, refl, ap, sym, subst, bytes_eq, if◌then◌else◌}
use Rattle.std.specs.Borrow.{Bor}
use Rattle.std.specs.HashMap.{get}
use Rattle.std.specs.List.{slice_get}
use Rattle.std.proofs.lemmas.List.Elements.{All-map}
use Rattle.std.proofs.lemmas.Option.{slice_get-map}
use Rattle.ul_requirement.specs.Fields.{PackageFields, RequirementFields}
use Rattle.ul_requirement.specs.declared.wish.Prereleases.{Prereleases}
use Rattle.ul_requirement.specs.declared.wish.Prereleases.TheVariants.{Allow}
use Rattle.ul_index.specs.Catalogs.{BeginsWithOne, IsCatalog, IsOtherName, NamesDiffer, Packages, directs, is_project, package_with_prereleases, prereleases_in, prereleases_of, release_count, releases_in, releases_of, with_prereleases}
use Rattle.ul_index.specs.DirectPlaces.{IsDirectIndex}
use Rattle.ul_index.specs.NamePlaces.{IsIndexed, NamePlaces}
use Rattle.ul_index.specs.Results.{option_bind}
use Rattle.ul_index.specs.declared.direct_index.DirectIndex.{DirectIndex}

-- ---- packages whose names and numbers of releases stay

-- each package has the name that it had
abbrev pub KeepsNames : (PackageFields → PackageFields) → Type 0
KeepsNames f = (p : PackageFields) → (f p).name ≡ p.name

-- each package has as many releases as it had
abbrev pub KeepsNumbers : (PackageFields → PackageFields) → Type 0
KeepsNumbers f = (p : PackageFields) → length (f p).releases ≡ length p.releases

-- the names of such packages differ
pub names_still : (f : PackageFields → PackageFields) → KeepsNames f → (ps : Packages) → NamesDiffer ps
    → NamesDiffer (map f ps)
names_still f same [] h = tt
names_still f same (p ∷ ps) h =
    (All-map (IsOtherName (f p)) f ps (λ k d lt e. h.0 k d lt (sym (same p) ∙ e ∙ same _)), names_still f same ps h.1)

count_still : (f : PackageFields → PackageFields) → KeepsNumbers f → (ps : Packages)
    → release_count (map f ps) ≡ release_count ps
count_still f same [] = refl
count_still f same (p ∷ ps) =
    ap (λ (n : ℕ). n + release_count (map f ps)) (same p)
    ∙ ap (λ (n : ℕ). length p.releases + n) (count_still f same ps)

begins_still : (f : PackageFields → PackageFields) → KeepsNumbers f → (ps : Packages) → BeginsWithOne ps
    → BeginsWithOne (map f ps)
begins_still f same [] h = h
begins_still f same (p ∷ ps) h = same p ∙ h

-- such packages are a catalog where those before were one
pub catalog_still : (f : PackageFields → PackageFields) → KeepsNames f → KeepsNumbers f → (ps : Packages) → IsCatalog ps
    → IsCatalog (map f ps)
catalog_still f named numbered ps h = record {
  differ = names_still f named ps h.differ;
  few = subst (λ (n : ℕ). n < 2 ^ 32) (sym (count_still f numbered ps)) h.few;
  project = begins_still f numbered ps h.project;
}

-- ---- another mode

one_found : (f : PackageFields → PackageFields) (p : PackageFields) (b : Bool) (now was : Option PackageFields)
    → now ≡ option_map f was
    → cond b (Some (f p)) now ≡ option_map f (cond b (Some p) was)
one_found f p true now was e = refl
one_found f p false now was e = e

-- the package of a name is the one that was found, in the other mode
pub found_with : (mode : Prereleases) (n : List ℕ) (c : Packages)
    → find (λ p. bytes_eq p.name n) (with_prereleases mode c) ≡ option_map (package_with_prereleases mode)
    (find (λ p. bytes_eq p.name n) c)
found_with mode n [] = refl
found_with mode n (p ∷ ps) =
    one_found (package_with_prereleases mode) p (bytes_eq p.name n)
    (find (λ q. bytes_eq q.name n) (with_prereleases mode ps))
    (find (λ q. bytes_eq q.name n) ps) (found_with mode n ps)

releases_still : (mode : Prereleases) (o : Option PackageFields)
    → releases_in (option_map (package_with_prereleases mode) o) ≡ releases_in o
releases_still mode None = refl
releases_still mode (Some p) = refl

-- each name has the releases that it had
pub releases_with : (mode : Prereleases) (c : Packages) (n : List ℕ)
    → releases_of (with_prereleases mode c) n ≡ releases_of c n
unfolding releases_of
releases_with mode c n = ap releases_in (found_with mode n c) ∙ releases_still mode (find (λ p. bytes_eq p.name n) c)

-- the project has the requirements that it had
pub directs_with : (mode : Prereleases) (c : Packages) → directs (with_prereleases mode c) ≡ directs c
directs_with mode [] = refl
directs_with mode (p ∷ ps) = refl

-- a catalog in another mode is a catalog
pub catalog_with : (mode : Prereleases) (c : Packages) → IsCatalog c → IsCatalog (with_prereleases mode c)
catalog_with mode c h = catalog_still (package_with_prereleases mode) (λ p. refl) (λ p. refl) c h

place_with : (mode : Prereleases) (c : Packages) (o : Option ℕ)
    → option_bind o (slice_get (with_prereleases mode c)) ≡ option_map (package_with_prereleases mode)
    (option_bind o (slice_get c))
place_with mode c None = refl
place_with mode c (Some k) = slice_get-map (package_with_prereleases mode) c k

-- its places are those that were known
pub indexed_with : {S : Type 0} (mode : Prereleases) (c now : Packages) (places : NamePlaces S) (asked : DirectIndex)
    → now ≡ with_prereleases mode c
    → IsIndexed c places asked → IsIndexed now places asked
indexed_with mode c now places asked e h = subst (λ (d : Packages). IsIndexed d places asked) (sym e) record {
  catalog = catalog_with mode c h.catalog;
  index = λ n. place_with mode c (get bytes_eq places n) ∙ ap (option_map (package_with_prereleases mode)) (h.index n)
      ∙ sym (found_with mode n c);
  project = subst (λ (qs : List RequirementFields). IsDirectIndex qs asked) (sym (directs_with mode c)) h.project;
}

-- ---- the mode of a name

-- the project's
pub mode_of_project : (c ps : Packages) (n : List ℕ) (b : Bool) → ps ≡ c → b ≡ is_project ps n → b ≡ true
    → Allow ≡ prereleases_of c n
unfolding prereleases_of
mode_of_project c ps n b same is e =
    ap (λ (t : Bool). if t then Allow else prereleases_in (find (λ p. bytes_eq p.name n) c))
    (sym e ∙ is ∙ ap (λ (z : Packages). is_project z n) same)

-- that of the package that was found
pub mode_of_found : (c ps : Packages) (n : List ℕ) (b : Bool) (o : Option (Bor PackageFields)) (mode : Prereleases)
    → ps ≡ c → b ≡ is_project ps n → b ≡ false
    → option_map (λ p. p.now) o ≡ find (λ p. bytes_eq p.name n) c → mode ≡ prereleases_in (option_map (λ p. p.now) o)
    → mode ≡ prereleases_of c n
unfolding prereleases_of
mode_of_found c ps n b o mode same is e found at =
    at ∙ ap prereleases_in found
    ∙ ap (λ (t : Bool). if t then Allow else prereleases_in (find (λ p. bytes_eq p.name n) c))
    (sym e ∙ is ∙ ap (λ (z : Packages). is_project z n) same)
