-- A catalog that is loaded has names and versions.
use Rattle.std.proofs.Common.{◌≡◌, ◌<◌, ℕ, zero, suc, List, [], ◌∷◌, ◌++◌, length, get_or, cond, Bool, true, false, Ok, arith}
use Rattle.std.specs.List.{AllByRecursion, list_any}
use Rattle.std.specs.Str.{bytes_eq}
use Rattle.indexmap.specs.IndexSet.{insert_key}
use Rattle.ul_files.specs.Files.{FileMap}
use Rattle.ul_base.specs.Names.{IsNormalName}
use Rattle.ul_requirement.specs.Fields.{PackageFields, ReleaseFields, RequirementFields}
use Rattle.ul_load.specs.Loading.{Beginning, ProgressFields, first_progress, names_of, names_with, next_name, package_at, progress_with, requirements_of}
use Rattle.laws_given.specs.Texts.{CatalogsAreTexts, DocumentsAreTexts, IsNamedRequirement, IsTextPackage, IsTextRelease}
use Rattle.laws_given.proofs.Lists.{more}
use Rattle.laws_given.proofs.LoadedPackages.{package_has}
use Rattle.laws_given.proofs.Turns.{loaded}

-- ---- names that are met

met_one : (names : List (List ℕ)) (name : List ℕ) → AllByRecursion IsNormalName names → IsNormalName name
    → AllByRecursion IsNormalName (insert_key bytes_eq names name)
met_one names name h k = by_test (list_any (bytes_eq name) names)
  where
    by_test : (b : Bool) → AllByRecursion IsNormalName (cond b names (names ++ name ∷ []))
    by_test true = h
    by_test false = more IsNormalName names (name ∷ []) h (k, tt)

met : (names new : List (List ℕ)) → AllByRecursion IsNormalName names → AllByRecursion IsNormalName new
    → AllByRecursion IsNormalName (names_with names new)
met names [] h k = h
met names (n ∷ new) h k = met (insert_key bytes_eq names n) new (met_one names n h k.0) k.1

asked : (qs : List RequirementFields) → AllByRecursion IsNamedRequirement qs → AllByRecursion IsNormalName (names_of qs)
asked [] h = tt
asked (q ∷ qs) h = (h.0.name, asked qs h.1)

required : (rs : List ReleaseFields) → AllByRecursion IsTextRelease rs
    → AllByRecursion IsNamedRequirement (requirements_of rs)
required [] h = tt
required (r ∷ rs) h = more IsNamedRequirement r.requirements (requirements_of rs) h.0.requirements (required rs h.1)

get_normal : (names : List (List ℕ)) (i : ℕ) → i < length names → AllByRecursion IsNormalName names
    → IsNormalName (get_or names i [])
get_normal [] i lt h = absurd (omega (arith, lt))
get_normal (n ∷ names) zero lt h = h.0
get_normal (n ∷ names) (suc i) lt h = get_normal names i (omega (arith, lt)) h.1

-- ---- packages

package_text : DocumentsAreTexts → (m : FileMap) (folder name : List ℕ) (before : ℕ) (p : ℕ × PackageFields)
    → IsNormalName name → package_at m folder name before ≡ Ok p → IsTextPackage p.1
package_text law m folder name before p named e =
    package_has IsTextPackage name (record { name = named; releases = tt }) (λ bytes q is. law name bytes q named is)
    m folder before p e

-- ---- progress

record IsTextProgress (s : ProgressFields) : Type 0 where
  names : AllByRecursion IsNormalName s.names
  packages : AllByRecursion IsTextPackage s.packages

goes : (s : ProgressFields) (p : ℕ × PackageFields) → IsTextProgress s → IsTextPackage p.1
    → IsTextProgress (progress_with s p)
goes s p h k = record {
  names =
      met s.names (names_of (requirements_of p.1.releases)) h.names
      (asked (requirements_of p.1.releases) (required p.1.releases k.releases));
  packages = more IsTextPackage s.packages (p.1 ∷ []) h.packages (k, tt);
}

turn : DocumentsAreTexts → (m : FileMap) (folder : List ℕ) (s : ProgressFields) (p : ℕ × PackageFields)
    → length s.packages < length s.names → IsTextProgress s → package_at m folder (next_name s) s.bytes ≡ Ok p
    → IsTextProgress (progress_with s p)
turn law m folder s p lt h e =
    let named = get_normal s.names (length s.packages) lt h.names in
    goes s p h (package_text law m folder (next_name s) s.bytes p named e)

begun : (b : Beginning) → IsTextPackage b.project → IsTextProgress (first_progress b)
begun b project = record {
  names = met (b.project.name ∷ []) (names_of (requirements_of b.project.releases)) (project.name, tt)
      (asked (requirements_of b.project.releases) (required b.project.releases project.releases));
  packages = (project, tt);
}

pub catalogs_are_texts : DocumentsAreTexts → CatalogsAreTexts
catalogs_are_texts law m folder b c project loads =
    loaded m folder b (AllByRecursion IsTextPackage) IsTextProgress (record {
      first = begun b project;
      turn = turn law m folder;
      so = λ s h. h.packages;
    }) c loads
