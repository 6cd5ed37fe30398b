-- A document that is read has versions, requirements that are read, and files in the order of their names.
use Rattle.std.proofs.Common.{◌≡◌, ℕ, ◌+◌, List, [], ◌∷◌, length, Bool, true, false, cond, Option, Some, None, Result, Ok, Err, inl, refl, sym, ap, subst}
use Rattle.std.specs.Prelude.{codes, ◌&&◌}
use Rattle.std.specs.Str.{str_to_ascii_lowercase}
use Rattle.std.proofs.lemmas.Bool.{and_parts}
use Rattle.std.specs.List.{AllByRecursion}
use Rattle.serde_json.specs.Data.{Data}
use Rattle.serde_json.specs.Find.{get}
use Rattle.ul_base.specs.Names.{IsNormalName, name_of}
use Rattle.ul_version.specs.Fields.{Fields, IsVersion}
use Rattle.ul_version.specs.Reading.{version_of}
use Rattle.ul_version.proofs.ForCallers.{versions}
use Rattle.ul_requirement.specs.Fields.{FileFields, FilesRise, IsFile, PackageFields, ReleaseFields, RequirementFields, is_digest, is_file_name}
use Rattle.ul_requirement.specs.Reading.{Reading as Grammar, by_url, read_requirement, reading_of, requirement, requirement_of, unread}
use Rattle.ul_requirement.specs.declared.wish.Prereleases.TheVariants.{IfNecessaryOrExplicit}
use Rattle.ul_index.specs.Documents.{DocumentFault, Reading, by_name, differ_after, document_of, entries_from, entry_at, file_of, file_of_texts, file_with, files_at, files_from, files_in_order, items_at, not_json, object_at, optional_items_at, ordered_files, package_in, python_at, releases_of_items, requirements_at, requirements_in, right_name, shape, source_at, text_at, text_of, texts_at, version_at, yanked_at}
use Rattle.ul_index.specs.Json.{json_of}
use Rattle.ul_index.specs.Results.{◌>>=◌, option_bind, or_fault, read_each}
use Rattle.ul_index.specs.Usable.{EntryFields, before, is_new, release_behind, release_of_entry, usable, usable_after, versions_with}
use Rattle.ul_index.specs.declared.place.EntryKey.TheVariants.{Version, RequiresPython, RequiresDist, Yanked, Files}
use Rattle.ul_index.specs.declared.place.Place.{Place}
use Rattle.ul_index.specs.declared.place.Place.TheVariants.{Document, Name, Versions, Entry, File, Key}
use Rattle.ul_index.proofs.ForCallers.{document_facts}
use Rattle.laws_given.specs.Texts.{DocumentsAreTexts, IsNamedRequirement, IsTextRelease, RequirementsAreNamed}
use Rattle.laws_given.proofs.Inserted.{all_folded, set_rises}
use Rattle.laws_given.proofs.Lists.{all_as}
use Rattle.laws_given.proofs.ReadRequirements.{AreRead}

went_on : {A B F : Type 0} (first : Result A F) (next : A → Result B F) (y : B) → (first >>= next) ≡ Ok y
    → (x : A) × (first ≡ Ok x) × (next x ≡ Ok y)
went_on (Ok x) next y e = (x, refl, e)
went_on (Err f) next y e = absurd (cc e)

bound : {A B : Type 0} (o : Option A) (f : A → Option B) (y : B) → option_bind o f ≡ Some y
    → (x : A) × (o ≡ Some x) × (f x ≡ Some y)
bound None f y e = absurd (cc e)
bound (Some x) f y e = (x, refl, e)

same_ok : {A : Type 0} (x y : A) → (let r : Reading A = Ok x in r) ≡ Ok y → x ≡ y
same_ok x y e = cc

same_some : {A : Type 0} (x y : A) → Some x ≡ Some y → x ≡ y
same_some x y e = cc

read_is : (r : Grammar) (q : RequirementFields) → read_requirement r ≡ Some q → r ≡ requirement q
read_is (requirement p) q e = ap (λ (x : RequirementFields). requirement x) (same_some p q e)
read_is (by_url o) q e = absurd (cc e)
read_is unread q e = absurd (cc e)

versions_at : (place : Place) (value : Option Data) (o : Option Fields) → version_at place value ≡ Ok o
    → (v : Fields) → o ≡ Some v → IsVersion v
versions_at place value o e v is =
    let text = went_on (text_at place value) (λ t. Ok (version_of t)) o e in
    versions text.0 v (subst (λ (x : Option Fields). x ≡ Some v) (sym (same_ok (version_of text.0) o text.2)) is)

-- ---- files

was_there : {A : Type 0} (f : DocumentFault) (o : Option A) (x : A) → or_fault f o ≡ Ok x → o ≡ Some x
was_there f None x e = absurd (cc e)
was_there f (Some y) x e = cc

file_is : (name sum : List ℕ) (f : FileFields) → file_with name sum ≡ Some f → IsFile f
file_is name sum f e = by_test (is_file_name name && is_digest sum) refl e
  where
    by_test : (b : Bool) → (is_file_name name && is_digest sum) ≡ b
        → cond b (Some (record { file = name; sha256 = sum })) None ≡ Some f → IsFile f
    by_test false is e = absurd (cc e)
    by_test true is e =
        let both = and_parts (is_file_name name) (is_digest sum) is in
        subst IsFile (same_some (record { file = name; sha256 = sum }) f e) (record { file = both.0; sha256 = both.1 })

texts_file : (name sum : Option (List ℕ)) (f : FileFields) → file_of_texts name sum ≡ Some f → IsFile f
texts_file (Some name) (Some sum) f e = file_is name (str_to_ascii_lowercase sum) f e
texts_file (Some name) None f e = absurd (cc e)
texts_file None sum f e = absurd (cc e)

file_read : (d : Data) (f : FileFields) → file_of d ≡ Some f → IsFile f
unfolding file_of
file_read d f e = texts_file (text_of (codes "file") d) (text_of (codes "sha256") d) f e

files_read : (entry i : ℕ) (ds : List Data) (fs : List FileFields) → files_from entry i ds ≡ Ok fs
    → AllByRecursion IsFile fs
unfolding files_from
files_read entry i [] fs e = subst (λ (x : List FileFields). AllByRecursion IsFile x) (same_ok [] fs e) tt
files_read entry i (d ∷ ds) fs e =
    let one = went_on (or_fault (shape (File entry i)) (file_of d)) _ fs e in
    let more = went_on (files_from entry (i + 1) ds) _ fs one.2 in
    subst (λ (x : List FileFields). AllByRecursion IsFile x) (same_ok (one.0 ∷ more.0) fs more.2) (
      file_read d one.0 (was_there (shape (File entry i)) (file_of d) one.0 one.1),
      files_read entry (i + 1) ds more.0 more.1,
    )

-- files in order
pub record AreFiles (fs : List FileFields) : Type 0 where
  pub each : AllByRecursion IsFile fs
  pub rise : FilesRise fs

ordered_are : (fs gs : List FileFields) → AllByRecursion IsFile fs → ordered_files fs ≡ Some gs → AreFiles gs
unfolding ordered_files
ordered_are fs gs h e = by_test (differ_after [] fs) e
  where
    by_test : (b : Bool) → cond b (Some (files_in_order fs)) None ≡ Some gs → AreFiles gs
    by_test false e = absurd (cc e)
    by_test true e =
        subst AreFiles (same_some (files_in_order fs) gs e)
        (record { each = all_folded by_name IsFile [] fs tt h; rise = set_rises (λ (f : FileFields). f.file) fs })

files_are : (i : ℕ) (value : Option Data) (fs : List FileFields) → files_at i value ≡ Ok fs → AreFiles fs
unfolding files_at
files_are i value fs e =
    let items = went_on (optional_items_at (Key i Files) value) _ fs e in
    let files = went_on (files_from i 0 items.0) _ fs items.2 in
    ordered_are files.0 fs (files_read i 0 items.0 files.0 files.1)
    (was_there (shape (Key i Files)) (ordered_files files.0) fs files.2)

-- ---- entries

-- an entry with a version, requirements that are such, and files in order
record IsEntryWith (P : RequirementFields → Type 0) (e : EntryFields) : Type 0 where
  version : (v : Fields) → e.version ≡ Some v → IsVersion v
  requirements : (qs : List RequirementFields) → e.requirements ≡ Some qs → AllByRecursion P qs
  files : AreFiles e.files

-- a release with a version, requirements that are such, and files in order
pub record IsReleaseWith (P : RequirementFields → Type 0) (r : ReleaseFields) : Type 0 where
  pub version : IsVersion r.version
  pub requirements : AllByRecursion P r.requirements
  pub files : AreFiles r.files

-- the package of a document, whose releases are such
pub record IsPackageWith (P : RequirementFields → Type 0) (p : PackageFields) : Type 0 where
  pub entries : List EntryFields
  pub are : usable entries ≡ p.releases
  pub releases : AllByRecursion (IsReleaseWith P) p.releases

module _ (P : RequirementFields → Type 0) (law : AreRead P) where
  each_read : (texts : List (List ℕ)) (qs : List RequirementFields) → read_each requirement_of texts ≡ Some qs
      → AllByRecursion P qs
  each_read [] qs e = subst (λ (x : List RequirementFields). AllByRecursion P x) (same_some [] qs e) tt
  each_read (t ∷ ts) qs e =
      let one = bound (requirement_of t) _ qs e in
      let more = bound (read_each requirement_of ts) _ qs one.2 in
      subst (λ (x : List RequirementFields). AllByRecursion P x) (same_some (one.0 ∷ more.0) qs more.2)
      (law t one.0 (inl (read_is (reading_of t) one.0 one.1)), each_read ts more.0 more.1)

  requirements_have : (place : Place) (value : Option Data) (o : Option (List RequirementFields))
      → requirements_at place value ≡ Ok o → (qs : List RequirementFields) → o ≡ Some qs → AllByRecursion P qs
  requirements_have place value o e qs is =
      let items = went_on (optional_items_at place value) (requirements_in place) o e in
      let texts = went_on (texts_at place items.0) (λ ts. Ok (read_each requirement_of ts)) o items.2 in
      each_read texts.0 qs
      (subst (λ (x : Option (List RequirementFields)). x ≡ Some qs)
      (sym (same_ok (read_each requirement_of texts.0) o texts.2)) is)

  entry_has : (i : ℕ) (d : Data) (e : EntryFields) → entry_at i d ≡ Ok e → IsEntryWith P e
  unfolding entry_at
  entry_has i d e h =
      let object = went_on (object_at (Entry i) d) _ e h in
      let version = went_on (version_at (Key i Version) (get (codes "version") d)) _ e object.2 in
      let python = went_on (python_at (Key i RequiresPython) (get (codes "requires_python") d)) _ e version.2 in
      let requirements = went_on (requirements_at (Key i RequiresDist) (get (codes "requires_dist") d)) _ e python.2 in
      let yanked = went_on (yanked_at (Key i Yanked) (get (codes "yanked") d)) _ e requirements.2 in
      let files = went_on (files_at i (get (codes "files") d)) _ e yanked.2 in
      let made : EntryFields = record {
        version = version.0;
        python = python.0;
        requirements = requirements.0;
        yanked = yanked.0;
        files = files.0;
        source = source_at (get (codes "source") d);
      } in
      subst (IsEntryWith P) {x = made} (same_ok made e files.2) (record {
        version = versions_at (Key i Version) (get (codes "version") d) version.0 version.1;
        requirements =
            requirements_have (Key i RequiresDist) (get (codes "requires_dist") d) requirements.0 requirements.1;
        files = files_are i (get (codes "files") d) files.0 files.1;
      })

  entries_have : (i : ℕ) (ds : List Data) (es : List EntryFields) → entries_from i ds ≡ Ok es
      → AllByRecursion (IsEntryWith P) es
  unfolding entries_from
  entries_have i [] es h = subst (λ (x : List EntryFields). AllByRecursion (IsEntryWith P) x) (same_ok [] es h) tt
  entries_have i (d ∷ ds) es h =
      let one = went_on (entry_at i d) _ es h in
      let more = went_on (entries_from (i + 1) ds) _ es one.2 in
      subst (λ (x : List EntryFields). AllByRecursion (IsEntryWith P) x) (same_ok (one.0 ∷ more.0) es more.2)
      (entry_has i d one.0 one.1, entries_have (i + 1) ds more.0 more.1)

  -- ---- releases

  release_has : (e : EntryFields) (r : ReleaseFields) → IsEntryWith P e → release_of_entry e ≡ Some r
      → IsReleaseWith P r
  unfolding release_of_entry
  release_has e r is h =
      let version = bound e.version _ r h in
      let python = bound e.python _ r version.2 in
      let requirements = bound e.requirements _ r python.2 in
      let made : ReleaseFields = record {
        version = version.0;
        python = python.0;
        requirements = requirements.0;
        yanked = e.yanked;
        files = e.files;
        source = e.source;
      } in
      subst (IsReleaseWith P) {x = made} (same_some made r requirements.2) (record {
        version = is.version version.0 version.1;
        requirements = is.requirements requirements.0 requirements.1;
        files = is.files;
      })

  with_release : (o : Option ReleaseFields) (rs : List ReleaseFields)
      → ((r : ReleaseFields) → o ≡ Some r → IsReleaseWith P r) → AllByRecursion (IsReleaseWith P) rs
      → AllByRecursion (IsReleaseWith P) (before o rs)
  with_release None rs h k = k
  with_release (Some r) rs h k = (h r refl, k)

  behind : (b : Bool) (o : Option ReleaseFields) → ((r : ReleaseFields) → o ≡ Some r → IsReleaseWith P r)
      → (r : ReleaseFields) → cond b o None ≡ Some r → IsReleaseWith P r
  behind true o h r e = h r e
  behind false o h r e = absurd (cc e)

  usable_have : (earlier : List Fields) (es : List EntryFields) → AllByRecursion (IsEntryWith P) es
      → AllByRecursion (IsReleaseWith P) (usable_after earlier es)
  usable_have earlier [] h = tt
  usable_have earlier (e ∷ es) h =
      with_release (release_behind earlier e) (usable_after (versions_with earlier e.version) es)
      (behind (is_new earlier e.version) (release_of_entry e) (λ r is. release_has e r h.0 is))
      (usable_have (versions_with earlier e.version) es h.1)

  -- ---- packages

  package_has : (name : List ℕ) (document : Data) (p : PackageFields) → package_in name document ≡ Ok p
      → IsPackageWith P p
  unfolding package_in releases_of_items
  package_has name document p h =
      let object = went_on (object_at Document document) _ p h in
      let title = went_on (text_at Name (get (codes "name") document)) _ p object.2 in
      let items = went_on (items_at Versions (get (codes "versions") document)) _ p title.2 in
      let right = went_on (right_name name (name_of title.0)) _ p items.2 in
      let releases = went_on (releases_of_items items.0) _ p right.2 in
      let entries = went_on (entries_from 0 items.0) _ releases.0 releases.1 in
      let are : usable entries.0 ≡ releases.0 = same_ok (usable entries.0) releases.0 entries.2 in
      let made : PackageFields =
      record { name = name; entries = length items.0; prereleases = IfNecessaryOrExplicit; releases = releases.0 } in
      subst (IsPackageWith P) {x = made} (same_ok made p releases.2) (record {
        entries = entries.0;
        are = are;
        releases = subst (λ (rs : List ReleaseFields). AllByRecursion (IsReleaseWith P) rs) {x = usable entries.0} are
            (usable_have [] entries.0 (entries_have 0 items.0 entries.0 entries.1));
      })

  -- the package of a document has releases whose requirements are such
  pub document_has : (name bytes : List ℕ) (p : PackageFields) → document_of name bytes ≡ Ok p → IsPackageWith P p
  unfolding document_of
  document_has name bytes p h =
      let document = went_on (or_fault not_json (json_of bytes)) (package_in name) p h in
      package_has name document.0 p document.2

-- ---- names

text_release : (r : ReleaseFields) → IsReleaseWith IsNamedRequirement r → IsTextRelease r
text_release r h = record {
  version = h.version;
  requirements = h.requirements;
  files = h.files.each;
  files_rise = h.files.rise;
}

pub documents_are_texts : RequirementsAreNamed → DocumentsAreTexts
documents_are_texts law name bytes p named h =
    let read = document_has IsNamedRequirement law name bytes p h in
    record {
      name = subst IsNormalName (sym (document_facts name bytes p h).named) named;
      releases = all_as (IsReleaseWith IsNamedRequirement) IsTextRelease text_release p.releases read.releases;
    }
