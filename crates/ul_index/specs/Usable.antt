-- The releases of a document that may be used: their texts have readings, none of their requirements is one by a
-- URL, and no earlier entry whose version has a reading has an equal version.
use Rattle.std.specs.Prelude.{ℕ, List, [], ◌∷◌, ◌++◌, Bool, false, not, Option, Some, None, if◌then◌else◌}
use Rattle.std.specs.List.{list_any}
use Rattle.std.specs.Ordering.{is_eq}
use Rattle.ul_version.specs.Fields.{Fields}
use Rattle.ul_version.specs.Order.{version_cmp}
use Rattle.ul_specifier.specs.Clauses.{ClauseFields}
use Rattle.ul_requirement.specs.Fields.{FileFields, ReleaseFields, RequirementFields, FilesRise}
use Rattle.ul_index.specs.Results.{option_bind}

-- what an entry of a document says: its version, the interpreters that it asks for and its requirements, each where
-- the texts have readings, whether it was withdrawn, its files, and where it comes from, if it names that
pub record EntryFields : Type 0 where
  pub version : Option Fields
  pub python : Option (List ClauseFields)
  pub requirements : Option (List RequirementFields)
  pub yanked : Bool
  pub files : List FileFields
  pub source : Option (List ℕ)

-- what is true of each entry
pub record IsEntry (e : EntryFields) : Type 0 where
  pub files : FilesRise e.files

-- the release of an entry, where all its texts have readings
unfoldable pub release_of_entry : EntryFields → Option ReleaseFields
release_of_entry e =
    option_bind e.version (λ version.
    option_bind e.python (λ python.
    option_bind e.requirements (λ requirements.
    Some (record { version = version; python = python; requirements = requirements; yanked = e.yanked; files = e.files; source = e.source }))))

-- one of these versions is equal, in the order of versions (PEP 440), as `1` and `1.0` are
abbrev pub is_among : List Fields → Fields → Bool
is_among earlier version = list_any (λ v. is_eq (version_cmp v version)) earlier

-- an entry's version has a reading, and none of these is equal to it
abbrev pub is_new : List Fields → Option Fields → Bool
is_new earlier None = false
is_new earlier (Some v) = not (is_among earlier v)

-- the release of an entry behind entries of these versions
abbrev pub release_behind : List Fields → EntryFields → Option ReleaseFields
release_behind earlier e = if is_new earlier e.version then release_of_entry e else None

-- the versions up to an entry, where its version has a reading
abbrev pub versions_with : List Fields → Option Fields → List Fields
versions_with earlier None = earlier
versions_with earlier (Some v) = earlier ++ v ∷ []

-- what there is, before others
abbrev pub before : {A : Type 0} → Option A → List A → List A
before None xs = xs
before (Some x) xs = x ∷ xs

-- the usable releases of entries that stand behind entries of these versions
abbrev pub usable_after : List Fields → List EntryFields → List ReleaseFields
usable_after earlier [] = []
usable_after earlier (e ∷ es) = before (release_behind earlier e) (usable_after (versions_with earlier e.version) es)

-- the usable releases of a document, in its order
abbrev pub usable : List EntryFields → List ReleaseFields
usable entries = usable_after [] entries
