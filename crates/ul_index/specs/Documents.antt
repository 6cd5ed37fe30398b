-- An index document: one package's releases as JSON, with the keys that a release has in the core metadata,
-- `yanked` (PEP 592), the files of each release, and `source`, which names where a release comes from: a package index
-- that isn't the usual one, or `direct` for a path, a URL, a repository or a member of a workspace. Other keys are passed
-- over.
use Rattle.std.specs.Prelude.{ℕ, ◌+◌, ◌&&◌, Bool, true, false, not, List, [], ◌∷◌, ◌++◌, length, codes, fold, Option, Some, None, Result, Ok, Err, if◌then◌else◌}
use Rattle.std.specs.BTreeSet.{insert_key}
use Rattle.std.specs.Cmp.Lexicographic.{slice_cmp}
use Rattle.std.specs.Ordering.{nat_cmp, on}
use Rattle.std.specs.declared.cmp.Ordering.{Ordering}
use Rattle.std.specs.List.{list_any}
use Rattle.std.specs.Str.{bytes_eq, str_to_ascii_lowercase}
use Rattle.serde_json.specs.Data.{Data, null, boolean, string, array, object}
use Rattle.serde_json.specs.Find.{get, as_str}
use Rattle.ul_base.specs.Names.{name_of}
use Rattle.ul_version.specs.Fields.{Fields}
use Rattle.ul_version.specs.Reading.{version_of}
use Rattle.ul_specifier.specs.Clauses.{ClauseFields}
use Rattle.ul_specifier.specs.Reading.{specifiers_of}
use Rattle.ul_requirement.specs.Fields.{FileFields, PackageFields, ReleaseFields, RequirementFields, is_digest, is_file_name}
use Rattle.ul_requirement.specs.Reading.{requirement_of}
use Rattle.ul_requirement.specs.declared.wish.Prereleases.TheVariants.{IfNecessaryOrExplicit}
use Rattle.ul_index.specs.Json.{items_list, json_of}
use Rattle.ul_index.specs.Results.{◌>>=◌, option_bind, or_fault, read_each}
use Rattle.ul_index.specs.Usable.{EntryFields, usable}
use Rattle.ul_index.specs.declared.place.EntryKey.TheVariants.{Version, RequiresPython, RequiresDist, Yanked, Files}
use Rattle.ul_index.specs.declared.place.Place.{Place}
use Rattle.ul_index.specs.declared.place.Place.TheVariants.{Document, Name, Versions, Entry, Key, File}

-- why bytes are no document of a name: they are no JSON, a place has another shape than it should, or the name
-- is another one or none
pub data DocumentFault : Type 0 where
  not_json : DocumentFault
  shape : Place → DocumentFault
  wrong_name : DocumentFault

-- what is read, or the fault
abbrev pub Reading : Type 0 → Type 0
Reading A = Result A DocumentFault

-- ---- values of some shape

-- an object
abbrev pub object_at : Place → Data → Reading (Unit {0})
object_at place (object _) = Ok tt
object_at place other = Err (shape place)

-- a text
abbrev pub text_at : Place → Option Data → Reading (List ℕ)
text_at place (Some (string s)) = Ok s
text_at place other = Err (shape place)

-- an array
abbrev pub items_at : Place → Option Data → Reading (List Data)
items_at place (Some (array items)) = Ok (items_list items)
items_at place other = Err (shape place)

-- a text, or nothing, or null
abbrev pub optional_text_at : Place → Option Data → Reading (Option (List ℕ))
optional_text_at place None = Ok None
optional_text_at place (Some null) = Ok None
optional_text_at place (Some (string s)) = Ok (Some s)
optional_text_at place other = Err (shape place)

-- an array, or nothing, or null, which are as the empty one
abbrev pub optional_items_at : Place → Option Data → Reading (List Data)
optional_items_at place None = Ok []
optional_items_at place (Some null) = Ok []
optional_items_at place (Some (array items)) = Ok (items_list items)
optional_items_at place other = Err (shape place)

-- texts
abbrev pub texts_at : Place → List Data → Reading (List (List ℕ))
texts_at place items = or_fault (shape place) (read_each as_str items)

-- whether a release was withdrawn: true or any text; false, nothing or null says that it wasn't (PEP 592)
abbrev pub yanked_at : Place → Option Data → Reading Bool
yanked_at place None = Ok false
yanked_at place (Some null) = Ok false
yanked_at place (Some (boolean b)) = Ok b
yanked_at place (Some (string s)) = Ok true
yanked_at place other = Err (shape place)

-- ---- files

-- a file of these two texts, the digits of the sum in lower case
abbrev pub file_with : List ℕ → List ℕ → Option FileFields
file_with name sum = if is_file_name name && is_digest sum then Some (record { file = name; sha256 = sum }) else None

-- the file of two values that may be texts
abbrev pub file_of_texts : Option (List ℕ) → Option (List ℕ) → Option FileFields
file_of_texts (Some name) (Some sum) = file_with name (str_to_ascii_lowercase sum)
file_of_texts None sum = None
file_of_texts (Some name) None = None

-- the text at a key
abbrev pub text_of : List ℕ → Data → Option (List ℕ)
text_of key d = option_bind (get key d) as_str

-- a file
unfoldable pub file_of : Data → Option FileFields
file_of d = file_of_texts (text_of (codes "file") d) (text_of (codes "sha256") d)

-- the files of an entry, from one on
unfoldable pub files_from : ℕ → ℕ → List Data → Reading (List FileFields)
files_from entry i [] = Ok []
files_from entry i (d ∷ ds) = do
  file ← or_fault (shape (File entry i)) (file_of d)
  files ← files_from entry (i + 1) ds
  Ok (file ∷ files)

-- one of the files has this name
abbrev pub has_file : List FileFields → List ℕ → Bool
has_file files name = list_any (λ f. bytes_eq f.file name) files

-- no file has the name of one before it
abbrev pub differ_after : List FileFields → List FileFields → Bool
differ_after earlier [] = true
differ_after earlier (f ∷ fs) = not (has_file earlier f.file) && differ_after (earlier ++ f ∷ []) fs

-- the byte order of the names of files
abbrev pub by_name : FileFields → FileFields → Ordering
by_name = on (λ f. f.file) (slice_cmp nat_cmp)

-- files in that order
abbrev pub files_in_order : List FileFields → List FileFields
files_in_order = fold (insert_key by_name) []

-- files in that order, where their names differ
unfoldable pub ordered_files : List FileFields → Option (List FileFields)
ordered_files files = if differ_after [] files then Some (files_in_order files) else None

-- ---- entries

-- the version that an entry names
abbrev pub version_at : Place → Option Data → Reading (Option Fields)
version_at place value = text_at place value >>= λ text. Ok (version_of text)

-- the interpreters that a text asks for; none where there is no text
abbrev pub python_of : Option (List ℕ) → Option (List ClauseFields)
python_of None = Some []
python_of (Some text) = specifiers_of text

-- the interpreters that an entry asks for
abbrev pub python_at : Place → Option Data → Reading (Option (List ClauseFields))
python_at place value = optional_text_at place value >>= λ text. Ok (python_of text)

-- the requirement of a value, where it is a text with a reading
abbrev pub requirement_in : Data → Option RequirementFields
requirement_in d = option_bind (as_str d) requirement_of

-- the requirements of values that are texts
abbrev pub requirements_in : Place → List Data → Reading (Option (List RequirementFields))
requirements_in place items = texts_at place items >>= λ texts. Ok (read_each requirement_of texts)

-- the requirements of an entry
abbrev pub requirements_at : Place → Option Data → Reading (Option (List RequirementFields))
requirements_at place value = optional_items_at place value >>= requirements_in place

-- the files of an entry
unfoldable pub files_at : ℕ → Option Data → Reading (List FileFields)
files_at i value = do
  items ← optional_items_at (Key i Files) value
  files ← files_from i 0 items
  or_fault (shape (Key i Files)) (ordered_files files)

-- the source that an entry names: a text that is a name says it; anything else is as nothing
abbrev pub source_at : Option Data → Option (List ℕ)
source_at value = option_bind (option_bind value as_str) name_of

-- what an entry says
unfoldable pub entry_at : ℕ → Data → Reading EntryFields
entry_at i d = do
  _ ← object_at (Entry i) d
  version ← version_at (Key i Version) (get (codes "version") d)
  python ← python_at (Key i RequiresPython) (get (codes "requires_python") d)
  requirements ← requirements_at (Key i RequiresDist) (get (codes "requires_dist") d)
  yanked ← yanked_at (Key i Yanked) (get (codes "yanked") d)
  files ← files_at i (get (codes "files") d)
  Ok (record {
    version = version;
    python = python;
    requirements = requirements;
    yanked = yanked;
    files = files;
    source = source_at (get (codes "source") d);
  })

-- what the entries say, from one on
unfoldable pub entries_from : ℕ → List Data → Reading (List EntryFields)
entries_from i [] = Ok []
entries_from i (d ∷ ds) = do
  entry ← entry_at i d
  entries ← entries_from (i + 1) ds
  Ok (entry ∷ entries)

-- the usable releases of entries
unfoldable pub releases_of_items : List Data → Reading (List ReleaseFields)
releases_of_items items = entries_from 0 items >>= λ entries. Ok (usable entries)

-- ---- the whole document

-- a text that is the name
abbrev pub right_name : List ℕ → Option (List ℕ) → Reading (Unit {0})
right_name name None = Err wrong_name
right_name name (Some found) = if bytes_eq found name then Ok tt else Err wrong_name

-- the package that a value says of a name; documents say nothing of pre-releases
unfoldable pub package_in : List ℕ → Data → Reading PackageFields
package_in name document = do
  _ ← object_at Document document
  title ← text_at Name (get (codes "name") document)
  items ← items_at Versions (get (codes "versions") document)
  _ ← right_name name (name_of title)
  releases ← releases_of_items items
  Ok (record { name = name; entries = length items; prereleases = IfNecessaryOrExplicit; releases = releases })

-- the package that bytes say of a name
unfoldable pub document_of : List ℕ → List ℕ → Reading PackageFields
document_of name bytes = or_fault not_json (json_of bytes) >>= package_in name
