-- Files in the order of their names.
use Rattle.std.specs.Prelude.{◌≡◌, ◌||◌, ℕ, List, Bool, map}
use Rattle.std.specs.Cmp.{IsTotalOrder, on_total}
use Rattle.std.specs.Cmp.Lexicographic.{nat_list_cmp_total}
use Rattle.std.specs.Str.{bytes_eq}
use Rattle.ul_requirement.specs.Fields.{FileFields}
use Rattle.ul_index.specs.Documents.{by_name, has_file}
use Rattle.ul_index.specs.declared.file_set.FileSet.{FileSet}

-- the order is total
pub by_name_total : IsTotalOrder by_name
by_name_total = on_total (λ f. f.file) nat_list_cmp_total

-- the files, in order
abbrev pub files_in : FileSet → List FileFields
files_in set = map (λ k. k.file) set.keys.keys

-- a file of this name is there
abbrev pub has_name : FileSet → List ℕ → Bool
has_name set name = has_file (files_in set) name

-- a name is there now beside those that were
abbrev pub NotesName : FileSet → FileSet → List ℕ → Type 0
NotesName set now file = (name : List ℕ) → has_name now name ≡ (bytes_eq file name || has_name set name)
