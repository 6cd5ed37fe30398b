-- What files are, what a read of one may answer, and what answers that were noted say of them.
use Rattle.std.specs.Prelude.{◌≡◌, ℕ, ◌<◌, ◌≤◌, List, [], ◌∷◌, map, length, Option, Some, None, Result, Ok, Err, Vec, String, string_bytes, IfOk, IfSome, IsSome, if◌then◌else◌}
use Rattle.std.specs.Str.{bytes_eq}
use Rattle.std.specs.declared.alloc.Global.{Global}
use Rattle.ul_files.specs.Causes.{Rose}
use Rattle.ul_files.specs.declared.files.ReadRefused.{ReadRefused}
use Rattle.ul_files.specs.declared.files.ReadRefused.TheVariants.{Failed, TooLong, NoMemory}

-- ---- what files hold

-- the bytes at paths
abbrev pub FileMap : Type 0
FileMap = List (List ℕ × List ℕ)

-- the bytes at a path: the first pair that has it
abbrev pub content : FileMap → List ℕ → Option (List ℕ)
content [] path = None
content (file ∷ files) path = if bytes_eq file.0 path then Some file.1 else content files path

-- the map of a list of files
abbrev pub files_of : List (String Global × Vec ℕ Global) → FileMap
files_of files = map (λ p. (string_bytes p.0, p.1.items)) files

-- where the map is told, this holds of it
abbrev pub Told : Option FileMap → (FileMap → Type 0) → Type 0
Told o P = (m : FileMap) → o ≡ Some m → P m

-- ---- reads

-- what a read found: no file, these bytes, a file of more bytes than the limit; or it found nothing out
pub data Found : Type 0 where
  absent : Found
  there : List ℕ → Found
  longer : ℕ → Found
  untold : Found

-- a read: its path, and what it found
pub record Read : Type 0 where
  pub path : List ℕ
  pub found : Found

-- what an answer to a read says that it found: a read that failed and want of memory tell nothing
abbrev pub found_by : ℕ → Result (Option (Vec ℕ Global)) ReadRefused → Found
found_by limit (Ok None) = absent
found_by limit (Ok (Some bytes)) = there bytes.items
found_by limit (Err TooLong) = longer limit
found_by limit (Err Failed) = untold
found_by limit (Err NoMemory) = untold

-- the read of a path, of at most so many bytes, that was answered so
abbrev pub read_of : List ℕ → ℕ → Result (Option (Vec ℕ Global)) ReadRefused → Read
read_of path limit answer = record { path = path; found = found_by limit answer }

-- what is at a path is what a read of it found
abbrev pub IsFound : Option (List ℕ) → Found → Type 0
IsFound here absent = here ≡ None
IsFound here (there bytes) = here ≡ Some bytes
IsFound here (longer limit) = (bytes : List ℕ) × (here ≡ Some bytes) × (limit < length bytes)
IsFound here untold = Unit {0}

-- the map agrees with each of these reads
abbrev pub Agrees : FileMap → List Read → Type 0
Agrees m [] = Unit {0}
Agrees m (read ∷ reads) = IsFound (content m read.path) read.found × Agrees m reads

-- this holds of each map that agrees with what was read
abbrev pub ByReads : List Read → (FileMap → Type 0) → Type 0
ByReads reads P = (m : FileMap) → Agrees m reads → P m

-- what was read before is still on record: a map that agrees with the reads of now agrees with those of before
abbrev pub Remembers : List Read → List Read → Type 0
Remembers before now = ByReads now (λ m. Agrees m before)

-- bytes that are given are at most so many
abbrev pub IsWithin : ℕ → Result (Option (Vec ℕ Global)) ReadRefused → Type 0
IsWithin limit answer = IfOk answer (λ found. IfSome found (λ bytes. length bytes.items ≤ limit))

-- what an answer says of the map: absent exactly where no pair has the path, too long exactly where the file has more
-- bytes than the limit, else its bytes; a failed read and want of memory say nothing
abbrev pub Tells : FileMap → List ℕ → ℕ → Result (Option (Vec ℕ Global)) ReadRefused → Type 0
Tells m path limit (Ok None) = content m path ≡ None
Tells m path limit (Ok (Some bytes)) = (content m path ≡ Some bytes.items) × (length bytes.items ≤ limit)
Tells m path limit (Err TooLong) = (bytes : List ℕ) × (content m path ≡ Some bytes) × (limit < length bytes)
Tells m path limit (Err Failed) = Unit {0}
Tells m path limit (Err NoMemory) = Unit {0}

-- what an answer says of the count of faults and of the path that failed last: a failed read raises the count, and is
-- the last that failed, where that is told, and what was told once stays told; every other answer leaves both as they
-- were
abbrev pub ReadCause :
    ℕ → ℕ → Option (List ℕ) → Option (List ℕ) → List ℕ → Result (Option (Vec ℕ Global)) ReadRefused → Type 0
ReadCause before now last_before last_now path (Ok _) = (now ≡ before) × (last_now ≡ last_before)
ReadCause before now last_before last_now path (Err Failed) =
    Rose before now × (before ≤ now) × IfSome last_now (λ p. p ≡ path) × (IsSome last_before → IsSome last_now)
ReadCause before now last_before last_now path (Err TooLong) = (now ≡ before) × (last_now ≡ last_before)
ReadCause before now last_before last_now path (Err NoMemory) = (now ≡ before) × (last_now ≡ last_before)
