-- What files in memory are, and what a read of them answers.
use Rattle.std.specs.Prelude.{◌≡◌, ℕ, ◌==◌, List, [], ◌∷◌, ◌++◌, map, length, nat_lt, Bool, true, false, Option, None, Some, Result, Ok, Err, Vec, if◌then◌else◌}
use Rattle.std.specs.List.{list_any}
use Rattle.std.specs.declared.alloc.Global.{Global}
use Rattle.ul_files.specs.Causes.{next_count}
use Rattle.ul_files.specs.Files.{FileMap, Found, Read, absent, content, longer, read_of, there, untold}
use Rattle.ul_files.specs.declared.files.ReadRefused.{ReadRefused}
use Rattle.ul_files.specs.declared.files.ReadRefused.TheVariants.{Failed, TooLong, NoMemory}

-- ---- the record of reads

-- what is found of this, where a read told that it was found out: a file is longer than a limit only where it is
abbrev pub found_here : Option (List ℕ) → Found → Found
found_here here untold = untold
found_here None (longer limit) = untold
found_here (Some bytes) (longer limit) = if nat_lt limit (length bytes) then longer limit else untold
found_here None absent = absent
found_here (Some bytes) absent = there bytes
found_here None (there _) = absent
found_here (Some bytes) (there _) = there bytes

-- the read, as the map answers it
abbrev pub read_here : FileMap → Read → Read
read_here m read = record { path = read.path; found = found_here (content m read.path) read.found }

-- the reads, each as the map answers it: so they agree with the map, whatever was noted
abbrev pub reads_here : FileMap → List Read → List Read
reads_here m reads = map (read_here m) reads

-- ---- files without a fault

-- files in memory that never fail: the map, and the reads so far
pub record SureState : Type 0 where
  pub files : FileMap
  pub reads : List Read

-- such files that were not read yet
abbrev pub sure_files : FileMap → SureState
sure_files files = record { files = files; reads = [] }

-- ---- files that may fail

-- files in memory: the map, the numbers of the calls that fail, how many calls there were, how many of them failed,
-- the path of the last that failed, and the reads so far
pub record FilesState : Type 0 where
  pub files : FileMap
  pub failing : List ℕ
  pub calls : ℕ
  pub faults : ℕ
  pub last : Option (List ℕ)
  pub reads : List Read

-- files that were not read yet
abbrev pub unread_files : FileMap → List ℕ → FilesState
unread_files files failing =
    record { files = files; failing = failing; calls = 0; faults = 0; last = None; reads = [] }

-- the call of this number is one of those that fail
abbrev pub is_failing : List ℕ → ℕ → Bool
is_failing failing call = list_any (λ n. n == call) failing

-- the files after a read of this path that failed
abbrev pub failed_read : FilesState → List ℕ → FilesState
failed_read before path =
    record before { calls = next_count before.calls; faults = next_count before.faults; last = Some path }

-- the next call answers so, and leaves the files so, but for the record of reads: it fails exactly where its number is
-- one of those that fail, and each call has the next number
abbrev pub MemAnswer :
    FilesState → FilesState → List ℕ → Result (Option (Vec ℕ Global)) ReadRefused → Type 0
MemAnswer before now path (Err Failed) =
    (is_failing before.failing before.calls ≡ true)
    × (now ≡ failed_read before path)
MemAnswer before now path (Err NoMemory) = now ≡ record before { calls = next_count before.calls }
MemAnswer before now path (Err TooLong) =
    (is_failing before.failing before.calls ≡ false) × (now ≡ record before { calls = next_count before.calls })
MemAnswer before now path (Ok _) =
    (is_failing before.failing before.calls ≡ false) × (now ≡ record before { calls = next_count before.calls })

-- the files with this read on record, behind those of before
abbrev pub noted_read : FilesState → List ℕ → ℕ → Result (Option (Vec ℕ Global)) ReadRefused → FilesState
noted_read before path limit answer = record before { reads = before.reads ++ read_of path limit answer ∷ [] }

-- the next call answers so, and leaves the files so, with the read on record
abbrev pub MemRead :
    FilesState → FilesState → List ℕ → ℕ → Result (Option (Vec ℕ Global)) ReadRefused → Type 0
MemRead before now path limit answer = MemAnswer (noted_read before path limit answer) now path answer
