-- Reads of files in memory.
use Rattle.std.proofs.Common.{◌≡◌, ◌≢◌, ℕ, List, false, Option, Result, Ok, Err, Vec, refl, ap}
use Rattle.std.specs.declared.alloc.Global.{Global}
use Rattle.ul_files.specs.Causes.{next_count}
use Rattle.ul_files.specs.Files.{FileMap}
use Rattle.ul_files.specs.MemFiles.{FilesState, MemAnswer, is_failing}
use Rattle.ul_files.specs.declared.files.ReadRefused.{ReadRefused}
use Rattle.ul_files.specs.declared.files.ReadRefused.TheVariants.{Failed, TooLong, NoMemory}

-- a call that isn't one of those that fail only counts
pub answered : (before : FilesState) (files : FileMap) (calls : ℕ) (path : List ℕ) (r : Result (Option (Vec ℕ Global)) ReadRefused) →
    r ≢ Err Failed → is_failing before.failing before.calls ≡ false → files ≡ before.files → calls ≡ next_count before.calls →
    MemAnswer before (record before { files = files; calls = calls }) path r
answered before files calls path (Ok x) sure passes same counts =
    (passes, λ i. record before { files = same i; calls = counts i })
answered before files calls path (Err TooLong) sure passes same counts =
    (passes, λ i. record before { files = same i; calls = counts i })
answered before files calls path (Err NoMemory) sure passes same counts =
    λ i. record before { files = same i; calls = counts i }
answered before files calls path (Err Failed) sure passes same counts = absurd (sure refl)

-- a call leaves the map and the reads on record
pub map_and_reads_stay : (before now : FilesState) (path : List ℕ) (r : Result (Option (Vec ℕ Global)) ReadRefused) → MemAnswer before now path r
    → (now.files ≡ before.files) × (now.reads ≡ before.reads)
map_and_reads_stay before now path (Ok x) h = (ap (λ s. s.files) h.1, ap (λ s. s.reads) h.1)
map_and_reads_stay before now path (Err TooLong) h = (ap (λ s. s.files) h.1, ap (λ s. s.reads) h.1)
map_and_reads_stay before now path (Err NoMemory) h = (ap (λ s. s.files) h, ap (λ s. s.reads) h)
map_and_reads_stay before now path (Err Failed) h = (ap (λ s. s.files) h.1, ap (λ s. s.reads) h.1)
