-- The main theorem of loading: what `load_project` answers. `before` and `now` are what is told of the files before the call and
-- after it, `reads` are those on record, `faults` counts the reads that failed, and `last` is the path that failed last,
-- where it is told.
use Rattle.std.specs.Prelude.{◌≡◌, ℕ, List, Option, Result, IfOk}
use Rattle.ul_files.specs.Files.{ByReads, FileMap, Read, Remembers}
use Rattle.ul_index.specs.Catalogs.{IsCatalog, Packages}
use Rattle.ul_load.specs.Loading.{Beginning, Loads, Traced}
use Rattle.ul_load.specs.Begun.{BeginsWith}
use Rattle.ul_load.specs.Faults.{Cause, LoadGives}
use Rattle.ul_load.specs.Reads.{ReadsFirst}
use Rattle.ul_load.specs.declared.fault.LoadFault.{LoadFault}

-- what a call of `load_project` promises
pub record LoadPromises (before now : Option FileMap) (reads_before reads_now : List Read) (faults_before faults_now : ℕ) (last : Option (List ℕ)) (folder : List ℕ) (beginning : Beginning) (result : Result Packages LoadFault) : Type 0 where
  -- over any files that hold what was read, the answer is the catalog, or the first fault, in the order in which documents
  -- are read
  pub answer : ByReads reads_now (λ m. LoadGives m folder beginning result)
  -- the documents are read in the order of loading, each once, and nothing else is read
  pub once : ByReads reads_now (λ m. (t : Traced Packages) → Loads m folder beginning t → ReadsFirst reads_before reads_now t.0)
  -- the files stay as they are
  pub same : now ≡ before
  -- what was read before is still on record
  pub grown : Remembers reads_before reads_now
  -- a read that failed comes only where the count rose, and nothing else does
  pub cause : Cause faults_before faults_now last result
  -- the names of the packages differ, the project stands first, and there are few releases
  pub catalog : IfOk result IsCatalog
  -- the project's package stands first, whatever the files tell
  pub first : IfOk result (BeginsWith beginning.project)
