-- What the faults of loading stand for, and when each comes.
use Rattle.std.specs.Prelude.{◌≡◌, ◌≤◌, ℕ, List, Option, Some, None, Result, Ok, Err, IfErr, IfSome, String, string_bytes}
use Rattle.std.specs.declared.alloc.AllocError.{AllocError}
use Rattle.std.specs.declared.alloc.Global.{Global}
use Rattle.ul_files.specs.Causes.{Rose}
use Rattle.ul_files.specs.Files.{FileMap}
use Rattle.ul_files.specs.declared.files.ReadRefused.{ReadRefused}
use Rattle.ul_files.specs.declared.files.ReadRefused.TheVariants as read
use Rattle.ul_index.specs.Catalogs.{Packages}
use Rattle.ul_index.specs.Documents.{not_json, shape, wrong_name}
use Rattle.ul_index.specs.declared.fault.IndexFault.{IndexFault}
use Rattle.ul_index.specs.declared.fault.IndexFault.TheVariants as index
use Rattle.ul_load.specs.Loading.{Beginning, Fault, Found, IsRead, LoadAnswer, document, too_long, too_many_bytes, too_many_packages, too_many_releases, too_many_comparisons}
use Rattle.ul_load.specs.declared.fault.LoadFault.{LoadFault}
use Rattle.ul_load.specs.declared.fault.LoadFault.TheVariants.{Read, Document, TooLong, TooManyBytes, TooManyPackages, TooManyReleases, TooManyAtoms, NoMemory}

-- what a fault says of the files' contents; a read that failed and want of memory say nothing
abbrev pub fault_of : LoadFault → Option Fault
fault_of (Read path) = None
fault_of (Document path index.NotJson) = Some (document (string_bytes path) not_json)
fault_of (Document path (index.Shape place)) = Some (document (string_bytes path) (shape place))
fault_of (Document path index.WrongName) = Some (document (string_bytes path) wrong_name)
fault_of (Document path index.NoMemory) = None
fault_of (TooLong path) = Some (too_long (string_bytes path))
fault_of TooManyBytes = Some too_many_bytes
fault_of TooManyPackages = Some too_many_packages
fault_of TooManyReleases = Some too_many_releases
fault_of TooManyAtoms = Some too_many_comparisons
fault_of NoMemory = None

-- the path whose read failed
abbrev pub failed_path : LoadFault → Option (List ℕ)
failed_path (Read path) = Some (string_bytes path)
failed_path _ = None

-- the result is what is found, or the fault
abbrev pub Gives : {T A : Type 0} → (T → A) → Result T LoadFault → Found A → Type 0
Gives view (Ok x) found = found ≡ Ok (view x)
Gives view (Err e) found = IfSome (fault_of e) (λ f. found ≡ Err f)

-- the fault is that of bytes: no read failed, and no document carries want of memory
abbrev pub IsOfBytes : LoadFault → Type 0
IsOfBytes (Read path) = ⊥
IsOfBytes (Document path index.NoMemory) = ⊥
IsOfBytes _ = Unit {0}

-- where a read failed, this holds of its path
abbrev pub FailedAt : {T : Type 0} → (List ℕ → Type 0) → Result T LoadFault → Type 0
FailedAt P r = IfErr r (λ e. IfSome (failed_path e) P)

-- What a result says of the count of faults and of the last path that failed: a read that failed comes only where the
-- count rose, nothing else comes where it rose, and no document carries want of memory.
abbrev pub Cause : {T : Type 0} → ℕ → ℕ → Option (List ℕ) → Result T LoadFault → Type 0
Cause before now last (Ok _) = now ≡ before
Cause before now last (Err (Read path)) = Rose before now × (before ≤ now) × ((p : List ℕ) → last ≡ Some p → string_bytes path ≡ p)
Cause before now last (Err (Document path index.NotJson)) = now ≡ before
Cause before now last (Err (Document path (index.Shape place))) = now ≡ before
Cause before now last (Err (Document path index.WrongName)) = now ≡ before
Cause before now last (Err (Document path index.NoMemory)) = ⊥
Cause before now last (Err (TooLong path)) = now ≡ before
Cause before now last (Err TooManyBytes) = now ≡ before
Cause before now last (Err TooManyPackages) = now ≡ before
Cause before now last (Err TooManyReleases) = now ≡ before
Cause before now last (Err TooManyAtoms) = now ≡ before
Cause before now last (Err NoMemory) = before ≤ now

-- the result is the catalog, or the first fault; a read that failed is one of those that loading makes
abbrev pub LoadGives : FileMap → List ℕ → Beginning → Result Packages LoadFault → Type 0
LoadGives m folder b (Ok c) = LoadAnswer m folder b (Ok c)
LoadGives m folder b (Err e) =
    IfSome (fault_of e) (λ f. LoadAnswer m folder b (Err f)) × IfSome (failed_path e) (IsRead m folder b)

-- a fault with its path, if there was memory for that
abbrev pub with_path : (String Global → LoadFault) → Result (String Global) AllocError → LoadFault
with_path fault (Ok path) = fault path
with_path fault (Err e) = NoMemory

-- the fault of a file that isn't read
abbrev pub fault_of_read : Result (String Global) AllocError → ReadRefused → LoadFault
fault_of_read path read.Failed = with_path Read path
fault_of_read path read.TooLong = with_path TooLong path
fault_of_read path read.NoMemory = NoMemory

-- the fault of a document that isn't one of its name
abbrev pub fault_of_document : Result (String Global) AllocError → IndexFault → LoadFault
fault_of_document path index.NotJson = with_path (λ p. Document p index.NotJson) path
fault_of_document path (index.Shape place) = with_path (λ p. Document p (index.Shape place)) path
fault_of_document path index.WrongName = with_path (λ p. Document p index.WrongName) path
fault_of_document path index.NoMemory = NoMemory
