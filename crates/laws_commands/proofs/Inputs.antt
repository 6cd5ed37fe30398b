-- Each input is one result.
use Rattle.std.proofs.Common.{◌≡◌, ◌∙◌, ℕ, List, [], Option, Some, None, Result, Ok, Err, sym, ap, inl, inr}
use Rattle.std.specs.Prelude.{codes}
use Rattle.ul_files.specs.Files.{FileMap}
use Rattle.ul_index.specs.Catalogs.{Packages}
use Rattle.ul_project.specs.Fields.{ProjectFields}
use Rattle.ul_project.specs.Laws.{OneProject}
use Rattle.ul_project.specs.ProjectFile.{FileFields}
use Rattle.ul_project.specs.Shapes.{Fault}
use Rattle.ul_groups.specs.Adjusted.{catalog_for}
use Rattle.ul_groups.specs.Expanded.{Expanding, expanded_project, refused}
use Rattle.ul_load.specs.Laws.{TurnsAgree}
use Rattle.ul_load.specs.Loading.{Traced, file_bytes}
use Rattle.ul_lock_read.specs.Laws.{OneFault, OneTextOneLock}
use Rattle.ul_inputs.specs.Inputs.{answer, just, large_file, said_on, small_file, text_bytes}
use Rattle.ul_inputs.specs.Refused.{Refused, malformed}
use Rattle.ul_inputs.specs.Catalogs.{beginning, catalog_in, documents, found_or_refused}
use Rattle.ul_inputs.specs.Locks.{Kept, kept_of, lock_at, lock_said, old_lock}
use Rattle.ul_inputs.specs.Machines.{machine_at, machine_said, machine_or_refused}
use Rattle.ul_inputs.specs.Projects.{IsExpanded, IsProjectOf, fault_text, project_at, project_said}
use Rattle.ul_inputs.specs.Resolutions.{resolution_in, resolution_of, resolution_with}
use Rattle.ul_comparison.specs.MachineFiles.{machine_of}
use Rattle.laws_commands.proofs.LockTexts.{lock_once}
use Rattle.laws_commands.proofs.Ones.{IsOne, one_file, one_just, one_on}

-- ---- projects

said_and_fault : (r : Result FileFields Fault) (file : FileFields) (f : Fault) → r ≡ Ok file → r ≡ Err f → ⊥
said_and_fault r file f e h = let both : Ok file ≡ Err f = sym e ∙ h in cc

one_of_faults : (r : Result FileFields Fault) (f g : Fault) → r ≡ Err f → r ≡ Err g → f ≡ g
one_of_faults r f g e h = cc

ok_project : (p q : ProjectFields) → p ≡ q → (let r : Result ProjectFields Refused = Ok p in r) ≡ Ok q
ok_project p q e = cc

err_project : (e f : Refused) → e ≡ f → (let r : Result ProjectFields Refused = Err e in r) ≡ Err f
err_project e f h = cc

-- the bytes say at most one project, or have at most one first fault
said_once : OneProject → (path bytes : List ℕ) (a b : Result ProjectFields Refused) → IsProjectOf path bytes a → IsProjectOf path bytes b → a ≡ b
said_once laws path bytes (Ok p) (Ok q) g h = ok_project p q (laws.one bytes p q g h)
said_once laws path bytes (Ok p) (Err f) g (inl h) = absurd (said_and_fault _ g.file h.fault g.said h.first)
said_once laws path bytes (Ok p) (Err f) g (inr h) = absurd (laws.somewhere bytes p g h.nowhere)
said_once laws path bytes (Err e) (Ok q) (inl g) h = absurd (said_and_fault _ h.file g.fault h.said g.first)
said_once laws path bytes (Err e) (Ok q) (inr g) h = absurd (laws.somewhere bytes q h g.nowhere)
said_once laws path bytes (Err e) (Err f) (inl g) (inl h) =
    let same = one_of_faults _ g.fault h.fault g.first h.first in
    err_project e f (g.is ∙ (ap (λ x. malformed path (fault_text x)) same ∙ sym h.is))
said_once laws path bytes (Err e) (Err f) (inl g) (inr h) = absurd (said_and_fault _ h.nowhere.file g.fault h.nowhere.said g.first)
said_once laws path bytes (Err e) (Err f) (inr g) (inl h) = absurd (said_and_fault _ g.nowhere.file h.fault g.nowhere.said h.first)
said_once laws path bytes (Err e) (Err f) (inr g) (inr h) = err_project e f (g.is ∙ sym h.is)

-- groups become extras in one way, or are refused
expanded_once : (path : List ℕ) (x : Expanding ProjectFields) (a b : Result ProjectFields Refused)
    → IsExpanded path x a → IsExpanded path x b → a ≡ b
expanded_once path (Ok p) a b g h = g ∙ sym h
expanded_once path (Err (refused place)) a b g h = g ∙ sym h

one_project_said : OneProject → (path bytes : List ℕ) (m : FileMap) → IsOne (project_said path bytes m)
one_project_said laws path bytes m =
    one_on (answer (IsProjectOf path bytes) m) (λ p. answer (IsExpanded path (expanded_project p)) m) (said_once laws path bytes)
    (λ p. expanded_once path (expanded_project p))

-- a project file
pub one_project_at : OneProject → (path : List ℕ) (m : FileMap) → IsOne (project_at path m)
one_project_at laws path m =
    one_on (small_file path m) (λ bytes. project_said path bytes m) (one_file (codes "file-bytes") file_bytes path m)
    (λ bytes. one_project_said laws path bytes m)

-- ---- locks

-- a lock file
pub one_lock_at : OneTextOneLock → OneFault → (path : List ℕ) (m : FileMap) → IsOne (lock_at path m)
one_lock_at locks faults path m =
    one_on (large_file path m) (λ text. lock_said path text m) (one_file (codes "text-bytes") text_bytes path m)
    (λ text. lock_once locks faults path text)

-- what an old lock keeps
pub one_old_lock : OneTextOneLock → OneFault → (old : Option (List ℕ)) (m : FileMap) → IsOne (old_lock old m)
one_old_lock locks faults None m = one_just (Ok []) m
one_old_lock locks faults (Some path) m =
    one_on (lock_at path m) (λ l. just (Ok (kept_of l)) m) (one_lock_at locks faults path m) (λ l. one_just (Ok (kept_of l)) m)

-- ---- machines

-- a machine file
pub one_machine_at : (path : List ℕ) (m : FileMap) → IsOne (machine_at path m)
one_machine_at path m =
    one_on (small_file path m) (λ bytes. machine_said path bytes m) (one_file (codes "file-bytes") file_bytes path m)
    (λ bytes. one_just (machine_or_refused path (machine_of bytes)) m)

-- ---- catalogs

-- the documents of an index folder
pub one_documents : TurnsAgree → (folder : List ℕ) (p : ProjectFields) (m : FileMap) → IsOne (documents folder p m)
one_documents turns folder p m a b g h =
    let x : Traced Packages = (g.answered.0, g.found) in
    let y : Traced Packages = (h.answered.0, h.found) in
    let same : x ≡ y = turns m folder (beginning p) g.answered.1.0 h.answered.1.0 x y g.answered.1.1 h.answered.1.1 in
    g.is ∙ (ap (λ (t : Traced Packages). found_or_refused t.1) same ∙ sym h.is)

pub one_catalog_in : TurnsAgree → (folder : List ℕ) (p : ProjectFields) (m : FileMap) → IsOne (catalog_in folder p m)
one_catalog_in turns folder p m =
    one_on (documents folder p m) (λ c. just (Ok (catalog_for p c)) m) (one_documents turns folder p m)
    (λ c. one_just (Ok (catalog_for p c)) m)

-- ---- resolutions

pub one_resolution_with : TurnsAgree → (folder : List ℕ) (p : ProjectFields) (kept : List Kept) (m : FileMap)
    → IsOne (resolution_with folder p kept m)
one_resolution_with turns folder p kept m =
    one_on (catalog_in folder p m) (λ c. just (Ok (resolution_of p kept c)) m) (one_catalog_in turns folder p m)
    (λ c. one_just (Ok (resolution_of p kept c)) m)

-- a project file, perhaps an old lock, and an index folder
pub one_resolution_in : OneProject → TurnsAgree → OneTextOneLock → OneFault → (project folder : List ℕ) (old : Option (List ℕ)) (m : FileMap)
    → IsOne (resolution_in project folder old m)
one_resolution_in projects turns locks faults project folder old m =
    one_on (project_at project m) (λ p. said_on (old_lock old m) (λ kept. resolution_with folder p kept m)) (one_project_at projects project m)
    (λ p.
    one_on (old_lock old m) (λ kept. resolution_with folder p kept m) (one_old_lock locks faults old m)
    (λ kept. one_resolution_with turns folder p kept m))
