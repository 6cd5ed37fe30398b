-- Each input is given.
use Rattle.std.proofs.Common.{ℕ, List, Option, Ok, refl}
use Rattle.std.specs.Prelude.{codes}
use Rattle.ul_files.specs.Files.{FileMap}
use Rattle.ul_tree.specs.Sample.{SampleHolds}
use Rattle.ul_load.specs.Laws.{LoadingEnds}
use Rattle.ul_load.specs.Loading.{file_bytes}
use Rattle.ul_comparison.specs.MachineFiles.{machine_of}
use Rattle.ul_groups.specs.Adjusted.{catalog_for}
use Rattle.ul_project.specs.Fields.{ProjectFields}
use Rattle.ul_inputs.specs.Catalogs.{beginning, catalog_in, documents, found_or_refused}
use Rattle.ul_inputs.specs.Inputs.{◌>>=◌, just, small_file}
use Rattle.ul_inputs.specs.Locks.{Kept, old_lock}
use Rattle.ul_inputs.specs.Machines.{machine_at, machine_or_refused, machine_said}
use Rattle.ul_inputs.specs.Projects.{project_at}
use Rattle.ul_inputs.specs.Resolutions.{resolution_in, resolution_of, resolution_with}
use Rattle.laws_existence.specs.Inputs.{InputsAreGiven, IsGiven}
use Rattle.laws_existence.proofs.Derivations.{derivation_given}
use Rattle.laws_existence.proofs.LockTexts.{lock_given, old_given}
use Rattle.laws_existence.proofs.Projects.{ProjectLaws, project_given}
use Rattle.laws_existence.proofs.Sequenced.{given_file, given_just, given_then}

-- the machine of a machine file
pub machine_given : (path : List ℕ) (m : FileMap) → IsGiven (machine_at path) m
machine_given path m =
    given_then (small_file path) (machine_said path) m (given_file (codes "file-bytes") file_bytes path m)
    (λ bytes gave. given_just (machine_or_refused path (machine_of bytes)) m)

documents_given : LoadingEnds → (folder : List ℕ) (p : ProjectFields) (m : FileMap) → IsGiven (documents folder p) m
documents_given ends folder p m =
    let t = ends m folder (beginning p) in
    (found_or_refused t.0.1, record { found = t.0.1; answered = (t.0.0, t.1); is = refl })

catalog_given : LoadingEnds → (folder : List ℕ) (p : ProjectFields) (m : FileMap) → IsGiven (catalog_in folder p) m
catalog_given ends folder p m =
    given_then (documents folder p) (λ c. just (Ok (catalog_for p c))) m
    (documents_given ends folder p m)
    (λ c gave. given_just (Ok (catalog_for p c)) m)

-- what a project says, with the documents of a folder
pub resolution_with_given : LoadingEnds → (folder : List ℕ) (p : ProjectFields) (kept : List Kept) (m : FileMap)
    → IsGiven (resolution_with folder p kept) m
resolution_with_given ends folder p kept m =
    given_then (catalog_in folder p) (λ c. just (Ok (resolution_of p kept c))) m (catalog_given ends folder p m)
    (λ c gave. given_just (Ok (resolution_of p kept c)) m)

resolution_given : ProjectLaws → LoadingEnds → (project folder : List ℕ) (old : Option (List ℕ)) (m : FileMap)
    → IsGiven (resolution_in project folder old) m
resolution_given laws ends project folder old m =
    given_then (project_at project) (λ p. old_lock old >>= λ kept. resolution_with folder p kept) m
    (project_given laws project m)
    (λ p gave. given_then (old_lock old) (resolution_with folder p) m (old_given old m)
    (λ kept said. resolution_with_given ends folder p kept m))

pub inputs_are_given : ProjectLaws → LoadingEnds → SampleHolds → InputsAreGiven
inputs_are_given laws ends samples = record {
  project = project_given laws;
  lock = lock_given;
  derivation = derivation_given samples;
  resolution = resolution_given laws ends;
}
