-- The worlds of a machine that a machine file says, with the truth of a lock's comparisons and of others.
use Rattle.std.proofs.Common.{◌≡◌, ◌∙◌, ◌||◌, ◌++◌, ℕ, List, Bool, true, false, Result, Ok, Err, refl, sym}
use Rattle.std.specs.Prelude.{All}
use Rattle.std.specs.Ordering.{is_eq}
use Rattle.std.proofs.lemmas.List.Elements.{All-append}
use Rattle.std.proofs.lemmas.List.Folds.{list_any-append}
use Rattle.ul_files.specs.Files.{FileMap}
use Rattle.ul_comparison.specs.Atoms.{AtomFields, IsAtom, atom_cmp, has_atom}
use Rattle.ul_comparison.specs.MachineFiles.{MachineRefusal, machine_of}
use Rattle.ul_comparison.specs.Machines.{IsMachine, MachineFields}
use Rattle.ul_comparison.specs.Worlds.{IsWorld}
use Rattle.ul_lock.specs.WellFormed.{IsWellFormed}
use Rattle.ul_lock.specs.declared.parts.Lock.{Lock}
use Rattle.ul_filter.specs.Comparisons.{HasAll, lock_atoms}
use Rattle.ul_inputs.specs.Inputs.{small_file}
use Rattle.ul_inputs.specs.Machines.{machine_at, machine_or_refused, machine_said}
use Rattle.laws_comparisons.specs.Comparisons.{FilesSayMachines, LocksHaveAtoms, MachinesHaveWorlds}
use Rattle.laws_given.proofs.ForCallers.{on_ok}
use Rattle.laws_promises.specs.Promises.{world_with}

-- the lock's comparisons are among these
pub has_all : (l : Lock) (others : List AtomFields) → HasAll (lock_atoms l ++ others) (lock_atoms l)
has_all l others a e = list_any-append (λ b. is_eq (atom_cmp b a)) (lock_atoms l) others ∙ first (has_atom (lock_atoms l) a) e
  where
    first : (b : Bool) → b ≡ true → (b || has_atom others a) ≡ true
    first true e = refl
    first false e = absurd (cc e)

-- the machine of a machine file
pub machine_is : FilesSayMachines → (path : List ℕ) (m : FileMap) (x : MachineFields) → (machine_at path m).gives (Ok x) → IsMachine x
machine_is files path m x gave =
    let bytes = on_ok (small_file path) (machine_said path) m x gave in
    files bytes.value x (said (machine_of bytes.value) bytes.answers)
  where
    said : (r : Result MachineFields MachineRefusal) → Ok x ≡ machine_or_refused path r → r ≡ Ok x
    said (Ok y) e = let same : y ≡ x = cc in λ i. Ok (same i)
    said (Err refusal) e = absurd (cc e)

-- its world
pub world_is : MachinesHaveWorlds → LocksHaveAtoms → (l : Lock) (x : MachineFields) (others : List AtomFields) → IsWellFormed l
    → IsMachine x → All IsAtom others → IsWorld (world_with l x others)
world_is worlds atoms l x others well is all =
    worlds x (lock_atoms l ++ others) is (All-append IsAtom (lock_atoms l) others (atoms l well) all)
