-- Refusals of index folders.
use Rattle.std.proofs.Common.{ℕ, List, Option, Some, None, option_map, IfSome, Ok, Err, refl}
use Rattle.ul_files.specs.Files.{FileMap}
use Rattle.ul_index.specs.Catalogs.{Packages}
use Rattle.ul_project.specs.Fields.{ProjectFields}
use Rattle.ul_load.specs.Faults.{LoadGives, fault_of}
use Rattle.ul_load.specs.Loading.{Fault, LoadAnswer}
use Rattle.ul_load.specs.declared.fault.LoadFault.{LoadFault}
use Rattle.ul_load.specs.declared.fault.LoadFault.TheVariants.{Read, Document, TooLong, TooManyBytes, TooManyPackages, TooManyReleases, TooManyAtoms, NoMemory}
use Rattle.ul_inputs.specs.Catalogs.{IsLoadRefusal, beginning, documents, refused_load}
use Rattle.ul_inputs.specs.Refusals.{Answers, IsRefusalFor}
use Rattle.ul_inputs.specs.declared.refusal.Refusal.{Refusal}
use Rattle.ul_inputs.proofs.ForCallers.{refused_by, refused_none}

abbrev own : Packages → Packages
own c = c

pub load_found : (m : FileMap) (folder : List ℕ) (p : ProjectFields) (c : Packages) → LoadGives m folder (beginning p) (Ok c)
    → Answers {T = Packages} (λ x. x) (Ok c) (documents folder p m)
load_found m folder p c h = record { found = Ok c; answered = h; is = refl }

by_fault : (m : FileMap) (folder : List ℕ) (p : ProjectFields) (o : Option Fault) (e : Refusal)
    → IfSome o (λ f. LoadAnswer m folder (beginning p) (Err f)) → IsRefusalFor (option_map refused_load o) e
    → Answers {T = Packages} (λ x. x) (Err e) (documents folder p m)
by_fault m folder p None e h is = refused_none own e (documents folder p m) is
by_fault m folder p (Some f) e h is = refused_by own _ e (documents folder p m) is (record { found = Err f; answered = h; is = refl })

pub load_fault : (m : FileMap) (folder : List ℕ) (p : ProjectFields) (f : LoadFault) (e : Refusal) → LoadGives m folder (beginning p) (Err f)
    → IsLoadRefusal f e → Answers {T = Packages} (λ x. x) (Err e) (documents folder p m)
load_fault m folder p (Read path) e h is = rw is (tt, h.1)
load_fault m folder p (Document path fault) e h is = by_fault m folder p (fault_of (Document path fault)) e h.0 is
load_fault m folder p (TooLong path) e h is = by_fault m folder p (fault_of (TooLong path)) e h.0 is
load_fault m folder p TooManyBytes e h is = by_fault m folder p (fault_of TooManyBytes) e h.0 is
load_fault m folder p TooManyPackages e h is = by_fault m folder p (fault_of TooManyPackages) e h.0 is
load_fault m folder p TooManyReleases e h is = by_fault m folder p (fault_of TooManyReleases) e h.0 is
load_fault m folder p TooManyAtoms e h is = by_fault m folder p (fault_of TooManyAtoms) e h.0 is
load_fault m folder p NoMemory e h is = by_fault m folder p (fault_of NoMemory) e h.0 is
