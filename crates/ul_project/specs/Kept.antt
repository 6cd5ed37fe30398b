-- What stays of values that are kept while more is read.
use Rattle.std.specs.Prelude.{◌≡◌, ◌++◌, ◌∷◌, [], List, Result, Ok, Err, Vec}
use Rattle.ul_project.specs.declared.fault.ProjectFault.{ProjectFault}
use Rattle.ul_project.specs.declared.fault.ProjectFault.TheVariants.{NoMemory}

-- the fault is that of what was read, want of memory aside
abbrev pub IsFaultOf : {S : Type 0} → Result S ProjectFault → ProjectFault → Type 0
IsFaultOf read fault = (fault ≡ NoMemory → ⊥) → read ≡ Err fault

-- what was read stands beside what is kept, or its fault answers
abbrev pub IsBeside : {T S : Type 0} → T → Result S ProjectFault → Result (T × S) ProjectFault → Type 0
IsBeside kept read (Ok both) = (both.0 ≡ kept) × (read ≡ Ok both.1)
IsBeside kept read (Err fault) = IsFaultOf read fault

-- a row has one item more, which was read; or its fault answers
abbrev pub HasOneRead : {A Z : Type 0} → List A → Result A ProjectFault → Result (Vec A Z) ProjectFault → Type 0
HasOneRead {A = A} row read (Ok all) = (one : A) × (read ≡ Ok one) × (all.items ≡ row ++ one ∷ [])
HasOneRead row read (Err fault) = IsFaultOf read fault
