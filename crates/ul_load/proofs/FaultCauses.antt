-- Faults of bytes come without a read that failed.
use Rattle.std.proofs.Common.{◌≡◌, ℕ, List, Option, IfSome, IfErr, Result, Ok, Err, arith, subst}
use Rattle.ul_index.specs.declared.fault.IndexFault.TheVariants as index
use Rattle.ul_load.specs.Faults.{Cause, FailedAt, IsOfBytes, failed_path}
use Rattle.ul_load.specs.declared.fault.LoadFault.{LoadFault}
use Rattle.ul_load.specs.declared.fault.LoadFault.TheVariants.{Read, Document, TooLong, TooManyBytes, TooManyPackages, TooManyReleases, TooManyAtoms, NoMemory}

-- no path failed
pub no_path : (e : LoadFault) (P : List ℕ → Type 0) → IsOfBytes e → IfSome (failed_path e) P
no_path (Read path) P h = absurd h
no_path (Document path fault) P h = tt
no_path (TooLong path) P h = tt
no_path TooManyBytes P h = tt
no_path TooManyPackages P h = tt
no_path TooManyReleases P h = tt
no_path TooManyAtoms P h = tt
no_path NoMemory P h = tt

pub no_failed_path : {T : Type 0} (r : Result T LoadFault) (P : List ℕ → Type 0) → IfErr r IsOfBytes → FailedAt P r
no_failed_path (Ok x) P h = tt
no_failed_path (Err e) P h = no_path e P h

-- the count of faults stayed as it was
pub same_count : {T : Type 0} (before now : ℕ) (last : Option (List ℕ)) (r : Result T LoadFault) → now ≡ before → IfErr r IsOfBytes → Cause before now last r
same_count before now last (Ok x) same h = same
same_count before now last (Err (Read path)) same h = absurd h
same_count before now last (Err (Document path index.NotJson)) same h = same
same_count before now last (Err (Document path (index.Shape place))) same h = same
same_count before now last (Err (Document path index.WrongName)) same h = same
same_count before now last (Err (Document path index.NoMemory)) same h = absurd h
same_count before now last (Err (TooLong path)) same h = same
same_count before now last (Err TooManyBytes) same h = same
same_count before now last (Err TooManyPackages) same h = same
same_count before now last (Err TooManyReleases) same h = same
same_count before now last (Err TooManyAtoms) same h = same
same_count before now last (Err NoMemory) same h = omega (arith, same)

-- a fault that is handed on has the cause that it had
pub cause_on : (S T : Type 0) (before now : ℕ) (last : Option (List ℕ)) (e : LoadFault) → Cause {T = S} before now last (Err e) → Cause {T = T} before now last (Err e)
cause_on S T before now last (Read path) h = h
cause_on S T before now last (Document path index.NotJson) h = h
cause_on S T before now last (Document path (index.Shape place)) h = h
cause_on S T before now last (Document path index.WrongName) h = h
cause_on S T before now last (Document path index.NoMemory) h = h
cause_on S T before now last (TooLong path) h = h
cause_on S T before now last TooManyBytes h = h
cause_on S T before now last TooManyPackages h = h
cause_on S T before now last TooManyReleases h = h
cause_on S T before now last TooManyAtoms h = h
cause_on S T before now last NoMemory h = h

-- the same, where the count was that of an earlier place
pub cause_from : (S T : Type 0) (start before now : ℕ) (last : Option (List ℕ)) (e : LoadFault) → before ≡ start → Cause {T = S} before now last (Err e) → Cause {T = T} start now last (Err e)
cause_from S T start before now last e same h = subst (λ (n : ℕ). Cause {T = T} n now last (Err e)) same (cause_on S T before now last e h)
