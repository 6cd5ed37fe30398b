-- Refusals of locks.
use Rattle.std.proofs.Common.{ℕ, List, Result, Ok, Err, IfOk, refl}
use Rattle.ul_lock.specs.declared.parts.Lock.{Lock}
use Rattle.ul_lock.specs.WellFormed.{IsWellFormed}
use Rattle.ul_lock_read.specs.Headline.{ReadsLock}
use Rattle.ul_lock_read.specs.declared.locks.LockFault.{LockFault}
use Rattle.ul_lock_read.specs.declared.locks.LockFault.TheVariants.{Line, Root, Target, NoMemory}
use Rattle.ul_inputs.specs.Inputs.{only}
use Rattle.ul_inputs.specs.Locks as fault
use Rattle.ul_inputs.specs.Locks.{IsLockOf, refused_lock}
use Rattle.ul_inputs.specs.Refusals.{Answers, IsRefusalFor}
use Rattle.ul_inputs.specs.declared.refusal.Refusal.{Refusal}
use Rattle.ul_inputs.proofs.ForCallers.{refused_by, refused_none}

abbrev own : Lock → Lock
own l = l

pub lock_found : (path text : List ℕ) (l : Lock) → ReadsLock text (Ok l) → Answers {T = Lock} (λ x. x) (Ok l) (only (IsLockOf path text))
lock_found path text l h = h.found

pub lock_fault : (path text : List ℕ) (f : LockFault) (e : Refusal) → ReadsLock text (Err f) → IsRefusalFor (refused_lock path f) e
    → Answers {T = Lock} (λ x. x) (Err e) (only (IsLockOf path text))
lock_fault path text (Line n) e h is = refused_by own _ e (only (IsLockOf path text)) is (record { fault = fault.line n; has = h.line n refl; is = refl })
lock_fault path text Root e h is = refused_by own _ e (only (IsLockOf path text)) is (record { fault = fault.root; has = h.root refl; is = refl })
lock_fault path text (Target k) e h is = refused_by own _ e (only (IsLockOf path text)) is (record { fault = fault.target k; has = h.target k refl; is = refl })
lock_fault path text NoMemory e h is = refused_none own e (only (IsLockOf path text)) is

-- a lock that is read is well formed
pub well_formed_in : (path text : List ℕ) (r : Result Lock Refusal) → Answers {T = Lock} (λ x. x) r (only (IsLockOf path text)) → IfOk r IsWellFormed
well_formed_in path text (Ok l) h = h.well_formed
well_formed_in path text (Err e) h = tt
