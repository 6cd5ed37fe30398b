-- What the program answers, where its inputs are read.
use Rattle.std.specs.Prelude.{ℕ, List, Bool}
use Rattle.ul_version.specs.Fields.{Fields}
use Rattle.ul_nodes.specs.Plain.{Plain}
use Rattle.ul_lock.specs.declared.parts.Lock.{Lock}
use Rattle.ul_reach.specs.declared.rows.Reached.{Reached}

-- what is answered
pub data Answer : Type 0 where
  -- the words aren't one of the commands
  usage : Answer
  -- a lock, merged of so many forks
  locked : Lock → (forks : ℕ) → Answer
  -- how many packages a lock has, and of how many forks it is merged
  counted : Lock → (forks : ℕ) → Answer
  -- a lock isn't written, since one of its markers isn't printable
  unwritten : Answer
  -- a fork that no selection serves isn't told, since its region isn't printable
  untold : Answer
  -- the fork at a path, which is a region, that no selection serves, with the lines of its core
  no_selection : (path : List Bool) → (region : Plain) → (core : List ℕ) → Answer
  -- such a fork, with the lines of a derivation
  derived : (path : List Bool) → (region : Plain) → (steps : List ℕ) → Answer
  -- no fork is refused
  none_refused : Answer
  -- the lines of what a lock gives on a machine
  environment : List ℕ → Answer
  -- where a lock gives each of its packages
  exported : List Reached → Answer
  -- the canonical texts of a file's markers, a line for each
  canonical : List ℕ → Answer
  -- the lock isn't for the machine
  outside : Answer
  -- the lock's root doesn't have the extra of this word
  no_extra : List ℕ → Answer
  -- a derivation is accepted
  accepted : Answer
  -- a derivation is rejected at this step
  rejected : ℕ → Answer
  -- a lock is verified
  verified : Answer
  -- a lock isn't, since its root isn't the project's
  rejected_root : Answer
  -- since it is for other worlds than the project supports
  rejected_supported : Answer
  -- since this is its first package that isn't right
  rejected_package : (name : List ℕ) → (version : Fields) → Answer
