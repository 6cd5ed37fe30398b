-- What calls of a reader or a writer do to the counts of its failures.
use Rattle.std.specs.Prelude.{◌≡◌, ◌≢◌, ℕ, ◌-◌, ◌^◌, ◌≤◌, ◌⊎◌, Result, Ok, Err}
use Rattle.std.specs.IoError.{error_kind}
use Rattle.std.specs.declared.io.Error.{Error}
use Rattle.std.specs.declared.io.ErrorKind.{ErrorKind}
use Rattle.std.specs.declared.io.ErrorKind.TheVariants.{Interrupted}
use Rattle.ul_files.specs.Causes.{Rose, next_count}
use Rattle.ul_edge.specs.declared.counted.Counted.{Counted}

-- the reader or the writer whose failures are counted
abbrev pub inner_of : {T : Type 0} → Counted T → T
inner_of c = c.inner

-- no failure more was counted
abbrev pub HasNoFailure : {T : Type 0} → Counted T → Counted T → Type 0
HasNoFailure before now = now.failures ≡ before.failures

-- a call failed; or so many were interrupted that their count stands at its last value
abbrev pub HasFailed : {T : Type 0} → Counted T → Counted T → Type 0
HasFailed before now = Rose before.failures now.failures ⊎ (2 ^ 64 - 1 ≤ now.interruptions)

-- a call that ended with an error of this kind is counted as interrupted or as failed
pub record IsCountedAs {T : Type 0} (kind : ErrorKind) (before now : Counted T) : Type 0 where
  pub interrupted : kind ≡ Interrupted → HasNoFailure before now × (now.interruptions ≡ next_count before.interruptions)
  pub failed : kind ≢ Interrupted → Rose before.failures now.failures

-- what a call answered is counted
abbrev pub IsCounted : {T : Type 0} → Result ℕ Error → Counted T → Counted T → Type 0
IsCounted (Ok _) before now = HasNoFailure before now
IsCounted (Err e) before now = IsCountedAs (error_kind e) before now

-- calls that together answered this: an error comes only where one of them failed
abbrev pub HasCounted : {A E T : Type 0} → Result A E → Counted T → Counted T → Type 0
HasCounted (Ok _) before now = HasNoFailure before now
HasCounted (Err _) before now = HasFailed before now
