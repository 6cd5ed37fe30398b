-- What the reading by lines answers; want of memory is free.
use Rattle.std.specs.Prelude.{◌≡◌, ℕ, Result, Ok, Err}
use Rattle.ul_report_read.specs.declared.proof.Proof.{Proof}
use Rattle.ul_report_read.specs.declared.reading.ProofFault.{ProofFault}
use Rattle.ul_report_read.specs.declared.reading.ProofFault.TheVariants.{Line as LineAt, NoMemory}

-- a fault's line is the one that the reading by lines tells
abbrev pub Fails : ProofFault → Result Proof ℕ → Type 0
Fails NoMemory read = Unit {0}
Fails (LineAt n) read = read ≡ Err n

-- the reading by lines
abbrev pub Gives : Result Proof ProofFault → Result Proof ℕ → Type 0
Gives (Ok x) read = read ≡ Ok x
Gives (Err e) read = Fails e read
