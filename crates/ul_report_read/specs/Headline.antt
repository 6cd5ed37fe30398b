-- The main theorem: what reading a derivation file answers, exactly.
use Rattle.std.specs.Prelude.{◌≡◌, ℕ, List, Result, Ok, Err, IfOk}
use Rattle.ul_lines.specs.Faults.{IsFault}
use Rattle.ul_lines.specs.Lines.{lines_of}
use Rattle.ul_report_read.specs.Proofs.{AreProofLines, IsTextOf}
use Rattle.ul_report_read.specs.declared.proof.Proof.{Proof}
use Rattle.ul_report_read.specs.declared.reading.ProofFault.{ProofFault}
use Rattle.ul_report_read.specs.declared.reading.ProofFault.TheVariants.{Line as LineAt, NoMemory}

-- the answer is this, unless memory ran out
abbrev pub IsAnswer : Result Proof ProofFault → Proof → Type 0
IsAnswer (Ok x) y = x ≡ y
IsAnswer (Err NoMemory) y = Unit {0}
IsAnswer (Err (LineAt n)) y = ⊥

-- what reading answers for a text
pub record ReadsProof (text : List ℕ) (result : Result Proof ProofFault) : Type 0 where
  -- the text is that of what is read
  pub found : IfOk result (λ x. IsTextOf text x)
  -- each derivation file is read
  pub only : (x : Proof) → IsTextOf text x → IsAnswer result x
  -- the line of a fault is the first that no derivation file has there
  pub line : (n : ℕ) → result ≡ Err (LineAt n) → IsFault AreProofLines (lines_of text) n
