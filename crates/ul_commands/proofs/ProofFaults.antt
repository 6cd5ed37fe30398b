-- Refusals of derivations.
use Rattle.std.proofs.Common.{◌≡◌, ℕ, List, Option, Some, None, Ok, Err, refl}
use Rattle.ul_report_read.specs.Headline.{ReadsProof}
use Rattle.ul_report_read.specs.declared.proof.Proof.{Proof}
use Rattle.ul_report_read.specs.declared.reading.ProofFault.{ProofFault}
use Rattle.ul_report_read.specs.declared.reading.ProofFault.TheVariants.{Line, NoMemory}
use Rattle.ul_inputs.specs.Inputs.{only}
use Rattle.ul_inputs.specs.Refusals.{Answers, IsRefusalFor}
use Rattle.ul_inputs.specs.declared.refusal.Refusal.{Refusal}
use Rattle.ul_inputs.proofs.ForCallers.{refused_by, refused_none}
use Rattle.ul_commands.specs.Checking.{IsProofOf, refused_proof}

pub proof_found : (path text : List ℕ) (x : Proof) → ReadsProof text (Ok x)
    → Answers {T = Proof} (λ y. y) (Ok x) (only (IsProofOf path text))
proof_found path text x h = h.found

abbrev own : Proof → Proof
own x = x

pub proof_fault : (path text : List ℕ) (fault : ProofFault) (e : Refusal) → ReadsProof text (Err fault)
    → IsRefusalFor (refused_proof path fault) e → Answers {T = Proof} (λ y. y) (Err e) (only (IsProofOf path text))
proof_fault path text (Line n) e h is = refused_by own _ e (only (IsProofOf path text)) is (record { line = n; first = h.line n refl; is = refl })
proof_fault path text NoMemory e h is = refused_none own e (only (IsProofOf path text)) is
