-- What `read` answers, and its laws.
use Rattle.std.proofs.Common.{◌≡◌, ℕ, ◌<◌, ◌^◌, List, [], Bool, true, length, refl, subst, Result, Ok, Err}
use Rattle.std.specs.Prelude.{IfOk}
use Rattle.ul_lines.specs.Faults.{IsFault}
use Rattle.ul_lines.specs.Lines.{lines_of}
use Rattle.ul_lines.specs.Reader.{Each, read_text}
use Rattle.ul_lines.proofs.ForCallers.{one_fault, right_has_none}
use Rattle.ul_lock.specs.Region.{IsRegion}
use Rattle.ul_marker_text.specs.MarkerOfText.{is_readable}
use Rattle.ul_problem.specs.Plain.{Plain}
use Rattle.ul_problem.specs.Problems.{IsWellFormed}
use Rattle.ul_problem.specs.Steps.{AreRightAfter}
use Rattle.ul_problem.specs.declared.step.Step.{Step}
use Rattle.ul_report_read.specs.Answers.{Gives}
use Rattle.ul_report_read.specs.Automaton.{proof_reader}
use Rattle.ul_report_read.specs.Headline.{IsAnswer, ReadsProof}
use Rattle.ul_report_read.specs.Laws.{HasTexts, OneFault, printed}
use Rattle.ul_report_read.specs.Proofs.{AreProofLines, IsTextOf, proof_text}
use Rattle.ul_report_read.specs.declared.proof.Proof.{Proof}
use Rattle.ul_report_read.specs.declared.reading.ProofFault.{ProofFault}
use Rattle.ul_report_read.specs.declared.reading.ProofFault.TheVariants.{Line as LineAt, NoMemory}
use Rattle.ul_report_read.proofs.Printed.{printed_proof}
use Rattle.ul_report_read.proofs.WholeTexts.{again, fault, taken}
use Rattle.ul_nodes.specs.Plain as Trees
use Rattle.ul_tree.specs.Sample.{SampleHolds}

ok_is : (x y : Proof) (r : Result Proof ℕ) → r ≡ Ok x → r ≡ Ok y → x ≡ y
ok_is x y r e f = cc

not_both : (x : Proof) (n : ℕ) (r : Result Proof ℕ) → r ≡ Ok x → r ≡ Err n → ⊥
not_both x n r e f = cc

answer_by : (result : Result Proof ProofFault) (x : Proof) (r : Result Proof ℕ) → Gives result r → r ≡ Ok x → IsAnswer result x
answer_by (Ok y) x r g e = ok_is y x r g e
answer_by (Err (LineAt n)) x r g e = absurd (not_both x n r e g)
answer_by (Err NoMemory) x r g e = tt

found_by : SampleHolds → (bytes : List ℕ) (result : Result Proof ProofFault) → Gives result (read_text proof_reader bytes) → IfOk result (λ x. IsTextOf bytes x)
found_by law bytes (Ok x) g = taken law bytes x g
found_by law bytes (Err e) g = tt

line_by : SampleHolds → (bytes : List ℕ) (result : Result Proof ProofFault) (n : ℕ) → Gives result (read_text proof_reader bytes) → result ≡ Err (LineAt n) → IsFault AreProofLines (lines_of bytes) n
line_by law bytes result n g e = fault law bytes n (subst (λ (r : Result Proof ProofFault). Gives r (read_text proof_reader bytes)) e g)

-- what the reading by lines gives is what reading answers
pub reads_proof : SampleHolds → (bytes : List ℕ) (result : Result Proof ProofFault) → Gives result (read_text proof_reader bytes) → ReadsProof bytes result
reads_proof law bytes result g = record {
  found = found_by law bytes result g;
  only = λ x h. answer_by result x (read_text proof_reader bytes) g (again law bytes x h);
  line = λ n e. line_by law bytes result n g e;
}

-- what is printed is read
pub printed_read : (p : Plain) (path : List Bool) (region : Trees.Plain) (steps : List Step) (answer : Result Proof ProofFault) → IsWellFormed p → Each HasTexts p.nodes → IsRegion region → is_readable region ≡ true → length steps < 2 ^ 64 → AreRightAfter p [] steps
    → ReadsProof (proof_text (printed p path region steps)) answer → IsAnswer answer (printed p path region steps)
printed_read p path region steps answer whole x g d l r h =
    h.only (printed p path region steps) (record { is_proof = printed_proof p path region steps whole x g d l r; same = refl })

-- a text has at most one fault, and none where it is a derivation file
pub faults : OneFault
faults = record { once = λ ls m n a b. one_fault AreProofLines ls m n a b; none = λ ls n h f. right_has_none AreProofLines ls n h f }
