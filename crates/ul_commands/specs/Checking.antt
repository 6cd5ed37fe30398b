-- What `check` answers: whether a derivation is accepted by the problem of its own region, made from a project and an index.
use Rattle.std.specs.Prelude.{◌≡◌, ◌⊎◌, ℕ, List, [], ◌++◌, codes, Option, Some, None, Result, Ok, Err, alloc_error}
use Rattle.std.specs.Fmt.{decimal}
use Rattle.std.specs.declared.alloc.AllocError.{AllocError}
use Rattle.ul_project.specs.Fields.{ProjectFields}
use Rattle.ul_lines.specs.Faults.{IsFault}
use Rattle.ul_lines.specs.Lines.{lines_of}
use Rattle.ul_problem.specs.Plain.{Plain as Problem}
use Rattle.ul_report_read.specs.Proofs.{AreProofLines, IsTextOf}
use Rattle.ul_report_read.specs.declared.proof.Proof.{Proof}
use Rattle.ul_report_read.specs.declared.reading.ProofFault.{ProofFault}
use Rattle.ul_report_read.specs.declared.reading.ProofFault.TheVariants.{Line, NoMemory}
use Rattle.ul_derivation.specs.declared.accept.AcceptFault.{AcceptFault}
use Rattle.ul_derivation.specs.declared.accept.AcceptFault.TheVariants.{StepFault, NoMemory as NoMemoryToJudge}
use Rattle.ul_report_judge.specs.Faults.{AcceptsNames, IsFirstBad}
use Rattle.ul_inputs.specs.Inputs.{Input, ◌>>=◌, answer, large_file}
use Rattle.ul_inputs.specs.Refused.{Refused, malformed}
use Rattle.ul_inputs.specs.Resolutions.{ResolutionFields, resolution_with}
use Rattle.ul_answers.specs.Answer.{Answer, accepted, rejected}
use Rattle.ul_answers.specs.declared.answer.Answer.{Answer as AnswerToPrint}
use Rattle.ul_answers.specs.declared.answer.Answer.TheVariants.{Accepted, Rejected}
use Rattle.ul_commands.specs.Questions.{IsProblemIn}

-- what a fault of the code says, if it isn't want of memory
abbrev pub refused_proof : List ℕ → ProofFault → Option Refused
refused_proof path (Line n) = Some (malformed path (codes "line " ++ decimal n))
refused_proof path NoMemory = None

-- the text is refused at its first line that no derivation file has there
pub record IsWrongLine (path text : List ℕ) (e : Refused) : Type 0 where
  pub line : ℕ
  pub first : IsFault AreProofLines (lines_of text) line
  pub is : e ≡ malformed path (codes "line " ++ decimal line)

-- the derivation whose text it is, or its first wrong line
abbrev pub IsProofOf : (path text : List ℕ) → Result Proof Refused → Type 0
IsProofOf path text (Ok x) = IsTextOf text x
IsProofOf path text (Err e) = IsWrongLine path text e

-- the derivation of a text
abbrev pub proof_said : (path text : List ℕ) → Input Proof
proof_said path text = answer (IsProofOf path text)

-- the derivation of a derivation file
abbrev pub proof_at : List ℕ → Input Proof
proof_at path = large_file path >>= proof_said path

-- the problem of the derivation's region accepts its steps
pub record IsAccepted (r : ResolutionFields) (x : Proof) (a : Result Answer Refused) : Type 0 where
  pub problem : Problem
  pub of_region : IsProblemIn r x.region problem
  pub accepts : AcceptsNames problem x.steps
  pub is : a ≡ Ok accepted

-- the derivation has a first bad step for the problem of its region
pub record IsRejected (r : ResolutionFields) (x : Proof) (a : Result Answer Refused) : Type 0 where
  pub problem : Problem
  pub of_region : IsProblemIn r x.region problem
  pub step : ℕ
  pub first : IsFirstBad problem x.steps step
  pub is : a ≡ Ok (rejected step)

-- the answer of `check` to a resolution and a derivation
abbrev pub IsCheckAnswer : ResolutionFields → Proof → Result Answer Refused → Type 0
IsCheckAnswer r x a = IsAccepted r x a ⊎ IsRejected r x a

-- the answer that a judgement of the code gives; want of memory where that ended it
abbrev pub answer_of : Result (Unit {0}) AcceptFault → Result AnswerToPrint AllocError
answer_of (Ok x) = Ok Accepted
answer_of (Err (StepFault step)) = Ok (Rejected step)
answer_of (Err NoMemoryToJudge) = Err alloc_error

-- the answer to a derivation, for a project with the documents of an index folder
abbrev pub check_with : (folder : List ℕ) → ProjectFields → Proof → Input Answer
check_with folder p x = resolution_with folder p [] >>= λ r. answer (IsCheckAnswer r x)

-- the answer to the derivation of a derivation file, for a project
abbrev pub check_on : (folder derivation : List ℕ) → ProjectFields → Input Answer
check_on folder derivation p = proof_at derivation >>= check_with folder p
