-- What `verify` answers: whether a lock is verified for a project and an index; if it isn't, the first part of it that fails.
use Rattle.std.specs.Prelude.{◌≡◌, ◌⊎◌, ℕ, List, [], Result, Ok, Err, alloc_error}
use Rattle.std.specs.declared.alloc.AllocError.{AllocError}
use Rattle.ul_version.specs.Fields.{Fields}
use Rattle.ul_project.specs.Fields.{ProjectFields}
use Rattle.ul_lock.specs.declared.parts.Lock.{Lock}
use Rattle.ul_verified.specs.Verified.{IsRoot, IsVerified}
use Rattle.ul_verify.specs.Headline.{IsWrong}
use Rattle.ul_verify.specs.declared.fault.VerifyFault.{VerifyFault}
use Rattle.ul_verify.specs.declared.fault.VerifyFault.TheVariants.{Root, Supported, Package, NoMemory}
use Rattle.ul_inputs.specs.Inputs.{Input, ◌>>=◌, answer}
use Rattle.ul_inputs.specs.Locks.{lock_at}
use Rattle.ul_inputs.specs.Refused.{Refused}
use Rattle.ul_inputs.specs.Resolutions.{ResolutionFields, resolution_with}
use Rattle.ul_answers.specs.Answer as answers
use Rattle.ul_answers.specs.Answer.{Answer, rejected_package, rejected_root, rejected_supported}
use Rattle.ul_answers.specs.declared.answer.Answer.{Answer as AnswerToPrint}
use Rattle.ul_answers.specs.declared.answer.Answer.TheVariants.{Verified, RejectedRoot, RejectedSupported, RejectedPackage}

-- the lock is verified for the project and the catalog
pub record IsVerifiedLock (r : ResolutionFields) (l : Lock) (a : Result Answer Refused) : Type 0 where
  pub verified : IsVerified r.catalog r.project l
  pub is : a ≡ Ok answers.verified

-- its root isn't the project's
pub record IsRejectedForRoot (r : ResolutionFields) (l : Lock) (a : Result Answer Refused) : Type 0 where
  pub other : IsRoot r.project l → ⊥
  pub is : a ≡ Ok rejected_root

-- its root is, but it isn't for the worlds that the project supports
pub record IsRejectedForWorlds (r : ResolutionFields) (l : Lock) (a : Result Answer Refused) : Type 0 where
  pub root : IsRoot r.project l
  pub others : l.supported ≡ r.project.region → ⊥
  pub is : a ≡ Ok rejected_supported

-- both are, but one of its packages isn't right; this is the first
pub record IsRejectedForPackage (r : ResolutionFields) (l : Lock) (a : Result Answer Refused) : Type 0 where
  pub name : List ℕ
  pub version : Fields
  pub wrong : IsWrong r.catalog r.project l name version
  pub is : a ≡ Ok (rejected_package name version)

-- the answer of `verify` to a resolution and a lock
abbrev pub IsVerifyAnswer : ResolutionFields → Lock → Result Answer Refused → Type 0
IsVerifyAnswer r l a =
    IsVerifiedLock r l a ⊎ (IsRejectedForRoot r l a ⊎ (IsRejectedForWorlds r l a ⊎ IsRejectedForPackage r l a))

-- the answer that a judgement of the code gives; want of memory where that ended it
abbrev pub answer_of : Result (Unit {0}) VerifyFault → Result AnswerToPrint AllocError
answer_of (Ok x) = Ok Verified
answer_of (Err Root) = Ok RejectedRoot
answer_of (Err Supported) = Ok RejectedSupported
answer_of (Err (Package name version)) = Ok (RejectedPackage name version)
answer_of (Err NoMemory) = Err alloc_error

-- the answer to a lock, for a project with the documents of an index folder
abbrev pub verify_with : (folder : List ℕ) → ProjectFields → Lock → Input Answer
verify_with folder p l = resolution_with folder p [] >>= λ r. answer (IsVerifyAnswer r l)

-- the answer to the lock of a lock file, for a project
abbrev pub verify_on : (folder lock : List ℕ) → ProjectFields → Input Answer
verify_on folder path p = lock_at path >>= verify_with folder p
