-- Faults that name a path: what they say of a read and of a document, with the path or without the memory for it.
use Rattle.std.proofs.Common.{◌≡◌, ◌∙◌, ℕ, List, Option, IfSome, Result, Ok, Err, IfOk, Global, String, string_bytes, ap, sym, subst, arith}
use Rattle.std.specs.declared.alloc.AllocError.{AllocError}
use Rattle.ul_files.specs.Files.{FileMap, ReadCause, Tells, content}
use Rattle.ul_files.specs.declared.files.ReadRefused.{ReadRefused}
use Rattle.ul_files.specs.declared.files.ReadRefused.TheVariants as read
use Rattle.ul_requirement.specs.Fields.{PackageFields}
use Rattle.ul_index.specs.Documents.{DocumentFault, not_json, shape, wrong_name}
use Rattle.ul_index.specs.Answers as documents
use Rattle.ul_index.specs.declared.fault.IndexFault.{IndexFault}
use Rattle.ul_index.specs.declared.fault.IndexFault.TheVariants as index
use Rattle.ul_load.specs.Faults.{Cause, FailedAt, Gives, IsOfBytes, fault_of_document, fault_of_read}
use Rattle.ul_load.specs.Loading.{document, document_answer, file_bytes, file_content, too_long}
use Rattle.ul_load.specs.declared.fault.LoadFault.{LoadFault}
use Rattle.ul_load.proofs.DocumentSteps.{file_long}

-- a path that was copied, if there was memory for it
abbrev pub Copied : Type 0
Copied = Result (String Global) AllocError

module _ (path : List ℕ) where
  -- what the fault of a file that isn't read says
  pub read_gives : {A : Type 0} (view : A → Option (List ℕ)) (m : FileMap) (refused : ReadRefused) (copied : Copied) (e : LoadFault)
      → Tells m path file_bytes (Err refused) → IfOk copied (λ t. string_bytes t ≡ path) → e ≡ fault_of_read copied refused
      → Gives view (Err e) (file_content path (content m path))
  read_gives view m read.TooLong (Ok t) e h same is = rw is (file_long m path h ∙ ap (λ p. Err (too_long p)) (sym same))
  read_gives view m read.TooLong (Err x) e h same is = rw is tt
  read_gives view m read.Failed (Ok t) e h same is = rw is tt
  read_gives view m read.Failed (Err x) e h same is = rw is tt
  read_gives view m read.NoMemory copied e h same is = rw is tt

  -- when it comes
  pub read_cause : (A : Type 0) (before now : ℕ) (had last : Option (List ℕ)) (refused : ReadRefused) (copied : Copied) (e : LoadFault)
      → ReadCause before now had last path (Err refused) → IfOk copied (λ t. string_bytes t ≡ path) → e ≡ fault_of_read copied refused
      → Cause {T = A} before now last (Err e)
  read_cause A before now had last read.TooLong (Ok t) e h same is = rw is h.0
  read_cause A before now had last read.TooLong (Err x) e h same is = rw is (omega (arith, h.0))
  read_cause A before now had last read.Failed (Ok t) e h same is =
      rw is (h.0, h.1, λ p found. same ∙ sym (subst (λ o. IfSome o (λ q. q ≡ path)) found h.2))
  read_cause A before now had last read.Failed (Err x) e h same is = rw is h.1
  read_cause A before now had last read.NoMemory copied e h same is = rw is (omega (arith, h.0))

  -- and of which path
  pub read_failed : (A : Type 0) (refused : ReadRefused) (copied : Copied) (e : LoadFault) → IfOk copied (λ t. string_bytes t ≡ path)
      → e ≡ fault_of_read copied refused → FailedAt {T = A} (λ p. p ≡ path) (Err e)
  read_failed A read.TooLong (Ok t) e same is = rw is tt
  read_failed A read.TooLong (Err x) e same is = rw is tt
  read_failed A read.Failed (Ok t) e same is = rw is same
  read_failed A read.Failed (Err x) e same is = rw is tt
  read_failed A read.NoMemory copied e same is = rw is tt

  -- what the fault of a document says
  pub document_gives : {A : Type 0} (view : A → PackageFields) (answer : Result PackageFields DocumentFault) (fault : IndexFault) (copied : Copied) (e : LoadFault)
      → documents.Gives view (Err fault) answer → IfOk copied (λ t. string_bytes t ≡ path) → e ≡ fault_of_document copied fault
      → Gives view (Err e) (document_answer path answer)
  document_gives view answer index.NotJson (Ok t) e h same is = rw is (ap (document_answer path) h ∙ ap (λ p. Err (document p not_json)) (sym same))
  document_gives view answer (index.Shape place) (Ok t) e h same is = rw is (ap (document_answer path) h ∙ ap (λ p. Err (document p (shape place))) (sym same))
  document_gives view answer index.WrongName (Ok t) e h same is = rw is (ap (document_answer path) h ∙ ap (λ p. Err (document p wrong_name)) (sym same))
  document_gives view answer index.NotJson (Err x) e h same is = rw is tt
  document_gives view answer (index.Shape place) (Err x) e h same is = rw is tt
  document_gives view answer index.WrongName (Err x) e h same is = rw is tt
  document_gives view answer index.NoMemory copied e h same is = rw is tt

-- it is a fault of bytes
pub document_of_bytes : (fault : IndexFault) (copied : Copied) (e : LoadFault) → e ≡ fault_of_document copied fault → IsOfBytes e
document_of_bytes index.NotJson (Ok t) e is = rw is tt
document_of_bytes (index.Shape place) (Ok t) e is = rw is tt
document_of_bytes index.WrongName (Ok t) e is = rw is tt
document_of_bytes index.NotJson (Err x) e is = rw is tt
document_of_bytes (index.Shape place) (Err x) e is = rw is tt
document_of_bytes index.WrongName (Err x) e is = rw is tt
document_of_bytes index.NoMemory copied e is = rw is tt
