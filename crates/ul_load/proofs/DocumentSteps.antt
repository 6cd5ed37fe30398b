-- One document, and what its definition says of it.
use Rattle.std.proofs.Common.{◌≡◌, ℕ, List, Option, Some, None, IfSome, Result, Ok, Err, Vec, Global, cond, length, ap, ◌∙◌}
use Rattle.std.specs.Option.{option_map}
use Rattle.ul_files.specs.Files.{FileMap, Tells, content}
use Rattle.ul_requirement.specs.Fields.{PackageFields}
use Rattle.ul_index.specs.Documents.{DocumentFault}
use Rattle.ul_load.specs.Faults.{Gives, fault_of}
use Rattle.ul_load.specs.Loading.{Fault, Found, ◌>>=◌, document_answer, file_bytes, file_content, too_long}
use Rattle.ul_load.specs.declared.fault.LoadFault.{LoadFault}
use Rattle.ul_files.specs.declared.files.ReadRefused.TheVariants as read
use Rattle.ul_load.proofs.Limits.{is_below, is_past}

-- a fact on an option, from another
pub some_fault : {X : Type 0} (o : Option X) (P Q : X → Type 0) → ((p : X) → P p → Q p) → IfSome o P → IfSome o Q
some_fault None P Q w h = tt
some_fault (Some p) P Q w h = w p h

-- a step that found a fault ends the definition
pub step_refuses : {A B : Type 0} (o : Option Fault) (d : Found A) (f : A → Found B) → IfSome o (λ x. d ≡ Err x) → IfSome o (λ x. (d >>= f) ≡ Err x)
step_refuses o d f h = some_fault o _ _ (λ x same. ap (λ r. r >>= f) same) h

-- after a step that went well, the next decides
pub step_went : {A B : Type 0} (d : Found A) (f : A → Found B) (a : A) → d ≡ Ok a → (d >>= f) ≡ f a
step_went d f a e = ap (λ r. r >>= f) e

-- a last step, returned as it is
pub step_gives : {T A B : Type 0} (view : T → B) (r : Result T LoadFault) (d : Found A) (f : A → Found B) (a : A)
    → d ≡ Ok a → Gives view r (f a) → Gives view r (d >>= f)
step_gives view (Ok x) d f a went h = step_went d f a went ∙ h
step_gives view (Err e) d f a went h = some_fault (fault_of e) _ _ (λ x same. step_went d f a went ∙ same) h

-- a document that is read
pub document_read : (path : List ℕ) (r : Result PackageFields DocumentFault) (p : PackageFields) → document_answer path r ≡ Ok p → r ≡ Ok p
document_read path (Ok q) p h = let same : q ≡ p = cc in ap Ok same
document_read path (Err f) p h = cc

-- a file that is read, or isn't there
pub file_read : (m : FileMap) (path : List ℕ) (found : Option (Vec ℕ Global)) → Tells m path file_bytes (Ok found) → file_content path (content m path) ≡ Ok (option_map (λ v. v.items) found)
file_read m path None h = ap (file_content path) h
file_read m path (Some bytes) h =
    ap (file_content path) h.0 ∙ ap (λ b. cond b (Err (too_long path)) (Ok (Some bytes.items))) (is_past file_bytes (length bytes.items) h.1)

-- a file that is longer than its limit
pub file_long : (m : FileMap) (path : List ℕ) → Tells m path file_bytes (Err read.TooLong) → file_content path (content m path) ≡ Err (too_long path)
file_long m path h =
    ap (file_content path) h.1 ∙ ap (λ b. cond b (Err (too_long path)) (Ok (Some h.0))) (is_below file_bytes (length h.0) h.2)
