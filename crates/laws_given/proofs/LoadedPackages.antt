-- A package that is loaded is a document's, or has no releases.
use Rattle.std.proofs.Common.{◌≡◌, ℕ, ◌+◌, List, Bool, true, false, cond, length, nat_lt, Option, Some, None, Result, Ok, Err, refl, ap, subst}
use Rattle.ul_files.specs.Files.{FileMap, content}
use Rattle.ul_requirement.specs.Fields.{PackageFields}
use Rattle.ul_index.specs.Documents.{DocumentFault, document_of}
use Rattle.ul_load.specs.Loading.{Found, ◌>>=◌, document_answer, document_path, file_content, no_package, package_at, package_from, too_many_bytes, total_bytes}

went_on : {A B : Type 0} (first : Found A) (next : A → Found B) (y : B) → (first >>= next) ≡ Ok y
    → (x : A) × (first ≡ Ok x) × (next x ≡ Ok y)
went_on (Ok x) next y e = (x, refl, e)
went_on (Err f) next y e = absurd (cc e)

same_ok : {A : Type 0} (x y : A) → (let r : Found A = Ok x in r) ≡ Ok y → x ≡ y
same_ok x y e = cc

answer_is : (path : List ℕ) (r : Result PackageFields DocumentFault) (p : PackageFields)
    → document_answer path r ≡ Ok p → r ≡ Ok p
answer_is path (Ok q) p e = ap (λ (x : PackageFields). Ok x) (same_ok q p e)
answer_is path (Err f) p e = absurd (cc e)

-- what is true of a name without a document, and of each document that is read for the name
module _ (P : PackageFields → Type 0) (name : List ℕ) (none : P (no_package name))
    (each : (bytes : List ℕ) (p : PackageFields) → document_of name bytes ≡ Ok p → P p) where
  from_text : (path : List ℕ) (size : ℕ) (bytes : List ℕ) (b : Bool) (p : ℕ × PackageFields)
      → cond b (Err too_many_bytes) (document_answer path (document_of name bytes) >>= λ q. Ok (size, q)) ≡ Ok p
      → P p.1
  from_text path size bytes true p e = absurd (cc e)
  from_text path size bytes false p e =
      let found = went_on (document_answer path (document_of name bytes)) (λ q. Ok (size, q)) p e in
      subst (λ (x : ℕ × PackageFields). P x.1) (same_ok (size, found.0) p found.2)
      (each bytes found.0 (answer_is path (document_of name bytes) found.0 found.1))

  from_content : (path : List ℕ) (before : ℕ) (o : Option (List ℕ)) (p : ℕ × PackageFields)
      → package_from path name before o ≡ Ok p → P p.1
  from_content path before None p e =
      subst (λ (x : ℕ × PackageFields). P x.1) (same_ok (0, no_package name) p e) none
  from_content path before (Some bytes) p e =
      from_text path (length bytes) bytes (nat_lt total_bytes (before + length bytes)) p e

  -- is true of each package that is loaded for it
  pub package_has : (m : FileMap) (folder : List ℕ) (before : ℕ) (p : ℕ × PackageFields)
      → package_at m folder name before ≡ Ok p → P p.1
  unfolding package_at
  package_has m folder before p e =
      let path = document_path folder name in
      let found = went_on (file_content path (content m path)) (package_from path name before) p e in
      from_content path before found.0 p found.2
