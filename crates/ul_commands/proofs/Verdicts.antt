-- What the judge of a lock answers, as the answer of `verify`.
use Rattle.std.proofs.Common.{◌≡◌, ℕ, List, Result, Ok, Err, IfOk, refl, inl, inr}
use Rattle.std.specs.declared.alloc.AllocError.{AllocError}
use Rattle.ul_version.specs.Fields.{Fields}
use Rattle.ul_lock.specs.declared.parts.Lock.{Lock}
use Rattle.ul_verified.specs.Verified.{IsRoot, IsVerified}
use Rattle.ul_verify.specs.Headline.{IsWrong, VerifyAnswer}
use Rattle.ul_verify.specs.declared.fault.VerifyFault.{VerifyFault}
use Rattle.ul_verify.specs.declared.fault.VerifyFault.TheVariants.{Root, Supported, Package, NoMemory}
use Rattle.ul_inputs.specs.Resolutions.{ResolutionFields}
use Rattle.ul_answers.specs.Answer.{verified, rejected_package, rejected_root, rejected_supported}
use Rattle.ul_answers.specs.Views.{view}
use Rattle.ul_answers.specs.declared.answer.Answer.{Answer}
use Rattle.ul_commands.specs.Verifying.{IsVerifyAnswer, answer_of}

module _ (r : ResolutionFields) (l : Lock) where
  verified_answer : IsVerified r.catalog r.project l → IsVerifyAnswer r l (Ok verified)
  verified_answer h = inl (record { verified = h; is = refl })

  root_answer : (IsRoot r.project l → ⊥) → IsVerifyAnswer r l (Ok rejected_root)
  root_answer h = inr (inl (record { other = h; is = refl }))

  worlds_answer : IsRoot r.project l × (l.supported ≡ r.project.region → ⊥) → IsVerifyAnswer r l (Ok rejected_supported)
  worlds_answer h = inr (inr (inl (record { root = h.0; others = h.1; is = refl })))

  package_answer : (name : List ℕ) (version : Fields) → IsWrong r.catalog r.project l name version → IsVerifyAnswer r l (Ok (rejected_package name version))
  package_answer name version h = inr (inr (inr (record { name = name; version = version; wrong = h; is = refl })))

  -- so each judgement of the code gives an answer of `verify`, or want of memory
  pub judged_answer : (judgement : Result (Unit {0}) VerifyFault) (out : Result Answer AllocError) → VerifyAnswer r.catalog r.project l judgement
      → out ≡ answer_of judgement → IfOk out (λ a. IsVerifyAnswer r l (Ok (view a)))
  judged_answer (Ok x) out h is = rw is (verified_answer h)
  judged_answer (Err Root) out h is = rw is (root_answer h)
  judged_answer (Err Supported) out h is = rw is (worlds_answer h)
  judged_answer (Err (Package name version)) out h is = rw is (package_answer name version h)
  judged_answer (Err NoMemory) out h is = rw is tt
