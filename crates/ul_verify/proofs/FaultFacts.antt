-- The fault of the first package that isn't right is an answer of the judge.
use Rattle.std.proofs.Common.{◌≡◌, ℕ, List, Result, Ok, Err, IfOk}
use Rattle.std.specs.declared.alloc.AllocError.{AllocError}
use Rattle.ul_version.specs.Fields.{Fields}
use Rattle.ul_index.specs.Catalogs.{Packages}
use Rattle.ul_project.specs.Fields.{ProjectFields}
use Rattle.ul_lock.specs.declared.parts.Lock.{Lock}
use Rattle.ul_lock.specs.declared.parts.Locked.{Locked}
use Rattle.ul_verified.specs.Verified.{IsRoot}
use Rattle.ul_verify.specs.Headline.{IsFirstWrong, VerifyAnswer, package_fault}
use Rattle.ul_verify.specs.declared.fault.VerifyFault.{VerifyFault}

pub wrong_told : (c : Packages) (p : ProjectFields) (l : Lock) (b : Locked) (told : Result (List ℕ × Fields) AllocError) (fault : VerifyFault)
    → IsRoot p l → l.supported ≡ p.region → IsFirstWrong c p l b → IfOk told (λ t. (t.0 ≡ b.name) × (t.1 ≡ b.version)) → fault ≡ package_fault told
    → VerifyAnswer c p l (Err fault)
wrong_told c p l b (Ok t) fault root supported first same is =
    rw is (record { root = root; supported = supported; block = b; first = first; named = same.0; at = same.1 })
wrong_told c p l b (Err e) fault root supported first same is = rw is (root, supported)
