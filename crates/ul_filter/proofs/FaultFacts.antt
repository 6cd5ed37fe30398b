-- The fault of an extra that the root doesn't have is an answer of the walk.
use Rattle.std.proofs.Common.{◌≡◌, ℕ, List, Vec, Global, Result, Ok, Err, Some, IfOk, true, ap, sym, subst, ◌∙◌}
use Rattle.std.specs.Result.{IsErrAnd}
use Rattle.std.specs.declared.alloc.AllocError.{AllocError}
use Rattle.ul_comparison.specs.Worlds.{WorldFields}
use Rattle.ul_lock.specs.declared.parts.Lock.{Lock}
use Rattle.ul_lock_nodes.specs.Roots.{first_unknown}
use Rattle.ul_filter.specs.Headline.{EnvironmentAnswer, TextAnswer, WalkAnswer, is_supported_at, unknown_extra}
use Rattle.ul_filter.specs.declared.picks.WalkFault.{WalkFault}
use Rattle.ul_filter.specs.declared.picks.WalkFault.TheVariants.{Outside, NoExtra, NoMemory}

pub unknown_told : (l : Lock) (w : WorldFields) (xs : List (List ℕ)) (x : List ℕ) (name : Result (List ℕ) AllocError) (fault : WalkFault)
    → is_supported_at l w ≡ true → first_unknown l xs ≡ Some x → IfOk name (λ n. n ≡ x) → fault ≡ unknown_extra name
    → WalkAnswer l w xs (Err fault)
unknown_told l w xs x (Ok n) fault supported first same is = rw is (supported, first ∙ ap Some (sym same))
unknown_told l w xs x (Err e) fault supported first same is = rw is supported

fault_told : (l : Lock) (w : WorldFields) (xs : List (List ℕ)) (fault : WalkFault) → TextAnswer l w xs (Err fault) → EnvironmentAnswer l w xs (Err fault)
fault_told l w xs Outside h = h
fault_told l w xs (NoExtra x) h = h
fault_told l w xs NoMemory h = tt

pub fault_handed_on : (l : Lock) (w v : WorldFields) (xs : List (List ℕ)) (fault : WalkFault) (r : Result (Vec ℕ Global) WalkFault)
    → v ≡ w → TextAnswer l v xs (Err fault) → IsErrAnd r (λ e. e ≡ fault) → EnvironmentAnswer l w xs r
fault_handed_on l w v xs fault (Ok text) same h is = absurd is
fault_handed_on l w v xs fault (Err e) same h is = rw is (subst (λ u. EnvironmentAnswer l u xs (Err fault)) same (fault_told l v xs fault h))
