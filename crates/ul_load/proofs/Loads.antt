-- The exits of loading.
use Rattle.std.proofs.Common.{◌≡◌, ℕ, List, Bool, false, IfSome, IsTrue, Ok, Err, subst, arith}
use Rattle.std.specs.Prelude.{◌↔◌}
use Rattle.ul_files.specs.Files.{FileMap}
use Rattle.ul_load.specs.Faults.{IsOfBytes, LoadGives, failed_path, fault_of}
use Rattle.ul_load.specs.Loading.{Beginning, LoadAnswer, ProgressFields, document_path, first_progress, most_packages, next_name, next_progress, within}
use Rattle.ul_load.specs.Progressing.{HasNext, IsLoading, IsProgress}
use Rattle.ul_load.specs.declared.fault.LoadFault.{LoadFault}
use Rattle.ul_load.proofs.DocumentSteps.{some_fault}
use Rattle.ul_load.proofs.Ends.{ends_from}
use Rattle.ul_load.proofs.FaultCauses.{no_path}
use Rattle.ul_load.proofs.Turns.{first_refused, loaded, reads_next, refused}

-- the project itself refused
pub begin_refuses : (m : FileMap) (folder : List ℕ) (b : Beginning) (e : LoadFault) → IfSome (fault_of e) (λ f. within (first_progress b) ≡ Err f) → IsOfBytes e
    → LoadGives m folder b (Err e)
begin_refuses m folder b e told bytes = (some_fault (fault_of e) _ _ (λ f is. first_refused m folder b f is) told, no_path e _ bytes)

not_next : (s : ProgressFields) (more : Bool) → (IsTrue more ↔ HasNext s) → more ≡ false → HasNext s → ⊥
not_next s more h e next = let yes : IsTrue false = subst IsTrue e (h.1 next) in cc

-- each name has its package
pub loaded_whole : (m : FileMap) (folder : List ℕ) (b : Beginning) (paths : List (List ℕ)) (s : ProgressFields) (more : Bool)
    → (IsTrue more ↔ HasNext s) → more ≡ false → IsLoading m folder b paths s → LoadAnswer m folder b (Ok s.packages)
loaded_whole m folder b paths s more h e kept =
    let no : HasNext s → ⊥ = not_next s more h e in
    loaded m folder b paths s (omega (arith, no)) kept

-- a turn refused
pub follow_refuses : (m : FileMap) (folder : List ℕ) (b : Beginning) (paths : List (List ℕ)) (s : ProgressFields) (e : LoadFault) → IsProgress s → HasNext s
    → IfSome (fault_of e) (λ f. next_progress m folder s ≡ Err f) → IfSome (failed_path e) (λ p. p ≡ document_path folder (next_name s))
    → IsLoading m folder b paths s → LoadGives m folder b (Err e)
follow_refuses m folder b paths s e progress next told failed kept =
    let end = ends_from m folder most_packages s (omega arith) progress.names in (
      some_fault (fault_of e) _ _ (λ f is. refused m folder b paths s f next is kept) told,
      some_fault (failed_path e) _ _ (λ p is. rw is (reads_next m folder b paths end.0 s end.1 next end.2 kept)) failed,
    )
