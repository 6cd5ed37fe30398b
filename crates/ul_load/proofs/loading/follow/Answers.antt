use Rattle.std.proofs.Common.{ℕ, arith}
use Rattle.std.proofs.lemmas.Result.{err_from_is_err_and}
use Rattle.ul_requirement.specs.Fields.{PackageFields}
use Rattle.ul_load.specs.Loading.{next_name, package_at, progress_with, within}
use Rattle.ul_load.specs.Views.{progress_view}
use Rattle.ul_load.proofs.DocumentSteps.{step_gives, step_refuses}
use Rattle.ul_load.proofs.FaultCauses.{cause_on, no_failed_path, same_count}
use Rattle.ul_load.proofs.ReadOnce.{first_of_none, on_ok}
use Rattle.ul_load.proofs.loading.follow.Goals as goal

pub returns-in_err-name-clause-told : goal.returns-in_err-name-clause-told
returns-in_err-name-clause-told g c m a =
    let p = err_from_is_err_and c.from_residual.result c.from_residual.ensures.1 in
    rw (p.1, p.2) tt

pub returns-in_err-name-clause-cause : goal.returns-in_err-name-clause-cause
returns-in_err-name-clause-cause g c =
    let p = err_from_is_err_and c.from_residual.result c.from_residual.ensures.1 in
    rw (p.1, p.2) (omega arith)

pub package_at-requires : goal.package_at-requires
package_at-requires g c = c.requires.kept.bytes

pub returns-in_err-found-clause-told : goal.returns-in_err-found-clause-told
returns-in_err-found-clause-told g c m a =
    let s = progress_view c.args.progress.now in
    let p = err_from_is_err_and c.from_residual-in_err-found.result c.from_residual-in_err-found.ensures.1 in
    rw (p.1, p.2) (step_refuses _ (package_at m c.args.folder.now (next_name s) s.bytes) (λ found. within (progress_with s found)) (rw c.in_ok-name.ensures at (c.in_err-found.ensures.told m a)))

pub returns-in_err-found-clause-same : goal.returns-in_err-found-clause-same
returns-in_err-found-clause-same g c = c.in_err-found.ensures.same

pub returns-in_err-found-clause-cause : goal.returns-in_err-found-clause-cause
returns-in_err-found-clause-cause g c =
    let p = err_from_is_err_and c.from_residual-in_err-found.result c.from_residual-in_err-found.ensures.1 in
    rw (p.1, p.2) (cause_on (ℕ × PackageFields) (Unit {0}) _ _ _ c.in_err-found.field-0.0 c.in_err-found.ensures.cause)

pub returns-in_err-found-clause-failed : goal.returns-in_err-found-clause-failed
returns-in_err-found-clause-failed g c =
    let p = err_from_is_err_and c.from_residual-in_err-found.result c.from_residual-in_err-found.ensures.1 in
    rw (p.1, p.2) (rw c.in_ok-name.ensures at c.in_err-found.ensures.failed)

pub add-requires-clause-next : goal.add-requires-clause-next
add-requires-clause-next g c = c.requires.next

pub add-requires-clause-is : goal.add-requires-clause-is
add-requires-clause-is g c = rw c.in_ok-name.ensures at c.in_ok-found.ensures.next

pub returns-clause-told : goal.returns-clause-told
returns-clause-told g c m a =
    let s = progress_view c.args.progress.now in
    step_gives (λ u. progress_view c.add.new.self) c.add.result (package_at m c.args.folder.now (next_name s) s.bytes) (λ found. within (progress_with s found)) c.in_ok-found.found
    (rw c.in_ok-name.ensures at (c.in_ok-found.ensures.told m a)) c.add.ensures.told

pub returns-clause-same : goal.returns-clause-same
returns-clause-same g c = c.in_ok-found.ensures.same

pub returns-clause-cause : goal.returns-clause-cause
returns-clause-cause g c = same_count _ _ _ c.add.result c.in_ok-found.ensures.cause c.add.ensures.bytes

pub returns-clause-failed : goal.returns-clause-failed
returns-clause-failed g c = no_failed_path c.add.result _ c.add.ensures.bytes

pub returns-clause-kept : goal.returns-clause-kept
returns-clause-kept g c = c.add.ensures.kept

pub returns-clause-first : goal.returns-clause-first
returns-clause-first g c = c.add.ensures.first

pub returns-clause-one : goal.returns-clause-one
returns-clause-one g c = c.add.ensures.one

pub returns-in_err-name-clause-reads : goal.returns-in_err-name-clause-reads
returns-in_err-name-clause-reads g c = first_of_none _ _

pub returns-in_err-found-clause-reads : goal.returns-in_err-found-clause-reads
returns-in_err-found-clause-reads g c = rw c.in_ok-name.ensures at c.in_err-found.ensures.reads

pub returns-clause-reads : goal.returns-clause-reads
returns-clause-reads g c = rw c.in_ok-name.ensures at c.in_ok-found.ensures.reads

pub returns-clause-each : goal.returns-clause-each
returns-clause-each g c = on_ok c.add.result _ (rw c.in_ok-name.ensures at c.in_ok-found.ensures.each)
