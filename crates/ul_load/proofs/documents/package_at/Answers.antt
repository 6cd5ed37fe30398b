use Rattle.std.proofs.Common.{◌≡◌, ◌∙◌, [], ◌∷◌, arith, refl}
use Rattle.std.proofs.lemmas.Result.{err_from_is_err_and}
use Rattle.ul_files.specs.Files.{content}
use Rattle.ul_load.specs.Loading.{file_content, document_path, package_at, package_from}
use Rattle.ul_load.proofs.DocumentSteps.{step_gives, step_refuses}
use Rattle.ul_load.proofs.FaultCauses.{no_failed_path, same_count}
use Rattle.ul_load.proofs.ReadOnce.{each_first, first_of_none, on_ok}
use Rattle.ul_load.proofs.documents.package_at.Goals as goal

pub returns-in_err-found-clause-told : goal.returns-in_err-found-clause-told
unfolding package_at
returns-in_err-found-clause-told g c m a =
    let path = document_path c.args.folder.now c.args.name.now in
    let path_is : c.as_str.result.now ≡ path = c.as_str.ensures.value ∙ c.in_ok-path.ensures in
    let p = err_from_is_err_and c.from_residual-in_err-found.result c.from_residual-in_err-found.ensures.1 in
    rw (p.1, p.2) (step_refuses _ (file_content path (content m path)) (package_from path c.args.name.now c.args.before) (rw path_is at (c.in_err-found.ensures.told m a)))

pub returns-clause-told : goal.returns-clause-told
unfolding package_at
returns-clause-told g c m a =
    let path = document_path c.args.folder.now c.args.name.now in
    let path_is : c.as_str.result.now ≡ path = c.as_str.ensures.value ∙ c.in_ok-path.ensures in
    let again : c.as_str-2.result.now ≡ path = c.as_str-2.ensures.value ∙ c.in_ok-path.ensures in
    step_gives (λ p. p) c.package_of.result (file_content path (content m path)) (package_from path c.args.name.now c.args.before) _
    (rw path_is at (c.in_ok-found.ensures.told m a)) (rw again at c.package_of.ensures.told)

pub returns-in_err-path-clause-told : goal.returns-in_err-path-clause-told
returns-in_err-path-clause-told g c m a =
    let p = err_from_is_err_and c.from_residual.result c.from_residual.ensures.1 in
    rw (p.1, p.2) tt

pub returns-in_err-path-clause-cause : goal.returns-in_err-path-clause-cause
returns-in_err-path-clause-cause g c =
    let p = err_from_is_err_and c.from_residual.result c.from_residual.ensures.1 in
    rw (p.1, p.2) (omega arith)

pub returns-in_err-found-clause-same : goal.returns-in_err-found-clause-same
returns-in_err-found-clause-same g c = c.in_err-found.ensures.same

pub returns-in_err-found-clause-failed : goal.returns-in_err-found-clause-failed
returns-in_err-found-clause-failed g c =
    let p = err_from_is_err_and c.from_residual-in_err-found.result c.from_residual-in_err-found.ensures.1 in
    let path_is : c.as_str.result.now ≡ document_path c.args.folder.now c.args.name.now = c.as_str.ensures.value ∙ c.in_ok-path.ensures in
    rw (p.1, p.2) (rw path_is at c.in_err-found.ensures.failed)

pub returns-clause-same : goal.returns-clause-same
returns-clause-same g c = c.in_ok-found.ensures.same

pub returns-clause-cause : goal.returns-clause-cause
returns-clause-cause g c = same_count _ _ _ c.package_of.result c.in_ok-found.ensures.cause c.package_of.ensures.bytes

pub returns-clause-failed : goal.returns-clause-failed
returns-clause-failed g c = no_failed_path c.package_of.result _ c.package_of.ensures.bytes

pub returns-clause-next : goal.returns-clause-next
returns-clause-next g c = c.package_of.ensures.next

pub returns-in_err-path-clause-reads : goal.returns-in_err-path-clause-reads
returns-in_err-path-clause-reads g c = first_of_none _ (document_path c.args.folder.now c.args.name.now ∷ [])

pub returns-in_err-found-clause-reads : goal.returns-in_err-found-clause-reads
returns-in_err-found-clause-reads g c =
    let path = document_path c.args.folder.now c.args.name.now in
    let path_is : c.as_str.result.now ≡ path = c.as_str.ensures.value ∙ c.in_ok-path.ensures in
    each_first _ _ (path ∷ []) [] (path ∷ []) refl (rw path_is at c.in_err-found.ensures.reads)

pub returns-clause-reads : goal.returns-clause-reads
returns-clause-reads g c =
    let path = document_path c.args.folder.now c.args.name.now in
    let path_is : c.as_str.result.now ≡ path = c.as_str.ensures.value ∙ c.in_ok-path.ensures in
    each_first _ _ (path ∷ []) [] (path ∷ []) refl (rw path_is at c.in_ok-found.ensures.reads)

pub returns-clause-each : goal.returns-clause-each
returns-clause-each g c =
    let path_is : c.as_str.result.now ≡ document_path c.args.folder.now c.args.name.now = c.as_str.ensures.value ∙ c.in_ok-path.ensures in
    on_ok c.package_of.result _ (rw path_is at c.in_ok-found.ensures.reads)
