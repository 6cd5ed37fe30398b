use Rattle.std.proofs.Common.{ℕ, Bool, List}
use Rattle.std.specs.Borrow.{Bor}
use Rattle.std.specs.declared.alloc.Global.{Global}
use Rattle.serde_json.specs.View.{view}
use Rattle.ul_index.specs.Answers.{files_view, requirements_of_values, text_view}
use Rattle.ul_index.proofs.EntryParts as parts
use Rattle.ul_index.proofs.Faults.{handed_on}
use Rattle.ul_index.proofs.entries.entry_at.Goals as goal

pub returns-in_err-object_at : goal.returns-in_err-object_at
returns-in_err-object_at c =
    handed_on (λ (_ : Unit {0}). tt) (λ e. e) c.in_err-object_at.field-0.0 c.from_residual.result _ _ c.from_residual.ensures.1
    (λ f e. parts.object-fault c.args.index (view c.args.value.now) f e) c.in_err-object_at.ensures

pub returns-in_err-version : goal.returns-in_err-version
returns-in_err-version c =
    handed_on (λ (s : Bor (List ℕ)). s.now) (λ e. e) c.in_err-version.field-0.0 c.from_residual-in_err-version.result _ _ c.from_residual-in_err-version.ensures.1
    (λ f e. parts.version-fault c.args.index (view c.args.value.now) c.in_ok-object_at.ensures f e) (rw c.get.ensures at c.in_err-version.ensures)

pub returns-in_err-python : goal.returns-in_err-python
returns-in_err-python c =
    handed_on text_view (λ e. e) c.in_err-python.field-0.0 c.from_residual-in_err-python.result _ _ c.from_residual-in_err-python.ensures.1
    (λ f e. parts.python-fault c.args.index (view c.args.value.now) c.in_ok-object_at.ensures _ (rw c.get.ensures at c.in_ok-version.ensures) f e)
    (rw c.get-2.ensures at c.in_err-python.ensures)

pub returns-in_err-requirements : goal.returns-in_err-requirements
returns-in_err-requirements c =
    handed_on requirements_of_values (λ e. e) c.in_err-requirements.field-0.0 c.from_residual-in_err-requirements.result _ _ c.from_residual-in_err-requirements.ensures.1
    (λ f e. parts.requirements-fault c.args.index (view c.args.value.now) c.in_ok-object_at.ensures _ (rw c.get.ensures at c.in_ok-version.ensures)
    _ (rw c.get-2.ensures at c.in_ok-python.ensures) f e)
    (rw c.get-3.ensures at c.in_err-requirements.ensures)

pub returns-in_err-yanked : goal.returns-in_err-yanked
returns-in_err-yanked c =
    handed_on (λ (b : Bool). b) (λ e. e) c.in_err-yanked.field-0.0 c.from_residual-in_err-yanked.result _ _ c.from_residual-in_err-yanked.ensures.1
    (λ f e. parts.yanked-fault c.args.index (view c.args.value.now) c.in_ok-object_at.ensures _ (rw c.get.ensures at c.in_ok-version.ensures)
    _ (rw c.get-2.ensures at c.in_ok-python.ensures) _ (rw c.get-3.ensures at c.in_ok-requirements.ensures) f e)
    (rw c.get-4.ensures at c.in_err-yanked.ensures)

pub returns-in_err-files : goal.returns-in_err-files
returns-in_err-files c =
    handed_on (files_view {Z = Global}) (λ e. e) c.in_err-files.field-0.0 c.from_residual-in_err-files.result _ _ c.from_residual-in_err-files.ensures.1
    (λ f e. parts.files-fault c.args.index (view c.args.value.now) c.in_ok-object_at.ensures _ (rw c.get.ensures at c.in_ok-version.ensures)
    _ (rw c.get-2.ensures at c.in_ok-python.ensures) _ (rw c.get-3.ensures at c.in_ok-requirements.ensures)
    _ f (rw c.get-4.ensures at c.in_ok-yanked.ensures) e)
    (rw c.get-5.ensures at c.in_err-files.ensures.files)
