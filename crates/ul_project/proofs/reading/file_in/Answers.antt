use Rattle.std.specs.declared.alloc.Global.{Global}
use Rattle.toml.specs.View.{table_view}
use Rattle.ul_project.specs.Answers.{asked_view, required_view}
use Rattle.ul_project.proofs.EachRead.{read_handed_on}
use Rattle.ul_project.proofs.Parts.{asked-fault, file-all, required-fault}
use Rattle.ul_project.proofs.reading.file_in.Goals as goal

pub returns-in_err-head-2 : goal.returns-in_err-head-2
returns-in_err-head-2 c =
    read_handed_on required_view (λ f. f) c.required_in-required.result c.in_err-head-2.field-0.0 c.from_residual-in_err-head-2.result _ _
    c.from_residual-in_err-head-2.ensures.1 c.in_err-head-2.ensures (rw c.profile_of-profile.ensures at c.required_in-required.ensures)
    (λ f e. required-fault (table_view c.args.document.now) (table_view c.in_ok-project.project.now) c.in_ok-head.head f
    (rw c.value_at.ensures at c.in_ok-project.ensures) c.in_ok-head.ensures e)

pub returns-in_err-kept : goal.returns-in_err-kept
returns-in_err-kept c =
    read_handed_on (asked_view {Z = Global}) (λ f. f) c.settings_in-asked.result c.in_err-kept.field-0.0 c.from_residual-in_err-kept.result _ _
    c.from_residual-in_err-kept.ensures.1 c.in_err-kept.ensures (rw c.profile_of-profile.ensures at c.settings_in-asked.ensures)
    (λ f e. asked-fault (table_view c.args.document.now) (table_view c.in_ok-project.project.now) c.in_ok-head.head (required_view c.in_ok-head-2.required) f
    (rw c.value_at.ensures at c.in_ok-project.ensures) c.in_ok-head.ensures
    (rw (c.in_ok-head-2.ensures.1, c.profile_of-profile.ensures) at c.required_in-required.ensures) e)

pub returns : goal.returns
returns c =
    rw (c.in_ok-file.ensures, c.in_ok-kept.ensures.0, c.in_ok-head-2.ensures.0)
    (file-all (table_view c.args.document.now) (table_view c.in_ok-project.project.now) c.in_ok-head.head (required_view c.in_ok-head-2.required)
    (asked_view {Z = Global} c.in_ok-kept.asked) (rw c.value_at.ensures at c.in_ok-project.ensures) c.in_ok-head.ensures
    (rw (c.in_ok-head-2.ensures.1, c.profile_of-profile.ensures) at c.required_in-required.ensures)
    (rw (c.in_ok-kept.ensures.1, c.profile_of-profile.ensures) at c.settings_in-asked.ensures))
