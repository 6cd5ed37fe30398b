use Rattle.std.proofs.Common.{◌∙◌, ap, sym}
use Rattle.std.specs.Prelude.{Err}
use Rattle.ul_project.specs.Lists.{group_extra, has_name, names_of}
use Rattle.ul_project.specs.Shapes.{shape}
use Rattle.ul_project.specs.declared.path.ProjectPath.{ProjectPath}
use Rattle.ul_project.proofs.DevGroup.{allowed_taken}
use Rattle.ul_project.proofs.dev.dev_allowed.Goals as goal

pub returns-then-branch : goal.returns-then-branch
returns-then-branch c =
    allowed_taken (names_of c.args.extras.now.entries) c.args.items.now (sym c.is_empty.ensures ∙ c.if-is_empty.false)
    (sym (c.in_ok-is_taken.ensures ∙ ap (λ n. has_name (names_of c.args.extras.now.entries) (group_extra n)) c.in_ok-name.ensures) ∙ c.if-branch.true)
    ∙ ap (λ (path : ProjectPath). Err (shape path)) (sym c.at_key.ensures)
