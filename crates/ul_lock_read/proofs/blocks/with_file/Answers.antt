use Rattle.std.proofs.Common.{◌∙◌, ◌++◌, ◌∷◌, [], ap, List}
use Rattle.ul_requirement.specs.Fields.{FileFields}
use Rattle.ul_lock.specs.Orders.{file_less}
use Rattle.ul_lock_read.specs.Automaton.{tops}
use Rattle.ul_lock_read.specs.declared.states.Top.{Top}
use Rattle.ul_lock_read.specs.declared.states.State.TheVariants.{InFiles}
use Rattle.ul_lock_read.proofs.Steps.{follows, refuses, made_is}
use Rattle.ul_lock_read.proofs.blocks.with_file.Goals as goal

pub returns-in_ok-top : goal.returns-in_ok-top
returns-in_ok-top c =
    let grown = made_is c.with.result c.in_ok-top.files (c.args.files ++ c.args.file ∷ []) c.with.ensures c.in_ok-top.ensures.1 in
    follows c.file_tops.result _ c.state_in_files.result _ c.if-file_tops.true (c.file_tops.ensures ∙ ap (λ (fs : List FileFields). tops file_less fs c.args.file) c.as_slice.ensures)
    (c.state_in_files.ensures ∙ (ap (λ (t : Top). InFiles t.head t.blocks t.name t.version c.in_ok-top.files) c.in_ok-top.ensures.0
    ∙ ap (λ (fs : List FileFields). InFiles c.args.top.head c.args.top.blocks c.args.top.name c.args.top.version fs) grown))

pub returns-else-file_tops : goal.returns-else-file_tops
returns-else-file_tops c = refuses c.file_tops.result _ c.refused.result _ c.if-file_tops.false (c.file_tops.ensures ∙ ap (λ (fs : List FileFields). tops file_less fs c.args.file) c.as_slice.ensures) c.refused.ensures
