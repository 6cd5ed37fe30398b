use Rattle.std.proofs.Common.{◌∙◌, ap, List}
use Rattle.ul_lock.specs.declared.parts.Extra.{Extra}
use Rattle.ul_lock_write.specs.declared.sheets.Sheet.{Sheet}
use Rattle.ul_lock_read.specs.Automaton.{filled}
use Rattle.ul_lock_read.specs.declared.states.State.TheVariants.{AfterBlank}
use Rattle.ul_lock_read.proofs.Steps.{follows, refuses}
use Rattle.ul_lock_read.proofs.blocks.closed_table.Goals as goal

pub returns-in_ok-sheet : goal.returns-in_ok-sheet
returns-in_ok-sheet c = follows c.any_extra.result _ _ _ c.if-any_extra.true (c.any_extra.ensures ∙ ap (λ (xs : List Extra). filled xs) c.as_slice.ensures) (ap (λ (s : Sheet). AfterBlank s.head s.packages) c.in_ok-sheet.ensures)

pub returns-else-any_extra : goal.returns-else-any_extra
returns-else-any_extra c = refuses c.any_extra.result _ c.refused.result _ c.if-any_extra.false (c.any_extra.ensures ∙ ap (λ (xs : List Extra). filled xs) c.as_slice.ensures) c.refused.ensures
