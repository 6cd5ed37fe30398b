use Rattle.std.proofs.Common.{◌∙◌, sym}
use Rattle.ul_files.specs.contracts.mem_files.MemFiles.{the_view}
use Rattle.ul_files.proofs.Memory.{answered}
use Rattle.ul_files.proofs.mem_files.MemFiles.answer.Goals as goal

pub returns-clause-exact : goal.returns-clause-exact
returns-clause-exact c =
    rw (← c.self.view_is) (answered (the_view c.self.inside) _ _ _ c.answer.result c.answer.ensures.sure
    (rw (← c.deref.ensures.value) (sym c.contains-fails.ensures.value ∙ c.if-fails.false)) c.answer.ensures.same c.saturating_add-self-inside.ensures)
