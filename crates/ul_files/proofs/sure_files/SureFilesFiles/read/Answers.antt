use Rattle.ul_files.proofs.Agreeing.{remembers_here}
use Rattle.ul_files.proofs.sure_files.SureFilesFiles.read.Goals as goal

pub returns-clause-grown : goal.returns-clause-grown
returns-clause-grown c =
    rw (← c.self.view_is) (remembers_here _ _ _ _ _ c.answer-answer.ensures.same c.with-self-inside.ensures)
