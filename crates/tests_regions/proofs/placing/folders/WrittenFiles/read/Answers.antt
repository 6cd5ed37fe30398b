use Rattle.ul_files.proofs.ForCallers.{remembers_read}
use Rattle.tests_regions.proofs.placing.folders.WrittenFiles.read.Goals as goal

pub returns-clause-grown : goal.returns-clause-grown
returns-clause-grown c = remembers_read _ _ _ c.with-self.ensures
