use Rattle.ul_files.proofs.ForCallers.{remembers_read}
use Rattle.ul_edge.proofs.OpenedReads.{counted_cause}
use Rattle.ul_edge.proofs.opened_files.OpenedFilesFiles.read.Goals as goal

pub returns-clause-grown : goal.returns-clause-grown
returns-clause-grown g c = remembers_read _ _ _ c.with-self.ensures

pub returns-clause-cause : goal.returns-clause-cause
returns-clause-cause g c = counted_cause _ _ c.args.path.now _ c.read_opened-answer.ensures.counted c.read_opened-answer.ensures.count
