use Rattle.laws_promises.proofs.OfEndings.{locks_end, reasons_end, relocks_end}
use Rattle.laws_promises.proofs.laws.endings.Goals as goal

pub returns-clause-locks : goal.returns-clause-locks
returns-clause-locks c = locks_end c.inputs_are_answered.ensures

pub returns-clause-reasons : goal.returns-clause-reasons
returns-clause-reasons c = reasons_end c.inputs_are_answered.ensures

pub returns-clause-relocks : goal.returns-clause-relocks
returns-clause-relocks c = relocks_end c.inputs_are_answered.ensures
