use Rattle.ul_marker.proofs.ReadingExamples.{locked_readings, readings, no_readings}
use Rattle.ul_marker.proofs.laws.readings.Goals as goal

pub returns : goal.returns
returns c = record { read = readings; locked = locked_readings; not_read = no_readings }
