use Rattle.ul_specifier.proofs.Examples.{exclusions, meetings, readings, no_readings, summaries}
use Rattle.ul_specifier.proofs.laws.examples.Goals as goal

pub returns : goal.returns
returns c = record { meetings = meetings; readings = readings; no_readings = no_readings; summaries = summaries; exclusions = exclusions }
