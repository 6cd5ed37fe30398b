use Rattle.ul_version.proofs.Examples.{readings, no_readings, orders, texts}
use Rattle.ul_version.proofs.laws.examples.Goals as goal

pub returns : goal.returns
returns c = record { readings = readings; no_readings = no_readings; orders = orders; texts = texts }
