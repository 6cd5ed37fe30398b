use Rattle.ul_derivation.proofs.Rows.{accepted, short, uncut}
use Rattle.ul_derivation.proofs.examples.clash_rows.Goals as goal

pub returns : goal.returns
returns c = record { accepted = accepted; short = short; uncut = uncut }
