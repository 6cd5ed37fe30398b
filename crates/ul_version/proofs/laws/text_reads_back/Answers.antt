use Rattle.ul_version.proofs.LawProofs.{plain, tells}
use Rattle.ul_version.proofs.RoundTrip.{version-read}
use Rattle.ul_version.proofs.laws.text_reads_back.Goals as goal

pub returns : goal.returns
returns c = record { reads = version-read; tells = tells; plain = plain }
