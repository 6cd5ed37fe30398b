use Rattle.ul_version.proofs.LawProofs.{longest, read, spelled, versions}
use Rattle.ul_version.proofs.laws.read_is_spelled.Goals as goal

pub returns : goal.returns
returns c = record { spelled = spelled; read = read; longest = longest; version = versions }
