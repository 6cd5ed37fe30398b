use Rattle.ul_version.proofs.LawProofs.{longest, order, plain, read, spelled, tells, ties, versions}
use Rattle.ul_version.proofs.OneSpelling.{spellings}
use Rattle.ul_version.proofs.RoundTrip.{version-read}
use Rattle.ul_version.proofs.VersionAbove.{greater}
use Rattle.ul_version.proofs.laws.versions_are_exact.Goals as goal

pub returns : goal.returns
returns c = record {
  read_is_spelled = spelled;
  spelled_is_read = read;
  earlier_is_longest = longest;
  lengths_are_enough = spellings;
  read_is_version = versions;
  text_reads = version-read;
  text_tells = tells;
  text_is_plain = plain;
  order_is_total = order;
  ties_are_zeros = ties;
  greater_is_version = greater;
}
