use Rattle.ul_canonical.proofs.Printed.{canonical_markers}
use Rattle.ul_canonical.proofs.laws.canonical_markers.Goals as goal

pub returns : goal.returns
returns c = canonical_markers
