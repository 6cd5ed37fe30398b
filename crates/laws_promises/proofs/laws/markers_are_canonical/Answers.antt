use Rattle.laws_promises.proofs.OfMarkers.{markers_are_canonical}
use Rattle.laws_promises.proofs.laws.markers_are_canonical.Goals as goal

pub returns : goal.returns
returns c = markers_are_canonical c.canonical_markers.ensures
