use Rattle.ul_marker_text.proofs.MarkerTrees as law
use Rattle.ul_marker_text.proofs.laws.marker_texts.Goals as goal

pub returns : goal.returns
returns c = law.marker_texts
