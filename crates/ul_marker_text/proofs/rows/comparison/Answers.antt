use Rattle.ul_marker.specs.Views.{marker_view}
use Rattle.ul_marker_text.proofs.RowsBack.{no_single}
use Rattle.ul_marker_text.proofs.rows.comparison.Goals as goal

pub returns-in-Err-clause-refused : goal.returns-in-Err-clause-refused
returns-in-Err-clause-refused c e = no_single (marker_view c.args.part.now) c.in-Err.ensures.refused.1
