use Rattle.ul_marker.specs.Views.{marker_view}
use Rattle.ul_marker_text.proofs.Faulty.{same_fault}
use Rattle.ul_marker_text.proofs.RowsBack.{no_rows_one}
use Rattle.ul_marker_text.proofs.rows.one_path.Goals as goal

pub returns-in-Err-clause-refused : goal.returns-in-Err-clause-refused
returns-in-Err-clause-refused c e alone = no_rows_one (marker_view c.args.part.now) alone (c.in-Err.ensures.refused (same_fault c.in-Err.fault e))
