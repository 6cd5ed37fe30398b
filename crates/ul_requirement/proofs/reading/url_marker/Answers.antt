use Rattle.std.proofs.Common.{sym}
use Rattle.ul_version.specs.Ascii.{after_all, is_blank}
use Rattle.ul_requirement.specs.Reading.{is_inner_byte, is_url_byte}
use Rattle.ul_requirement.proofs.Runs.{all-after}
use Rattle.ul_requirement.proofs.reading.url_marker.Goals as goal

pub marker_behind-requires : goal.marker_behind-requires
marker_behind-requires c =
    rw (c.after_run-2.ensures, c.after_run.ensures)
    (all-after is_inner_byte is_blank (after_all is_url_byte c.args.input.now) (all-after is_inner_byte is_url_byte c.args.input.now (sym c.if-not-is_run.ensures)))
