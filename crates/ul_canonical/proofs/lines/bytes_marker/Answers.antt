use Rattle.ul_canonical.proofs.Said.{no_text, read_said}
use Rattle.ul_canonical.proofs.lines.bytes_marker.Goals as goal

pub returns-in_default : goal.returns-in_default
returns-in_default c = no_text c.args.bytes.now c.in_default.ensures.cases.0

pub returns : goal.returns
returns c =
    let text = c.in-Ok.ensures.cases in
    read_said c.args.bytes.now _ c.read_locked.result c.if_read.result text.1 text.0 c.read_locked.ensures.read c.read_locked.ensures.no_reading c.if_read.ensures
