use Rattle.ul_lines.proofs.LinePieces.{strip_empty}
use Rattle.ul_lines.proofs.pieces.stripped.Goals as goal

pub returns-in-empty : goal.returns-in-empty
returns-in-empty c = strip_empty c.args.front.now c.loop-want.want-index c.loop-want.rest.now _ c.loop-want-test.true c.in-empty.len_below c.loop-want.invariant
