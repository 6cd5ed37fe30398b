use Rattle.std.proofs.Common.{◌<◌, ◌+◌, length, arith}
use Rattle.ul_canonical.proofs.Told.{line_more, lines_longer}
use Rattle.ul_canonical.proofs.writing.lines_text.Goals as goal

pub returns-then-len-gt-TEXT_BYTES : goal.returns-then-len-gt-TEXT_BYTES
returns-then-len-gt-TEXT_BYTES c =
    let long : 67108864 < length c.put_line.new.out.items = omega arith in
    lines_longer c.args.diagrams.now (c.loop-diagram.diagram-index + 1) c.put_line.new.out.items
    (line_more c.args.diagrams.now c.loop-diagram.diagram-index c.diagram-item.result c.loop-diagram.out.items c.put_line.new.out.items c.loop-diagram-test.true c.diagram-item.is c.loop-diagram.invariant.text c.in_ok-put_line.ensures) long
