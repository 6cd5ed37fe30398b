use Rattle.std.proofs.Common.{◌≡◌, drop, take}
use Rattle.ul_lines.specs.Pieces.{until}
use Rattle.ul_lines.proofs.LinePieces.{put_front}
use Rattle.ul_lines.proofs.pieces.divided.Given as goal

abbrev pub invariant-loop-i : goal.invariant-loop-i
invariant-loop-i l = put_front (take l.i l.text) (until l.stop (drop l.i l.text)) ≡ until l.stop l.text
