use Rattle.std.proofs.Common.{◌≡◌, drop}
use Rattle.ul_lines.specs.Pieces.{strip}
use Rattle.ul_lines.proofs.pieces.stripped.Given as goal

abbrev pub invariant-loop-want : goal.invariant-loop-want
invariant-loop-want l = strip (drop l.want-index l.front) l.rest ≡ strip l.front l.text
