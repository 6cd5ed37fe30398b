use Rattle.std.proofs.Common.{◌≡◌, ◌+◌, ◌≤◌, length}
use Rattle.ul_lines.specs.Lines.{lines_of}
use Rattle.ul_lines.specs.Reader.{read_lines, read_text}
use Rattle.ul_lock_read.specs.Automaton.{lock_reader}
use Rattle.ul_lock_read.proofs.texts.shape.Given as goal

abbrev pub invariant-loop-rest : goal.invariant-loop-rest
invariant-loop-rest l = record {
  reads : read_lines lock_reader l.number l.state (lines_of l.rest) ≡ read_text lock_reader l.bytes;
  room : l.number + length l.rest ≤ length l.bytes + 1;
}

abbrev pub decreases-loop-rest : goal.decreases-loop-rest
decreases-loop-rest l = length l.rest
