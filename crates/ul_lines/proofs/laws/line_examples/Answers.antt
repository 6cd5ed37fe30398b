use Rattle.std.proofs.Common.{refl}
use Rattle.ul_lines.specs.Pieces.{cut_end}
use Rattle.ul_lines.specs.Lines.{lines_of}
use Rattle.ul_lines.proofs.laws.line_examples.Goals as goal

pub returns-clause-pieces : goal.returns-clause-pieces
unfolding cut_end
returns-clause-pieces c = record {
  front = refl;
  other_front = refl;
  stop = refl;
  no_stop = refl;
  between = refl;
  nothing_between = refl;
  too_short = refl;
  first_stop = refl;
  part = refl;
  no_part = refl;
  open_part = refl;
}

pub returns-clause-lines : goal.returns-clause-lines
unfolding lines_of
returns-clause-lines c = record { none = refl; empty_line = refl; ended = refl; not_ended = refl }
