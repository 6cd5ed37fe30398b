use Rattle.std.proofs.Common.{◌≡◌, ◌≤◌, length, take}
use Rattle.ul_canonical.proofs.Told.{marks_text}
use Rattle.ul_canonical.proofs.writing.lines_text.Given as goal

abbrev pub invariant-loop-diagram : goal.invariant-loop-diagram
invariant-loop-diagram l = record {
  text : l.out.items ≡ marks_text (take l.diagram-index l.diagrams);
  short : length l.out.items ≤ 67108864;
}
