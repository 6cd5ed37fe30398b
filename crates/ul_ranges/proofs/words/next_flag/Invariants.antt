use Rattle.std.proofs.Common.{◌*◌}
use Rattle.ul_ranges.proofs.WordLaws.{AreClear}
use Rattle.ul_ranges.proofs.words.next_flag.Given as goal

abbrev pub invariant-loop-j : goal.invariant-loop-j
invariant-loop-j l = AreClear l.blocks l.from (64 * l.j)
