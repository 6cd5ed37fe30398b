use Rattle.std.proofs.Common.{◌-◌, ◌≤◌, length}
use Rattle.ul_ranges.specs.Operations.{word_by}
use Rattle.ul_ranges.proofs.WordLaws.{IsPut}
use Rattle.ul_ranges.proofs.words.put_words.Given as goal

abbrev pub invariant-loop-done : goal.invariant-loop-done
invariant-loop-done l = IsPut (word_by l.operation) l.initial.mine l.theirs l.mine l.done × (l.done ≤ length l.theirs)

abbrev pub decreases-loop-done : goal.decreases-loop-done
decreases-loop-done l = length l.theirs - l.done

abbrev pub invariant-loop-j : goal.invariant-loop-j
invariant-loop-j l = IsPut (word_by l.operation) l.fn.mine l.theirs l.mine l.j
