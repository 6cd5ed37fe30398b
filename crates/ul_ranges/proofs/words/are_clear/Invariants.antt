use Rattle.std.proofs.Common.{◌≡◌}
use Rattle.ul_ranges.specs.Operations.{word_by}
use Rattle.ul_ranges.proofs.WordLaws.{is_clear_from}
use Rattle.ul_ranges.proofs.words.are_clear.Given as goal

abbrev pub invariant-loop-k : goal.invariant-loop-k
invariant-loop-k l = is_clear_from (word_by l.operation) l.mine l.theirs l.k ≡ is_clear_from (word_by l.operation) l.mine l.theirs 0
