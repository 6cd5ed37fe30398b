use Rattle.std.proofs.Common.{◌≡◌, reverse, vec_len}
use Rattle.ul_merge.specs.Over.{items_in, with_list}
use Rattle.ul_merge.specs.Runs.{joined_of}
use Rattle.ul_merge.proofs.runs.joined.Given as goal

abbrev pub invariant-loop-run : goal.invariant-loop-run
invariant-loop-run l = joined_of l.fn.made.items ≡ with_list (items_in l.blocks) (joined_of (reverse l.made.items))

abbrev pub decreases-loop-run : goal.decreases-loop-run
decreases-loop-run l = vec_len l.made
