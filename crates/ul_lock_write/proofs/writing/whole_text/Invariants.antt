use Rattle.std.proofs.Common.{◌≡◌, ◌++◌, take}
use Rattle.std.specs.Prelude.{flat_map}
use Rattle.ul_lock_write.specs.Written.{block_text, head_text}
use Rattle.ul_lock_write.proofs.writing.whole_text.Given as goal

abbrev pub invariant-loop-block : goal.invariant-loop-block
invariant-loop-block l = l.out.items ≡ head_text l.lock ++ flat_map block_text (take l.block-index l.lock.packages)
