use Rattle.std.proofs.Common.{◌≡◌, ◌+◌, ◌≤◌, drop}
use Rattle.ul_lock.specs.Targets.{count_named}
use Rattle.ul_lock_read.proofs.targets.named_count.Given as goal

abbrev pub invariant-loop-block : goal.invariant-loop-block
invariant-loop-block l = record {
  counted : l.count + count_named l.name (drop l.block-index l.packages) ≡ count_named l.name l.packages;
  room : l.count ≤ l.block-index;
}
