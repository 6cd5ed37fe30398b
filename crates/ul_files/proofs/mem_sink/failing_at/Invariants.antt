use Rattle.std.proofs.Common.{◌≡◌, drop}
use Rattle.ul_files.specs.MemSink.{bytes_before}
use Rattle.ul_files.proofs.mem_sink.failing_at.Given as goal

-- nothing stands before the index
abbrev pub invariant-loop-pair : goal.invariant-loop-pair
invariant-loop-pair l = bytes_before (drop l.pair-index l.failing) l.call ≡ bytes_before l.failing l.call
