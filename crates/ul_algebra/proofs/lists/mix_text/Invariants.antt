use Rattle.std.proofs.Common.{◌≡◌, take}
use Rattle.std.specs.List.{fold}
use Rattle.ul_core.specs.Hashes.{next_hash}
use Rattle.ul_algebra.proofs.lists.mix_text.Given as goal

abbrev pub invariant-loop-byte : goal.invariant-loop-byte
invariant-loop-byte l = l.hash ≡ fold next_hash l.start (take l.byte-index l.byte-items)
