use Rattle.std.proofs.Common.{◌≡◌, ◌≤◌, drop, take}
use Rattle.ul_marker.specs.Reading.{pieces_from}
use Rattle.ul_marker.proofs.Chains.{before_first}
use Rattle.ul_marker.proofs.reading.part_len.Given as goal

abbrev pub invariant-loop-i : goal.invariant-loop-i
invariant-loop-i l = (l.count ≤ l.i) × (pieces_from l.kind 0 l.tokens ≡ before_first (take l.i l.tokens) (pieces_from l.kind l.count (drop l.i l.tokens)))
