use Rattle.ul_ranges.proofs.PlainLaws.{IsLastSeen}
use Rattle.ul_ranges.proofs.plain.piece_of.Given as goal

abbrev pub invariant-loop-index : goal.invariant-loop-index
invariant-loop-index l = IsLastSeen l.starts l.number l.index l.piece
