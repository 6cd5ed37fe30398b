use Rattle.ul_ranges.proofs.PieceLaws.{one_piece}
use Rattle.ul_ranges.proofs.laws.pieces.Goals as goal

pub returns : goal.returns
returns c = one_piece
