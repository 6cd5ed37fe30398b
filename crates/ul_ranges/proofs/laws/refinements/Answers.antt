use Rattle.ul_ranges.proofs.Merging.{only_refinement}
use Rattle.ul_ranges.proofs.PieceLaws.{refined_pieces}
use Rattle.ul_ranges.proofs.laws.refinements.Goals as goal

pub returns : goal.returns
returns c = record { pieces = refined_pieces; only = only_refinement }
