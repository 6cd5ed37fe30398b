use Rattle.std.proofs.Common.{◌≡◌, drop}
use Rattle.ul_tree.specs.FirstParts.{first_branch}
use Rattle.ul_tree.specs.Views.{pieces_view}
use Rattle.ul_tree.proofs.samples.first_piece.Given as goal

abbrev pub invariant-loop-index : goal.invariant-loop-index
invariant-loop-index l = first_branch (pieces_view (drop l.index l.starts) (drop l.index l.parts)) ≡ first_branch (pieces_view l.starts l.parts)
