use Rattle.std.proofs.Common.{◌≡◌, ◌+◌, ◌-◌, ◌*◌, length}
use Rattle.std.specs.Prelude.{map}
use Rattle.ul_marker.specs.Reading.{each, part_at, pieces_from}
use Rattle.ul_marker.specs.Readers.{added_formulas}
use Rattle.ul_marker.specs.Views.{marker_view}
use Rattle.ul_marker.proofs.Chains.{chain_weight}
use Rattle.ul_marker.proofs.reading.+reading.Given as goal

abbrev pub decreases-read_atom : goal.decreases-read_atom
decreases-read_atom l = 5 * l.depth

abbrev pub decreases-read_chain : goal.decreases-read_chain
decreases-read_chain l = 5 * l.depth + chain_weight l.kind

abbrev pub decreases-read_part : goal.decreases-read_part
decreases-read_part l = 5 * l.depth + (chain_weight l.kind - 1)

abbrev pub invariant-read_chain-parts : goal.invariant-read_chain-parts
invariant-read_chain-parts l =
    each (part_at l.kind l.depth) (pieces_from l.kind 0 l.tokens) ≡ added_formulas (map marker_view l.parts.items) (each (part_at l.kind l.depth) (pieces_from l.kind 0 l.rest))

abbrev pub decreases-read_chain-parts : goal.decreases-read_chain-parts
decreases-read_chain-parts l = length l.rest
