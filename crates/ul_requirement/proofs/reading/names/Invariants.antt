use Rattle.std.proofs.Common.{◌≡◌, length}
use Rattle.ul_requirement.proofs.Names.{added, names_in_text}
use Rattle.ul_requirement.proofs.reading.names.Given as goal

abbrev pub invariant-pieces : goal.invariant-pieces
invariant-pieces l = names_in_text l.input ≡ added l.list.items (names_in_text l.rest)

abbrev pub decreases-pieces : goal.decreases-pieces
decreases-pieces l = length l.rest
