use Rattle.std.proofs.Common.{◌≡◌, length}
use Rattle.ul_specifier.proofs.Texts.{joined, list_of}
use Rattle.ul_specifier.proofs.reading.clauses.Given as goal

abbrev pub invariant-pieces : goal.invariant-pieces
invariant-pieces l = list_of l.input ≡ joined l.list.items (list_of l.rest)

abbrev pub decreases-pieces : goal.decreases-pieces
decreases-pieces l = length l.rest
