use Rattle.std.proofs.Common.{◌≡◌, length}
use Rattle.std.specs.List.{slice_split}
use Rattle.ul_version.specs.Reading.{is_separator, lowercase_text, segments}
use Rattle.ul_version.proofs.Cuts.{joined}
use Rattle.ul_version.proofs.reading.segments.Given as goal

abbrev pub invariant-pieces : goal.invariant-pieces
invariant-pieces l = segments (slice_split is_separator (lowercase_text l.input)) ≡ joined l.list.items (segments (slice_split is_separator (lowercase_text l.rest)))

abbrev pub decreases-pieces : goal.decreases-pieces
decreases-pieces l = length l.rest
