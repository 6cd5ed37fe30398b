use Rattle.std.proofs.Common.{◌≡◌, ◌-◌, length}
use Rattle.ul_version.specs.Reading.{lowercase_text, onto, points, release}
use Rattle.ul_version.proofs.reading.release.Given as goal

abbrev pub invariant-numbers : goal.invariant-numbers
invariant-numbers l = release (lowercase_text l.input) ≡ onto l.numbers.items (points (length l.input - l._round) (lowercase_text l.rest))
