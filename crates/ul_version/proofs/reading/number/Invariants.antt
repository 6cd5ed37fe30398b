use Rattle.std.proofs.Common.{◌≡◌, ◌<◌, ◌^◌, drop}
use Rattle.ul_version.specs.Reading.{lowercase_text, number}
use Rattle.ul_version.proofs.Cuts.{number_from}
use Rattle.ul_version.proofs.reading.number.Given as goal

abbrev pub invariant-digits : goal.invariant-digits
invariant-digits l = (l.value < 2 ^ 64) × (number (lowercase_text l.input) ≡ number_from l.value (lowercase_text (drop l.i l.input)))
