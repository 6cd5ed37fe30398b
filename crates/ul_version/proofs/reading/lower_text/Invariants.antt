use Rattle.std.proofs.Common.{◌≡◌, take}
use Rattle.std.specs.Prelude.{string_bytes}
use Rattle.ul_version.specs.Reading.{lowercase_text}
use Rattle.ul_version.proofs.reading.lower_text.Given as goal

abbrev pub invariant-loop-byte : goal.invariant-loop-byte
invariant-loop-byte l = string_bytes l.text ≡ lowercase_text (take l.byte-index l.piece)
