use Rattle.std.proofs.Common.{◌≡◌, drop}
use Rattle.ul_version.specs.Reading.{lowercase_text, after_word}
use Rattle.ul_version.proofs.reading.after_word.Given as goal

abbrev pub invariant-loop-i : goal.invariant-loop-i
invariant-loop-i l = after_word l.word (lowercase_text l.input) ≡ after_word (drop l.i l.word) (lowercase_text (drop l.i l.input))
