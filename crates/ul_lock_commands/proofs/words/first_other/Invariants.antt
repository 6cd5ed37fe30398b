use Rattle.std.proofs.Common.{◌≡◌, drop, map, string_bytes}
use Rattle.ul_lock_commands.specs.Words.{first_other}
use Rattle.ul_lock_commands.proofs.words.first_other.Given as goal

abbrev pub invariant-loop-word : goal.invariant-loop-word
invariant-loop-word l = first_other l.lock (map string_bytes l.words) ≡ first_other l.lock (map string_bytes (drop l.word-index l.words))
