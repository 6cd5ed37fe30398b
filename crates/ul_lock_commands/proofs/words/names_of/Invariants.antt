use Rattle.std.proofs.Common.{◌≡◌, ◌++◌, drop, map, string_bytes}
use Rattle.ul_lock_commands.specs.Words.{names_of}
use Rattle.ul_lock_commands.proofs.words.names_of.Given as goal

abbrev pub invariant-loop-word : goal.invariant-loop-word
invariant-loop-word l = l.names.items ++ names_of (map string_bytes (drop l.word-index l.words)) ≡ names_of (map string_bytes l.words)
