use Rattle.std.proofs.Common.{◌≡◌, ◌++◌}
use Rattle.std.specs.Prelude.{string_bytes}
use Rattle.ul_gen.specs.Texts.{text_below, fork_lines}
use Rattle.ul_gen.proofs.projects.put_forks.Given as goal

abbrev pub invariant-loop-k : goal.invariant-loop-k
invariant-loop-k l = string_bytes l.text ≡ string_bytes l.fn.text ++ text_below fork_lines l.k
