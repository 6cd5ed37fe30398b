use Rattle.std.proofs.Common.{◌≡◌, ◌++◌}
use Rattle.std.specs.Prelude.{string_bytes}
use Rattle.ul_gen.specs.Texts.{text_below, eighth_line}
use Rattle.ul_gen.proofs.projects.put_eighths.Given as goal

abbrev pub invariant-loop-k : goal.invariant-loop-k
invariant-loop-k l = string_bytes l.text ≡ string_bytes l.fn.text ++ text_below eighth_line l.k
