use Rattle.std.proofs.Common.{◌≡◌, ◌++◌}
use Rattle.ul_project.specs.Sources.{of_others}
use Rattle.ul_project.proofs.sources.of_others.Given as goal

abbrev pub invariant-loop-name : goal.invariant-loop-name
invariant-loop-name l = l.list.items ++ of_others l.own l.name-iterator ≡ of_others l.own l.fn.sources.entries
