use Rattle.std.proofs.Common.{◌≡◌, drop}
use Rattle.ul_nodes.specs.Rows.{first_result}
use Rattle.ul_nodes.proofs.results.first_result.Given as goal

abbrev pub invariant-loop-entry : goal.invariant-loop-entry
invariant-loop-entry g l = first_result (drop l.entry-index l.results) l.otherwise ≡ first_result l.results l.otherwise
