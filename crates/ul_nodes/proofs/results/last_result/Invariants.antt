use Rattle.std.proofs.Common.{◌≡◌, drop}
use Rattle.ul_nodes.specs.Rows.{last_result}
use Rattle.ul_nodes.proofs.results.last_result.Given as goal

abbrev pub invariant-loop-entry : goal.invariant-loop-entry
invariant-loop-entry g l = last_result (drop l.entry-index l.results) l.found ≡ last_result l.results l.otherwise
