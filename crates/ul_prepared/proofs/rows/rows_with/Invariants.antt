use Rattle.std.proofs.Common.{take}
use Rattle.std.specs.List.{AllZip}
use Rattle.ul_prepared.specs.Shared.{IsRowOf}
use Rattle.ul_prepared.proofs.rows.rows_with.Given as goal

abbrev pub invariant-loop-release : goal.invariant-loop-release
invariant-loop-release l = AllZip (IsRowOf l.asked) (take l.release-index l.releases) l.rows.items
