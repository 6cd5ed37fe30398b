use Rattle.std.proofs.Common.{take}
use Rattle.std.specs.List.{AllZip}
use Rattle.ul_prepared.specs.Shared.{IsOfList}
use Rattle.ul_prepared.proofs.rows.aims_with.Given as goal

abbrev pub invariant-loop-release : goal.invariant-loop-release
invariant-loop-release l = AllZip (IsOfList l.aims) (take l.release-index l.releases) l.list.items
