use Rattle.std.proofs.Common.{take}
use Rattle.std.specs.Prelude.{All}
use Rattle.ul_merge.proofs.ReleaseFacts.{HasDiffering}
use Rattle.ul_merge.proofs.releases.each_differs.Given as goal

abbrev pub invariant-loop-one : goal.invariant-loop-one
invariant-loop-one l = All HasDiffering (take l.one-index l.packages)
