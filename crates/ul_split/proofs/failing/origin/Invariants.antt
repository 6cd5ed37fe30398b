use Rattle.std.proofs.Common.{map}
use Rattle.ul_index.specs.Applied.{IsFirm}
use Rattle.ul_region.specs.Asked.{asked_of, region_asked}
use Rattle.ul_region.specs.Rows.{requirement_of}
use Rattle.ul_split.proofs.Origins.{IsLeft}
use Rattle.ul_split.proofs.failing.origin.Given as goal

abbrev pub invariant-loop-one : goal.invariant-loop-one
invariant-loop-one l = IsLeft (IsFirm (asked_of l.at_node) (region_asked l.at_node) l.at_node.node.now) (map requirement_of l.at_node.row.now.asked) l.place l.one-index l.left
