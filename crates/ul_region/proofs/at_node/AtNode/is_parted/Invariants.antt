use Rattle.std.proofs.Common.{◌-◌, length}
use Rattle.ul_region.specs.Asked.{IsOther, region_asked}
use Rattle.ul_region.proofs.Firsts.{IsWalked}
use Rattle.ul_region.proofs.at_node.AtNode.is_parted.Given as goal

abbrev pub invariant-loop-place : goal.invariant-loop-place
invariant-loop-place l = IsWalked (IsOther (region_asked l.self) l.self.node.now l.one.requirement.now) l.self.row.now.asked l.one.name l.place

abbrev pub decreases-loop-place : goal.decreases-loop-place
decreases-loop-place l = length l.self.row.now.asked - l.place
