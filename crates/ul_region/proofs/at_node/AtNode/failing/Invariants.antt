use Rattle.std.proofs.Common.{take}
use Rattle.ul_region.specs.Asked.{asked_of, region_asked}
use Rattle.ul_region.specs.Groups.{FailsIn}
use Rattle.ul_region.proofs.Firsts.{NoneOf}
use Rattle.ul_region.proofs.at_node.AtNode.failing.Given as goal

abbrev pub invariant-loop-one : goal.invariant-loop-one
invariant-loop-one l = NoneOf (FailsIn (asked_of l.self) (region_asked l.self) l.self.node.now l.opener.requirement.now.name) (take l.one-index l.self.row.now.asked)
