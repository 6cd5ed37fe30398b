use Rattle.std.proofs.Common.{take}
use Rattle.std.specs.List.{AllZip}
use Rattle.ul_region.specs.Rows.{AreAsked}
use Rattle.ul_region.specs.Truths.{IsGrown}
use Rattle.ul_prepared.proofs.planning.asked_lists.Given as goal

abbrev pub invariant-loop-requirements : goal.invariant-loop-requirements
invariant-loop-requirements g l = record {
  grown : IsGrown l.initial.algebra l.initial.truths.marks.items l.algebra l.truths.marks.items;
  asked : AllZip (AreAsked l.algebra l.node l.truths.marks.items) (take l.requirements-index l.lists) l.list.items;
}
