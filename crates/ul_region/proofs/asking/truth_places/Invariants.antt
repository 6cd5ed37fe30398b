use Rattle.ul_region.specs.Truths.{IsGrown}
use Rattle.ul_region.specs.Numbers.{fields_in}
use Rattle.ul_region.proofs.RowFacts.{AreTruthsUpTo}
use Rattle.ul_region.proofs.asking.truth_places.Given as goal

abbrev pub invariant-loop-requirement : goal.invariant-loop-requirement
invariant-loop-requirement g l = record {
  grown : IsGrown l.initial.algebra l.initial.truths.marks.items l.algebra l.truths.marks.items;
  truths : AreTruthsUpTo l.algebra l.node l.truths.marks.items (fields_in l.requirements) l.places.items l.requirement-index;
}
