use Rattle.ul_region.proofs.ExtraFacts.{IsIndexBelow}
use Rattle.ul_region.proofs.extra_index.ExtraIndex.of.Given as goal

abbrev pub invariant-loop-place : goal.invariant-loop-place
invariant-loop-place l = IsIndexBelow l.requirements l.place l.index
