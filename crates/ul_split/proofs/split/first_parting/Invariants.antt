use Rattle.std.proofs.Common.{take}
use Rattle.std.specs.Prelude.{All}
use Rattle.ul_region.specs.Truths.{region_at}
use Rattle.ul_split.specs.Split.{HasSplit}
use Rattle.ul_split.specs.Answers.{decided_of}
use Rattle.ul_split.specs.declared.split.Chosen.{Chosen}
use Rattle.ul_split.proofs.split.first_parting.Given as goal

abbrev pub invariant-loop-one : goal.invariant-loop-one
invariant-loop-one l = All (λ (d : Chosen). HasSplit (region_at l.place.region.now) (decided_of d) → ⊥) (take l.one-index l.chosen)
