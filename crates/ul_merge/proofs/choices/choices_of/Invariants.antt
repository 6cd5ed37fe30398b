use Rattle.std.proofs.Common.{◌≡◌, map, take}
use Rattle.ul_merge.specs.Views.{picks_of}
use Rattle.ul_merge.proofs.choices.choices_of.Given as goal

abbrev pub invariant-loop-leaf : goal.invariant-loop-leaf
invariant-loop-leaf l = l.choices.items ≡ map picks_of (take l.leaf-index l.leaves)
