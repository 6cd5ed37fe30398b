use Rattle.std.proofs.Common.{◌≡◌, ◌++◌, drop, map}
use Rattle.ul_merge.specs.Rows.{aim_of, aim_uses, use_row}
use Rattle.ul_merge.proofs.targets.put_uses.Given as goal

abbrev pub invariant-loop-leaf : goal.invariant-loop-leaf
invariant-loop-leaf l = map use_row l.entries.items ++ aim_uses l.choices (aim_of l.aim) (drop l.leaf-index l.users) ≡ map use_row l.initial.entries.items ++ aim_uses l.choices (aim_of l.aim) l.users
