use Rattle.std.proofs.Common.{◌≡◌, ◌++◌, drop, map}
use Rattle.ul_merge.specs.Rows.{aim_of, all_uses, use_row}
use Rattle.ul_merge.proofs.targets.use_entries.Given as goal

abbrev pub invariant-loop-aim : goal.invariant-loop-aim
invariant-loop-aim l = map use_row l.entries.items ++ all_uses l.choices l.users (map aim_of (drop l.aim-index l.aims)) ≡ all_uses l.choices l.users (map aim_of l.aims)
