use Rattle.std.proofs.Common.{◌≡◌, ◌++◌, drop, map}
use Rattle.ul_merge.specs.Rows.{leaf_members, member_row}
use Rattle.ul_merge.proofs.members.put_members.Given as goal

abbrev pub invariant-loop-pick : goal.invariant-loop-pick
invariant-loop-pick l = map member_row l.entries.items ++ leaf_members l.leaf l.choices (drop l.pick-index l.picks) ≡ map member_row l.initial.entries.items ++ leaf_members l.leaf l.choices l.choices
