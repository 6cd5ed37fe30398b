use Rattle.std.proofs.Common.{◌≡◌, ◌++◌, drop, map}
use Rattle.ul_merge.specs.Rows.{all_members, member_row}
use Rattle.ul_merge.proofs.members.member_entries.Given as goal

abbrev pub invariant-loop-leaf : goal.invariant-loop-leaf
invariant-loop-leaf l = map member_row l.entries.items ++ all_members l.leaf (drop l.leaf l.choices) ≡ all_members 0 l.choices
