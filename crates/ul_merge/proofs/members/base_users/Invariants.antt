use Rattle.std.proofs.Common.{◌≡◌, ◌++◌, drop, map}
use Rattle.ul_merge.specs.Rows.{base_rows, member_of}
use Rattle.ul_merge.proofs.members.base_users.Given as goal

abbrev pub invariant-loop-member : goal.invariant-loop-member
invariant-loop-member l = l.users.items ++ base_rows (map member_of (drop l.member-index l.members)) ≡ base_rows (map member_of l.members)
