use Rattle.std.proofs.Common.{◌≡◌, ◌++◌, drop, map}
use Rattle.ul_merge.specs.Rows.{extra_entry, extra_rows, member_of}
use Rattle.ul_merge.proofs.members.extra_entries.Given as goal

abbrev pub invariant-loop-member : goal.invariant-loop-member
invariant-loop-member l = map extra_entry l.entries.items ++ extra_rows (map member_of (drop l.member-index l.members)) ≡ extra_rows (map member_of l.members)
