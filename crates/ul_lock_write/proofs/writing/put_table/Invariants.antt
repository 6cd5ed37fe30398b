use Rattle.std.proofs.Common.{◌≡◌, ◌++◌, take}
use Rattle.std.specs.Prelude.{flat_map}
use Rattle.ul_lock_write.specs.Written.{extra_text, table_front}
use Rattle.ul_lock_write.proofs.writing.put_table.Given as goal

abbrev pub invariant-loop-extra : goal.invariant-loop-extra
invariant-loop-extra l = l.out.items ≡ (l.fn.out.items ++ table_front) ++ flat_map extra_text (take l.extra-index l.extras)
