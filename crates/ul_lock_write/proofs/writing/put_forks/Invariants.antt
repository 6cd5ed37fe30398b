use Rattle.std.proofs.Common.{◌≡◌, ◌++◌, ◌∷◌, [], take}
use Rattle.std.specs.Prelude.{flat_map}
use Rattle.ul_lock_write.specs.Sheet.{forks_key}
use Rattle.ul_lock_lines.specs.Raw.{keyed}
use Rattle.ul_lock_write.specs.Written.{item_text}
use Rattle.ul_lock_write.proofs.writing.put_forks.Given as goal

abbrev pub invariant-loop-fork : goal.invariant-loop-fork
invariant-loop-fork l = l.out.items ≡ (l.fn.out.items ++ keyed forks_key (91 ∷ 10 ∷ [])) ++ flat_map item_text (take l.fork-index l.forks)
