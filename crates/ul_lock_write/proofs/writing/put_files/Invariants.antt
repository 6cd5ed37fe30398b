use Rattle.std.proofs.Common.{◌≡◌, ◌++◌, ◌∷◌, [], take}
use Rattle.std.specs.Prelude.{flat_map}
use Rattle.ul_lock_write.specs.Sheet.{files_key}
use Rattle.ul_lock_lines.specs.Raw.{keyed}
use Rattle.ul_lock_write.specs.Written.{file_bytes}
use Rattle.ul_lock_write.proofs.writing.put_files.Given as goal

abbrev pub invariant-loop-file : goal.invariant-loop-file
invariant-loop-file l = l.out.items ≡ (l.fn.out.items ++ keyed files_key (91 ∷ 10 ∷ [])) ++ flat_map file_bytes (take l.file-index l.files)
