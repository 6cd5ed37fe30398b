use Rattle.std.proofs.Common.{◌≡◌, ◌++◌, map}
use Rattle.ul_index.specs.FileSets.{files_in}
use Rattle.ul_index.proofs.file_set.listed.Given as goal

abbrev pub invariant-loop-key : goal.invariant-loop-key
invariant-loop-key l = l.files.items ++ map (λ k. k.file) l.key-iterator ≡ files_in l.fn.set
