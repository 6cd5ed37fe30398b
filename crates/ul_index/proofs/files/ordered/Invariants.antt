use Rattle.std.proofs.Common.{◌≡◌}
use Rattle.std.specs.Vec.Iter.{into_iter_items}
use Rattle.ul_index.specs.Documents.{ordered_files}
use Rattle.ul_index.specs.FileSets.{files_in, has_name}
use Rattle.ul_index.proofs.FileOrder.{Holds, ordered_behind}
use Rattle.ul_index.proofs.files.ordered.Given as goal

abbrev pub invariant-loop-file : goal.invariant-loop-file
invariant-loop-file l =
    Holds l.yielded (has_name l.set)
    × (ordered_files l.fn.files.items ≡ ordered_behind l.yielded (files_in l.set) (into_iter_items l.file-iterator))
