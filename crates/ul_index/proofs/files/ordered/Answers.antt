use Rattle.std.proofs.Common.{ap}
use Rattle.ul_index.specs.Documents.{has_file}
use Rattle.ul_index.specs.FileSets.{files_in}
use Rattle.ul_index.proofs.FileOrder.{ordered_start}
use Rattle.ul_index.proofs.files.ordered.Goals as goal

pub loop-file-init : goal.loop-file-init
loop-file-init c = (
  λ name. ap (λ fs. has_file fs name) c.new-set.ensures,
  rw c.into_iter-file-iterator.ensures.into_iter_gives.0 (ordered_start c.args.files.items (files_in c.new-set.result) c.new-set.ensures),
)
