use Rattle.ul_load.specs.Views.{progress_view}
use Rattle.ul_load.proofs.Growth.{grown}
use Rattle.ul_load.proofs.progress.Progress.catalog.Goals as goal

pub of-requires : goal.of-requires
of-requires c = grown (progress_view c.args.self) c.requires.kept c.requires.whole c.len-count.ensures.unique
