use Rattle.ul_project.proofs.NoFiles.{no_files}
use Rattle.ul_project.proofs.reading.package_of.Goals as goal

pub invariant_of-release-2 : goal.invariant_of-release-2
invariant_of-release-2 c = record { files = no_files c.new-2.result.items c.new-2.ensures.items }
