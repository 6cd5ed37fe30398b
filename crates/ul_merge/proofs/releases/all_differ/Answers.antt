use Rattle.std.proofs.Common.{subst}
use Rattle.std.specs.Prelude.{All}
use Rattle.ul_merge.proofs.ReleaseFacts.{HasDiffering, names_differ}
use Rattle.ul_merge.proofs.releases.all_differ.Goals as goal

pub returns : goal.returns
returns c = names_differ _ (subst (All HasDiffering) c.packages-packages.ensures.packages c.each_differs.ensures)
