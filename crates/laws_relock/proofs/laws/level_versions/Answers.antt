use Rattle.laws_relock.proofs.Levels.{level_versions_are_equal as law}
use Rattle.laws_relock.proofs.laws.level_versions.Goals as goal

pub returns : goal.returns
returns c = law c.eligible_same.ensures
