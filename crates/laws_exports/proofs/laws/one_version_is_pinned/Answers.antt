use Rattle.laws_exports.proofs.Pinned.{pins_one_version}
use Rattle.laws_exports.proofs.laws.one_version_is_pinned.Goals as goal

pub returns : goal.returns
returns c = pins_one_version
