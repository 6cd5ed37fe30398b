use Rattle.ul_split.proofs.Worlds.{none_at_worlds}
use Rattle.ul_split.proofs.laws.none_at_worlds.Goals as goal

pub returns : goal.returns
returns c = none_at_worlds c.core_laws.ensures.refuses
