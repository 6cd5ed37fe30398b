use Rattle.ul_requirement.proofs.NamedExtras.{unnamed_never_applies}
use Rattle.ul_requirement.proofs.laws.unnamed_never_applies.Goals as goal

pub returns : goal.returns
returns c = unnamed_never_applies
