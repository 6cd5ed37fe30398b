use Rattle.ul_base.proofs.Names.{name_is_plain}
use Rattle.ul_base.proofs.laws.normal_forms.Goals as goal

pub returns-clause-plain : goal.returns-clause-plain
returns-clause-plain c = name_is_plain
