use Rattle.std.proofs.Common.{◌∙◌, sym}
use Rattle.ul_comparison.proofs.ForCallers.{same_atom}
use Rattle.ul_requirement.proofs.same.same_atom.Goals as goal

pub returns-in-Equal : goal.returns-in-Equal
returns-in-Equal c = λ _. same_atom c.args.one.now c.args.other.now (sym c.cmp.ensures ∙ c.in-Equal.is)
