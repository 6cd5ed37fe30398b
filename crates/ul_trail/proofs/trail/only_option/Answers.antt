use Rattle.std.proofs.Common.{subst, sym}
use Rattle.ul_problem.specs.declared.term.Term.{Term}
use Rattle.ul_trail.specs.Certain.{IsOnlyOption}
use Rattle.ul_trail.proofs.Certain.{only_in}
use Rattle.ul_trail.proofs.trail.only_option.Goals as goal

pub returns-in-In : goal.returns-in-In
returns-in-In c = subst (λ (q : Term). IsOnlyOption q c.only_member.result) (sym c.in-In.is) (only_in c.in-In.field-0 _ _ c.only_member.ensures)
