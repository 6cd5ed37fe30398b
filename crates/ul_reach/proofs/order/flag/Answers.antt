use Rattle.std.proofs.Common.{◌≡◌, inl, refl, ⊎_elim, inr, true}
use Rattle.std.proofs.lemmas.List.{length-set}
use Rattle.ul_reach.proofs.Flagged.{flag_cases}
use Rattle.ul_reach.proofs.order.flag.Goals as goal

pub returns-then-place-len-clause-only : goal.returns-then-place-len-clause-only
returns-then-place-len-clause-only c = λ k e. inl e

pub returns-clause-long : goal.returns-clause-long
returns-clause-long c = length-set c.args.flags.now.items c.args.place true

pub returns-clause-only : goal.returns-clause-only
returns-clause-only c = λ k e. ⊎_elim inl (λ q. inr q.0) (flag_cases c.args.flags.now.items c.args.place k true e)
