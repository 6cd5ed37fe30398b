use Rattle.std.proofs.Common.{Vec, Global, option_map, sym, subst}
use Rattle.ul_inputs.specs.Locks.{Kept, old_lock}
use Rattle.ul_inputs.specs.Refusals.{Answers}
use Rattle.ul_inputs.proofs.locks.old_lock.Goals as goal

pub returns-in-Some-clause-told : goal.returns-in-Some-clause-told
returns-in-Some-clause-told g c m a =
    subst (λ o. Answers (λ (k : Vec Kept Global). k.items) c.kept_at.result (old_lock (option_map (λ p. p.now) o) m)) (sym c.in-Some.is) (c.kept_at.ensures.told m a)
