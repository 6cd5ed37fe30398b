use Rattle.std.proofs.Common.{ap}
use Rattle.ul_base.proofs.ForCallers.{made_holds}
use Rattle.ul_merge.proofs.merging.lock_with.Goals as goal

pub returns-clause-root : goal.returns-clause-root
returns-clause-root c = made_holds c.root_of.result c.in_ok-parts.root _ c.in_ok-parts.ensures.1 c.root_of.ensures

pub returns-clause-supported : goal.returns-clause-supported
returns-clause-supported c = ap (λ z. z.0) c.in_ok-parts.ensures.0

pub returns-clause-forks : goal.returns-clause-forks
returns-clause-forks c = ap (λ z. z.1.0) c.in_ok-parts.ensures.0

pub returns-clause-packages : goal.returns-clause-packages
returns-clause-packages c = ap (λ z. z.1.1) c.in_ok-parts.ensures.0
