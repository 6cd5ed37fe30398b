use Rattle.std.proofs.Common.{subst}
use Rattle.ul_interner.specs.Known.{Knows}
use Rattle.ul_interner.proofs.ForCallers.{knows_then}
use Rattle.ul_region.specs.Truths.{PassView}
use Rattle.ul_forks.proofs.fork.fork_all.Goals as goal

pub returns-clause-knows : goal.returns-clause-knows
returns-clause-knows g c = knows_then _ _ _ (subst (λ (h : PassView). Knows h c.of_tree.new.self) c.begin-algebra.ensures c.of_tree.ensures.knows) c.in_ok-forks.ensures.knows
