use Rattle.std.proofs.Common.{◌≡◌, drop}
use Rattle.std.specs.List.{list_all}
use Rattle.ul_lock.specs.Targets.{have_targets}
use Rattle.ul_lock_read.proofs.targets.extras_lead_on.Given as goal

abbrev pub invariant-loop-extra : goal.invariant-loop-extra
invariant-loop-extra l = list_all (λ x. have_targets l.packages x.edges) (drop l.extra-index l.extras) ≡ list_all (λ x. have_targets l.packages x.edges) l.extras
