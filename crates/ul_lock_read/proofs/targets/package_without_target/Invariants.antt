use Rattle.std.proofs.Common.{◌≡◌, drop}
use Rattle.std.specs.Prelude.{not}
use Rattle.std.specs.List.{position_from}
use Rattle.ul_lock.specs.Targets.{package_leads_on, first_without_target}
use Rattle.ul_lock_read.proofs.targets.package_without_target.Given as goal

abbrev pub invariant-loop-k : goal.invariant-loop-k
invariant-loop-k l = position_from (λ b. not (package_leads_on l.packages b)) l.k (drop l.k l.packages) ≡ first_without_target l.packages
