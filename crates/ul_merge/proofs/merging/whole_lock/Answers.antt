use Rattle.std.proofs.Common.{Some, ap, sym, ◌∙◌}
use Rattle.ul_merge.specs.Over.{lock_by}
use Rattle.ul_merge.proofs.merging.whole_lock.Goals as goal

pub returns-in_ok-lock-in-Some : goal.returns-in_ok-lock-in-Some
returns-in_ok-lock-in-Some c =
    let lock = c.in_ok-lock-in-Some.ensures in
    (λ i. Some (record {
      root = lock.root i;
      supported = lock.supported i;
      forks = lock.forks i;
      packages = lock.packages i;
    }))
    ∙ sym (ap (lock_by c.args.project.now.package.name) c.in-Some.is)
