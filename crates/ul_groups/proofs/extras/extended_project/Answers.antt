use Rattle.ul_groups.proofs.ExtendedProjects.{no_groups}
use Rattle.ul_groups.proofs.extras.extended_project.Goals as goal

pub invariant_of-result : goal.invariant_of-result
invariant_of-result c = record {
  release = rw c.in_ok-kept.ensures.1 at c.with_extras-extended.ensures.one;
  extras = rw c.in_ok-kept.ensures.1 at c.with_extras-extended.ensures.rises;
  environments = rw c.in_ok-kept.ensures.0 c.project.invariant.environments;
  region = rw c.in_ok-kept.ensures.0 c.project.invariant.region;
  some = rw c.in_ok-kept.ensures.0 c.project.invariant.some;
  groups = no_groups c.new.result.items c.new.ensures.items;
}
