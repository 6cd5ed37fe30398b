use Rattle.std.proofs.Common.{ap, length}
use Rattle.ul_requirement.specs.Fields.{PackageFields}
use Rattle.ul_project.proofs.reading.project_with.Goals as goal

pub invariant_of-result : goal.invariant_of-result
invariant_of-result c = record {
  release = ap (λ (p : PackageFields). length p.releases) (rw c.in_ok-kept-2.ensures.1 at c.package_of-package.ensures);
  extras = rw (c.in_ok-kept-2.ensures.0, c.in_ok-kept.ensures.0) c.file.invariant.extras_rise;
  environments = rw (c.in_ok-kept-2.ensures.0, c.in_ok-kept.ensures.0) c.settings.invariant;
  region = rw (c.in_ok-kept-2.ensures.0, c.in_ok-kept.ensures.0) c.requires.region;
  some = rw (c.in_ok-kept-2.ensures.0, c.in_ok-kept.ensures.0) c.requires.some;
  groups = rw (c.in_ok-kept-2.ensures.0, c.in_ok-kept.ensures.0) c.file.invariant.groups_rise;
}
