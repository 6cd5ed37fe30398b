use Rattle.std.proofs.Common.{◌≡◌, drop}
use Rattle.std.specs.List.{list_all}
use Rattle.ul_version.specs.Fields.{is_pre_of}
use Rattle.ul_index.proofs.eligibility.are_pre.Given as goal

abbrev pub invariant-loop-release : goal.invariant-loop-release
invariant-loop-release l =
    list_all (λ r. is_pre_of r.version) l.releases ≡ list_all (λ r. is_pre_of r.version) (drop l.release-index l.releases)
