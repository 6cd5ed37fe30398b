use Rattle.std.proofs.Common.{◌≡◌, map, take}
use Rattle.std.specs.Prelude.{All}
use Rattle.ul_prepared.specs.Lists.{IsListed, lists_of, release_listed}
use Rattle.ul_prepared.proofs.releases.listed_releases.Given as goal

abbrev pub invariant-loop-release : goal.invariant-loop-release
invariant-loop-release l = record {
  same : map release_listed l.releases.items ≡ map (λ r. r.now) (take l.release-index l.list);
  listed : All (IsListed (lists_of l.lists.items)) l.releases.items;
}
