use Rattle.std.proofs.Common.{◌≡◌, map, take}
use Rattle.std.specs.Prelude.{All}
use Rattle.ul_region.specs.Truths.{IsGrown}
use Rattle.ul_prepared.specs.Lists.{listed_in}
use Rattle.ul_prepared.specs.Shared.{IsFitted, fitted_in}
use Rattle.ul_prepared.proofs.shared.fitted_releases.Given as goal

abbrev pub invariant-loop-listed : goal.invariant-loop-listed
invariant-loop-listed g l = record {
  grown : IsGrown l.initial.algebra l.initial.truths.marks.items l.algebra l.truths.marks.items;
  fitted : All (IsFitted l.algebra l.truths.marks.items) l.list.items;
  listed : map fitted_in l.list.items ≡ map listed_in (take l.listed-index l.releases);
}
