use Rattle.std.proofs.Common.{refl}
use Rattle.ul_ranges.specs.Flags.{set_of, front}
use Rattle.ul_ranges.proofs.examples.sets.Goals as goal

pub returns : goal.returns
unfolding set_of front
returns c = record {
  listed = refl;
  meet = refl;
  join = refl;
  left = refl;
  right = refl;
  front = refl;
  fronts = refl;
  blank = refl;
  filled = refl;
  within = refl;
  without = refl;
  apart = refl;
  meeting = refl;
  past = refl;
  first = refl;
  absent = refl;
}
