use Rattle.std.proofs.Common.{◌<◌, ◌-◌, ℕ, length, refl, arith}
use Rattle.ul_region.proofs.Lent.{lent_there}
use Rattle.ul_region.proofs.asking.last_place.Goals as goal

pub returns-then-has_marker_of : goal.returns-then-has_marker_of
returns-then-has_marker_of c =
    let rs = c.args.requirements.now in
    let i : ℕ = length c.args.places.now - 1 in
    let one = c.index-requirements-count.result in
    let l : i < length rs = omega arith in
    record {
      index = i;
      other = one.now;
      within = omega arith;
      there = lent_there rs i one l c.index-requirements-count.is;
      alike = c.has_marker_of.ensures c.if-has_marker_of.true;
      is = refl;
    }
