use Rattle.std.proofs.Common.{◌<◌, ◌-◌, length, arith, sym, ap, ◌∙◌}
use Rattle.std.proofs.lemmas.Slice.Eq.{bytes_eq-Decides}
use Rattle.ul_requirement.specs.Fields.{RequirementFields}
use Rattle.ul_region.proofs.Lent.{lent_at, lent_below}
use Rattle.ul_region.proofs.numbers.repeats_name.Goals as goal

pub returns : goal.returns
returns c e =
    let rs = c.args.requirements.now in
    let i = c.args.place in
    let one = c.index-requirements-place-2.result in
    let other = c.index-requirements-place.result in
    let here : i < length rs = omega (arith, c.if-place-requirements.false) in
    let last : i - 1 < length rs = omega (arith, c.if-place-requirements.false) in
    record {
      last = i - 1;
      before = omega (arith, c.if-place-eq0.false);
      within = lent_below rs i here;
      one = one.now;
      one_at = lent_at rs (i - 1) one last c.index-requirements-place-2.is;
      other = other.now;
      other_at = lent_at rs i other here c.index-requirements-place.is;
      same = (bytes_eq-Decides one.now.name c.own.inside.name).0 (sym c.is_on.ensures ∙ e) ∙ ap (λ (r : RequirementFields). r.name) c.own.view_is;
    }
