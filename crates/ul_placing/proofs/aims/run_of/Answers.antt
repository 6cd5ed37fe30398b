use Rattle.std.proofs.Common.{◌<◌, ℕ, List, length, refl, ap, sym, subst, ◌∙◌, arith}
use Rattle.ul_problem.specs.declared.problem.Need.{Need}
use Rattle.ul_region.specs.Truths.{region_at}
use Rattle.ul_placing.specs.Aims.{AreFirmNeeds}
use Rattle.ul_placing.proofs.Lists.{read_there}
use Rattle.ul_placing.proofs.Aiming.{row_is, row_long}
use Rattle.ul_placing.proofs.Running.{first_firm}
use Rattle.ul_placing.proofs.aims.run_of.Goals as goal

pub version_aims-requires-clause-aims : goal.version_aims-requires-clause-aims
version_aims-requires-clause-aims c =
    let l : c.args.first < length c.args.planned.now.rows.items = omega (arith, c.requires.first, c.requires.end) in
    ap length c.as_slice.ensures ∙ row_long c.args.algebra.now c.args.place.now.truths.now c.args.planned.now c.args.first c.index.result.now c.index-2.result.now c.requires.rows l c.index.ensures c.index-2.ensures

pub version_aims-requires-clause-at : goal.version_aims-requires-clause-at
version_aims-requires-clause-at c =
    let l : c.args.first < length c.args.planned.now.rows.items = omega (arith, c.requires.first, c.requires.end) in
    record { place = c.requires.place; row = row_is c.args.algebra.now c.args.place.now.truths.now c.args.planned.now c.args.first c.index.result.now c.requires.rows l c.index.ensures }

pub returns : goal.returns
returns c =
    let l : c.args.first < length c.args.planned.now.rows.items = omega (arith, c.requires.first, c.requires.end) in
    record {
      count = refl;
      firm = first_firm (region_at c.args.place.now.region.now) c.args.planned.now c.args.first c.index.result.now c.index-2.result.now c.in_ok-needs.needs
          (read_there c.args.planned.now.rows.items c.args.first c.index.result.now l c.index.ensures)
          (read_there c.args.planned.now.aims.items c.args.first c.index-2.result.now (subst (λ (n : ℕ). c.args.first < n) (sym c.requires.rows.count) l) c.index-2.ensures)
          (subst (λ (z : List (List Need)). AreFirmNeeds (region_at c.args.place.now.region.now) c.args.planned.now.node c.index.result.now z c.in_ok-needs.needs) c.as_slice.ensures c.in_ok-needs.ensures);
    }
