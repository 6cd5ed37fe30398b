use Rattle.std.proofs.Common.{arith, sym, ◌∙◌, ◌<◌, length}
use Rattle.ul_ranges.proofs.ForCallers.{within}
use Rattle.ul_derivation.proofs.Needs.{one_at, need_here}
use Rattle.ul_derivation.proofs.checks.is_need_at.Goals as goal

pub is_within-requires : goal.is_within-requires
is_within-requires c =
    let inside : c.args.place < length c.args.needs.now = omega arith in
    c.requires c.index-needs-place.result (one_at c.args.needs.now c.args.place c.index-needs-place.result inside c.index-needs-place.is) c.if-need-target.true

pub returns-then-need-target : goal.returns-then-need-target
returns-then-need-target c = λ e.
    let inside : c.args.place < length c.args.needs.now = omega arith in
    need_here c.args.needs.now c.args.place c.index-needs-place.result c.args.target c.args.permitted.now inside c.index-needs-place.is c.if-need-target.true
    ((within _ _).0 (sym c.is_within.ensures ∙ e))
