use Rattle.std.proofs.Common.{◌≡◌, true, false, ap, sym, ◌∙◌, arith}
use Rattle.ul_marker_text.specs.Nodes.{starts}
use Rattle.ul_marker_text.specs.StepViews.{path_from, step_view}
use Rattle.ul_marker_text.proofs.Grouped.{count_more, count_stop, count_end}
use Rattle.ul_marker_text.proofs.building.group_len.Goals as goal

pub loop-index-preserved : goal.loop-index-preserved
loop-index-preserved c =
    let s = step_view c.args.step.now in
    let path = c.index-paths-index.result in
    let e : starts s (path_from c.args.place path) ≡ true = sym c.starts_with.ensures ∙ c.if-not-starts_with.false in
    let more = count_more c.args.paths.now c.loop-index.index c.args.place path s c.loop-index-test.true (ap (λ z. starts s (path_from c.args.place z)) (sym c.index-paths-index.is) ∙ e) in
    omega (arith, more, c.loop-index.invariant)

pub returns-then-not-starts_with-clause-count : goal.returns-then-not-starts_with-clause-count
returns-then-not-starts_with-clause-count c =
    let s = step_view c.args.step.now in
    let path = c.index-paths-index.result in
    let e : starts s (path_from c.args.place path) ≡ false = sym c.starts_with.ensures ∙ c.if-not-starts_with.true in
    let none = count_stop c.args.paths.now c.loop-index.index c.args.place path s c.loop-index-test.true (ap (λ z. starts s (path_from c.args.place z)) (sym c.index-paths-index.is) ∙ e) in
    omega (arith, none, c.loop-index.invariant)

pub returns-clause-count : goal.returns-clause-count
returns-clause-count c =
    let none = count_end c.args.paths.now c.loop-index.index c.args.place (step_view c.args.step.now) (omega arith) in
    omega (arith, none, c.loop-index.invariant)
