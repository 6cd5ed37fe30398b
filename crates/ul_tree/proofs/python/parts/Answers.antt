use Rattle.std.proofs.Common.{◌++◌, map, sym, ap, ◌∙◌}
use Rattle.std.proofs.lemmas.List.{append-nil, drop_all}
use Rattle.ul_tree.specs.Pieces.{flipping}
use Rattle.ul_tree.specs.Views.{tree_view}
use Rattle.ul_tree.proofs.Stepped.{parts_step}
use Rattle.ul_tree.proofs.python.parts.Goals as goal

pub loop-start-preserved : goal.loop-start-preserved
loop-start-preserved c =
    parts_step c.loop-start.held c.loop-start.parts.items c.in_ok-parts-2.parts.items c.args.starts.now c.loop-start.start-index 0 c.loop-start-test.true c.in_ok-parts-2.ensures
    ∙ c.loop-start.invariant

pub returns : goal.returns
returns c =
    let parts = map tree_view c.loop-start.parts.items in
    let over = drop_all c.loop-start.start-index c.args.starts.now c.loop-start-test.false in
    sym (append-nil parts) ∙ ap (λ z. parts ++ flipping c.loop-start.held z) (sym over) ∙ c.loop-start.invariant
