use Rattle.std.proofs.Common.{◌≡◌, true, sym, ◌∙◌}
use Rattle.ul_tree.specs.FirstParts.{is_false}
use Rattle.ul_tree.specs.Views.{tree_view}
use Rattle.ul_tree.proofs.NextParts.{pieces_more}
use Rattle.ul_tree.proofs.samples.first_piece.Goals as goal

pub loop-index-preserved : goal.loop-index-preserved
loop-index-preserved c =
    let empty : is_false (tree_view c.index-parts-index.result) ≡ true = sym (c.if-not-is_false.ensures) in
    sym (pieces_more c.args.starts.now c.args.parts.now c.loop-index.index c.index-parts-index.result c.requires c.loop-index-test.true c.index-parts-index.is empty) ∙ c.loop-index.invariant
