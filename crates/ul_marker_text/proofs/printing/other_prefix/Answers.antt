use Rattle.std.proofs.Common.{◌∙◌, ap, add-one, arith, string_bytes}
use Rattle.ul_nodes.specs.Keys.{level_view, branches_of, branches_from}
use Rattle.ul_tree.specs.Views.{tree_view}
use Rattle.ul_nodes.proofs.ForCallers.{from_end}
use Rattle.ul_nodes.specs.Apply.{keys}
use Rattle.ul_marker_text.specs.Printing.{others_joined}
use Rattle.ul_marker_text.proofs.Behind.{others_step, others_done, key_kind}
use Rattle.ul_marker_text.proofs.printing.other_prefix.Goals as goal

pub add_key-requires : goal.add_key-requires
add_key-requires c = record { kind = key_kind (tree_view c.args.tree.now) (level_view c.args.level) _ c.requires.top c.branch_at.ensures.kind; points = c.requires.points }

pub loop-index-init : goal.loop-index-init
loop-index-init c = ap (λ z. others_joined (level_view c.args.level) z (keys (branches_of (tree_view c.args.tree.now)))) c.in_ok-next.ensures.ok

pub loop-index-preserved : goal.loop-index-preserved
loop-index-preserved c =
    let bs = branches_of (tree_view c.args.tree.now) in
    ap (λ j. others_joined (level_view c.args.level) (string_bytes c.add_key.new.out) (keys (branches_from j bs))) (add-one c.loop-index.index)
    ∙ others_step _ _ _ _ _ _ _ c.branch_at.ensures.found c.in_ok-add_key.ensures
    ∙ c.loop-index.invariant

pub returns : goal.returns
returns c =
    let bs = branches_of (tree_view c.args.tree.now) in
    others_done (level_view c.args.level) (string_bytes c.loop-index.next) (branches_from c.loop-index.index bs) (from_end bs c.loop-index.index (omega (arith, c.branch_count-index-end.ensures))) ∙ c.loop-index.invariant
