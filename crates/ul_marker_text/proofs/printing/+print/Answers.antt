use Rattle.std.proofs.Common.{◌∙◌, ap, sym, add-one, arith, string_bytes}
use Rattle.std.proofs.lemmas.Result.{on_ok_weaker}
use Rattle.ul_nodes.specs.Keys.{level_view, key_view, branches_of, branches_from}
use Rattle.ul_tree.specs.Views.{tree_view}
use Rattle.ul_nodes.proofs.ForCallers.{from_end, part_reduced}
use Rattle.ul_tree.proofs.ForCallers.{size_part}
use Rattle.ul_tree.specs.PathList.{interval, point, others, longer_paths, paths_to_true, paths_from, paths_at}
use Rattle.ul_marker_text.specs.Printing.{paths_behind}
use Rattle.ul_nodes.specs.Apply.{keys}
use Rattle.ul_marker_text.proofs.Behind.{false_behind, truth_behind, untrue_behind, pieces_paths, key_kind, piece_behind, point_behind, other_behind, points_step, points_done, node_behind, pieces_step, pieces_done}
use Rattle.ul_marker_text.proofs.printing.+print.Goals as goal

pub print-returns-then-known : goal.print-returns-then-known
print-returns-then-known t c =
    let same = truth_behind (string_bytes c.args.out.now) c.args.prefix.now (tree_view c.args.tree.now) (sym c.in-None.ensures) (sym c.if-known.ensures) in
    on_ok_weaker c.push_joined.result (λ told. told ∙ same) c.push_joined.ensures

pub print-returns-else-known : goal.print-returns-else-known
print-returns-else-known t c = untrue_behind (string_bytes c.args.out.now) c.args.prefix.now (tree_view c.args.tree.now) (sym c.in-None.ensures) (sym c.if-known.ensures)

pub print-returns-then-is_carried : goal.print-returns-then-is_carried
print-returns-then-is_carried t c = c.print_pieces.ensures

pub print-returns-else-is_carried : goal.print-returns-else-is_carried
print-returns-else-is_carried t c = c.print_points.ensures

pub print_piece-returns-then-is_false : goal.print_piece-returns-then-is_false
print_piece-returns-then-is_false t c =
    false_behind (string_bytes c.args.out.now) c.args.prefix.now (interval c.args.start c.args.end) (tree_view c.args.part.now) (sym c.if-is_false.ensures)

pub print_piece-returns : goal.print_piece-returns
print_piece-returns t c =
    let same = ap (λ z. paths_behind (string_bytes c.args.out.now) z (paths_to_true (tree_view c.args.part.now))) c.as_str.ensures.value
    ∙ piece_behind (string_bytes c.args.out.now) c.args.prefix.now (string_bytes c.in_ok-next.next) (string_bytes c.add_lower.new.out) (string_bytes c.add_upper.new.out) c.args.start c.args.end
    (paths_to_true (tree_view c.args.part.now)) c.in_ok-next.ensures.ok c.in_ok-add_lower.ensures c.in_ok-add_upper.ensures in
    on_ok_weaker c.print.result (λ told. told ∙ same) c.print.ensures

pub print_point-returns-then-is_false : goal.print_point-returns-then-is_false
print_point-returns-then-is_false t c =
    false_behind (string_bytes c.args.out.now) c.args.prefix.now (point (level_view c.args.level) (key_view c.args.key)) (tree_view c.args.part.now) (sym c.if-is_false.ensures)

pub print_point-returns : goal.print_point-returns
print_point-returns t c =
    let same = ap (λ z. paths_behind (string_bytes c.args.out.now) z (paths_to_true (tree_view c.args.part.now))) c.as_str.ensures.value
    ∙ point_behind (string_bytes c.args.out.now) c.args.prefix.now (string_bytes c.in_ok-next.next) (string_bytes c.add_key.new.out) (level_view c.args.level) (key_view c.args.key)
    (paths_to_true (tree_view c.args.part.now)) c.in_ok-next.ensures.ok c.in_ok-add_key.ensures in
    on_ok_weaker c.print.result (λ told. told ∙ same) c.print.ensures

pub print_points-print_point-requires : goal.print_points-print_point-requires
print_points-print_point-requires t c =
    let a = tree_view c.args.tree.now in
    let m = size_part a _ _ _ c.loop-index.index c.branch_at-branch.ensures.found in
    let d = (c.requires.1).0 in (
      omega (arith, m, d),
      (key_kind a (level_view c.args.level) _ ((c.requires.1).1).0 c.branch_at-branch.ensures.kind, ((((c.requires.1).1).1).0, part_reduced a _ _ _ c.loop-index.index (((c.requires.1).1).1).1 c.branch_at-branch.ensures.found)),
    )

pub print_points-loop-index-preserved : goal.print_points-loop-index-preserved
print_points-loop-index-preserved t c =
    let bs = branches_of (tree_view c.args.tree.now) in
    ap (λ j. paths_behind (string_bytes c.print_point.new.out) c.args.prefix.now (paths_at (level_view c.args.level) (branches_from j bs))) (add-one c.loop-index.index)
    ∙ points_step _ _ _ _ _ _ _ _ c.branch_at-branch.ensures.found c.in_ok-print_point.ensures
    ∙ c.loop-index.invariant

pub print_points-returns-then-is_false : goal.print_points-returns-then-is_false
print_points-returns-then-is_false t c =
    let a = tree_view c.args.tree.now in
    let bs = branches_of a in
    let l = level_view c.args.level in
    let e = points_done l (string_bytes c.loop-index.out) c.args.prefix.now (branches_from c.loop-index.index bs) (from_end bs c.loop-index.index (omega (arith, c.branch_count-index-end.ensures))) ∙ c.loop-index.invariant in
    let f = false_behind (string_bytes c.loop-index.out) c.args.prefix.now (others l (keys bs)) (tree_view c.rest_of-rest.result.now) (sym c.if-is_false.ensures) in
    node_behind (string_bytes c.args.out.now) (string_bytes c.loop-index.out) (string_bytes c.loop-index.out) c.args.prefix.now l a ((c.requires.1).1).0 (((c.requires.1).1).1).0 e
    (f ∙ ap (λ z. paths_behind (string_bytes c.loop-index.out) c.args.prefix.now (longer_paths (others l (keys bs)) (paths_to_true z))) c.rest_of-rest.ensures)

pub print_points-returns : goal.print_points-returns
print_points-returns t c =
    let a = tree_view c.args.tree.now in
    let bs = branches_of a in
    let l = level_view c.args.level in
    let e = points_done l (string_bytes c.loop-index.out) c.args.prefix.now (branches_from c.loop-index.index bs) (from_end bs c.loop-index.index (omega (arith, c.branch_count-index-end.ensures))) ∙ c.loop-index.invariant in
    let same = ap (λ z. paths_behind (string_bytes c.loop-index.out) z (paths_to_true (tree_view c.rest_of-rest.result.now))) c.as_str.ensures.value
    ∙ other_behind (string_bytes c.loop-index.out) c.args.prefix.now (string_bytes c.in_ok-next.next) l bs (paths_to_true (tree_view c.rest_of-rest.result.now)) c.in_ok-next.ensures
    ∙ ap (λ z. paths_behind (string_bytes c.loop-index.out) c.args.prefix.now (longer_paths (others l (keys bs)) (paths_to_true z))) c.rest_of-rest.ensures in
    on_ok_weaker c.print.result
    (λ told. node_behind (string_bytes c.args.out.now) (string_bytes c.loop-index.out) (string_bytes c.print.new.out) c.args.prefix.now l a ((c.requires.1).1).0 (((c.requires.1).1).1).0 e (told ∙ same)) c.print.ensures

pub print_pieces-loop-index-preserved : goal.print_pieces-loop-index-preserved
print_pieces-loop-index-preserved t c =
    let a = tree_view c.args.tree.now in
    let bs = branches_of a in
    let out = string_bytes c.print_piece.new.out in
    record {
      reduced = part_reduced a _ _ _ c.loop-index.index ((c.requires.1).1).1 c.branch_at-branch.ensures.found;
      smaller = size_part a _ _ _ c.loop-index.index c.branch_at-branch.ensures.found;
      left = ap (λ j. paths_behind out c.args.prefix.now (paths_from c.number_of-end.result (paths_to_true (tree_view c.branch_at-branch.result.part.now)) (branches_from j bs))) (add-one c.loop-index.index)
          ∙ pieces_step _ _ (tree_view c.loop-index.part.now) c.loop-index.start c.number_of-end.result _ _ _ _ _ c.branch_at-branch.ensures.found c.number_of-end.ensures c.in_ok-print_piece.ensures
          ∙ c.loop-index.invariant.left;
    }

pub print_pieces-returns : goal.print_pieces-returns
print_pieces-returns t c =
    let a = tree_view c.args.tree.now in
    let bs = branches_of a in
    let last = from_end bs c.loop-index.index (omega (arith, c.branch_count-index-end.ensures)) in
    let same = c.loop-index.invariant.left ∙ ap (paths_behind (string_bytes c.args.out.now) c.args.prefix.now) (sym (pieces_paths a ((c.requires.1).1).0)) in
    on_ok_weaker c.print_piece-2.result
    (λ told. pieces_done (tree_view c.loop-index.part.now) c.loop-index.start (string_bytes c.loop-index.out) (string_bytes c.print_piece-2.new.out) c.args.prefix.now (branches_from c.loop-index.index bs) last told ∙ same) c.print_piece-2.ensures
