-- The lemmas that crates above cite: all else here may change.

-- ---- equal trees
pub use Rattle.ul_tree.proofs.Extras.{one_truth_one_tree}
pub use Rattle.ul_tree.proofs.Existence.{holds_somewhere}
-- ---- parts of nodes
pub use Rattle.ul_tree.proofs.Compared.{size_rest, size_part}
pub use Rattle.ul_tree.proofs.Shapes.{view_truth, view_extra, view_python, view_text, view_opaque}
-- ---- joining
pub use Rattle.ul_tree.proofs.Applied.{applied}
pub use Rattle.ul_tree.proofs.JoinedTrees.{operations}
pub use Rattle.ul_tree.proofs.Smaller.{rests_smaller, parts_smaller}
pub use Rattle.ul_tree.proofs.Steps.{no_key, step_kept, keys_left, applied_is, closed_reduced, rest_at_reduced, part_at_reduced}
pub use Rattle.ul_tree.proofs.Shortcuts.{enough, one_result, at_once, apply_steps, join_shortcuts, implies_by_join}
-- ---- rows of branches, parts and results that are being made
pub use Rattle.ul_nodes.proofs.ForCallers.{then_none, made_push}
pub use Rattle.ul_tree.proofs.PiecesInCode.{filled_step, results_more, results_step, results_end, kinds_step, kind_step}
pub use Rattle.ul_tree.proofs.PiecesInCode.{parts_fit, parts_reduced, first_reduced, other_reduced}
-- ---- simplifying
pub use Rattle.ul_tree.proofs.SimplifySteps.{tree_part, tree_rest, region_part, region_rest, part_smaller, rest_smaller, false_is, not_false_is}
pub use Rattle.ul_tree.proofs.SimplifySteps.{piece_outside, piece_inside, piece_more, no_more, truth_done, all_done, lowered_done, level_done}
pub use Rattle.ul_tree.proofs.SimplifySteps.{result_reduced, results_reduced, simpler_reduced}
pub use Rattle.ul_tree.proofs.Settled.{filled_fit, own_fits, earliest_fits, latest_fits}
pub use Rattle.ul_tree.proofs.Lowering.{lowers_itself, lowers_union, union_step, joined_or, union_joined, halves_joined, one_part, no_branches}
pub use Rattle.ul_tree.proofs.LevelsLeft.{HasLevelsOf, levels_left, has_own_levels, union_has_levels, union_leaves_fewer}
pub use Rattle.ul_tree.proofs.Exists.{simplify_laws}
-- ---- trees of one comparison
pub use Rattle.ul_tree.proofs.Leaves.{turned, text_below, mark_eq, extra_reduced, text_reduced, opaque_reduced}
pub use Rattle.ul_tree.proofs.Stepped.{stepped_holds, steps_fit, stepped_fits}
pub use Rattle.ul_tree.proofs.Cuts.{number_back}
pub use Rattle.ul_tree.proofs.Walks.{variable_back, kind_back, atom_back, level_back, atom_found, no_extra_fits}
pub use Rattle.ul_tree.proofs.Atoms.{Each}
-- ---- paths to true
pub use Rattle.ul_tree.proofs.Tools.{eqb_self, eqb_less, eqb_positive, bytes_self, less_differs, step_self}
pub use Rattle.ul_tree.proofs.FanTrees.{Rising, Increasing, is_python, rising_fits, first_positive, increasing_fits, starts_after, tree_back}
pub use Rattle.ul_tree.proofs.Counted.{counted}
pub use Rattle.ul_tree.proofs.Truths.{paths_truth}
pub use Rattle.ul_tree.proofs.FirstPaths.{sample_is_first}
-- ---- trees of regions
pub use Rattle.ul_tree.proofs.TreeTruths.{both_and, region_tree, has_and, has_not, region_truth, always, asks_alike, no_extra}
