-- The lemmas that crates above cite: all else here may change.

-- ---- order, and equal trees
pub use Rattle.ul_nodes.proofs.Order.{cmp_itself, cmp_equal, cmp_back, cmp_over, cmp_trans, cmp_less, cmp_more}
pub use Rattle.ul_nodes.proofs.Sameness.{same_true, same_itself, same_false}
-- ---- branches by their keys
pub use Rattle.ul_nodes.proofs.Branchwise.{at_key, before_key, past_key, after, same_branches}
pub use Rattle.ul_nodes.proofs.PartsByKeys.{part_among, among_both, pick_among, outs_pick, outs_fit, starts_weaker, fits_weaker}
pub use Rattle.ul_nodes.proofs.PartsByKeys.{Rise, rise_keys, rise_merged, within_left, within_right, close_fits, close_holds}
-- ---- parts of nodes
pub use Rattle.ul_nodes.proofs.Halves.{from_count, from_end, rest_reduced, part_reduced, tree_past, tree_at, pick_before}
pub use Rattle.ul_nodes.proofs.Halves.{rest_here, rest_elsewhere, branches_here, branches_elsewhere, part_here, part_elsewhere}
-- ---- rows of results and parts
pub use Rattle.ul_nodes.proofs.Viewed.{own_viewed, first_viewed, last_viewed, earliest_viewed, latest_viewed, part_viewed, standing_viewed}
pub use Rattle.ul_nodes.proofs.Viewed.{own_known, first_known, last_known, earliest_known, latest_known, part_known, standing_known}
-- ---- branches that are being made, and closed levels
pub use Rattle.ul_nodes.proofs.Making.{then_none, then_then, made_push, stands_then, stands_kept, head_tail, all_push, next_kind}
pub use Rattle.ul_nodes.proofs.Closed.{one_mark}
