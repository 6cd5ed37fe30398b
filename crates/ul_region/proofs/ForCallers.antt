-- The lemmas that crates above may cite.

-- what a selection has for a node stands in it
pub use Rattle.ul_region.proofs.Choices.{chosen_in}
-- diagrams where more is known, and what is read at a place
pub use Rattle.ul_region.proofs.TruthFacts.{still, truth_still, all_still}
pub use Rattle.ul_region.proofs.AskedFacts.{read_at}
-- rows where more is known and more truths are put
pub use Rattle.ul_region.proofs.RowFacts.{grown_itself, grown_knows, grown_then, truth_grown, asked_grown, row_grown}
-- a diagram of a truth stands for a region
pub use Rattle.ul_region.proofs.TruthFacts.{is_region}
-- unions of regions, a truth in other words, and what two clauses of a call tell
pub use Rattle.ul_region.proofs.UnionFacts.{if_both, other_words, union_truth, none_union, one_union, both_union, still_region, back_still, some_append}
-- places for a selection of eligible versions, and how much of the problem they serve: each part by one premise
pub use Rattle.ul_region.proofs.Placing.{matching}
pub use Rattle.ul_region.proofs.Bridge.{Picked, picked_at, stands, within_size, rooted, fit_at, base_at, met}
-- what holds throughout a region or fails somewhere in it, decided
pub use Rattle.ul_region.proofs.Existing.{everywhere_decided, throughout_decided}
-- which requirements of a list a row has: those that may be true at the node, so each that is applied, and each firm one
pub use Rattle.ul_region.proofs.AskedLists.{asked_may, asked_applied, asked_firm, asked_listed}
-- a walk over the requirements of a row
pub use Rattle.ul_region.proofs.AskedFacts.{asked_at}
pub use Rattle.ul_region.proofs.Firsts.{fails, item_in}
-- the formulas of markers that are joined
pub use Rattle.ul_region.proofs.MarkerFacts.{view_all, view_any}
