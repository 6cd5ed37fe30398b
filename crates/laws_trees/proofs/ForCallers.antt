-- The lemmas that crates above may cite.

-- what is decided of truths, of statements made of others, of the elements of a list, and of the numbers below one
pub use Rattle.laws_trees.proofs.Deciding.{truth_decided, both_decided, either_decided, not_decided, decided_as}
pub use Rattle.laws_trees.proofs.Deciding.{each_of, each_member, some_member, member_decided, each_below, all_below}
-- whether texts, options, lists, versions, nodes and nodes at versions are equal
pub use Rattle.laws_trees.proofs.Sameness.{text_decided, option_decided, list_decided, version_decided}
pub use Rattle.laws_trees.proofs.Sameness.{node_decided, place_decided}
-- a list in order, and tests of its elements as flags
pub use Rattle.laws_trees.proofs.Ordered.{AreOrdered, ordered_exist}
pub use Rattle.laws_trees.proofs.Flags.{flag_at}
-- the versions of each name's releases differ
pub use Rattle.laws_trees.proofs.Catalogs.{releases_differ}
-- what is known of statements made of others, and of what is reached
pub use Rattle.laws_trees.proofs.Known.{IsKept, some_known, reached_known, decisions_kept}
pub use Rattle.laws_trees.proofs.Reaching.{By, by_all}
-- trees of joined truths of worlds
pub use Rattle.laws_trees.proofs.Truths.{always_has, negated_has, one_has}
-- what holds throughout a region
pub use Rattle.laws_trees.proofs.Regions.{throughout}
-- statements at worlds that have a tree
pub use Rattle.laws_trees.proofs.StatementTrees.{IsTreeOf, HasTreeOf, tree_by, truth_tree, region_by, decided_tree}
pub use Rattle.laws_trees.proofs.StatementTrees.{trees_kept, same_tree, given_tree, somewhere_decided}
