-- What crates above may cite.
pub use Rattle.ul_core.proofs.RunsLaw.{each_run_is_sound, each_tree_stays, sound_run, run_more, log_here, log_else, shard_below}
pub use Rattle.ul_core.proofs.TreeParts.{hash-tree_with, parts_of_tree_with, label_of_tree_with}
