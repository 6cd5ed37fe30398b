-- The lemmas that crates above may cite.

-- places of lists, and their beginnings
pub use Rattle.ul_trail.proofs.Places.{last_cases, get_more, get_last, take_front, take_whole, take_next}
pub use Rattle.ul_trail.proofs.Keeping.{get_cases, none_up_to, front_of, right_join}
-- facts, their levels, and what they leave open
pub use Rattle.ul_trail.proofs.Levels.{IsWithin, append_within, new_lowers, open_le, up_to-append, up_to-later, up_to-now, up_to-all, up_to-up_to, level_of-append, level_of-at}
pub use Rattle.ul_trail.proofs.Mirrors.{open_past}
pub use Rattle.ul_trail.proofs.Singles.{one_other, one_set, one_length}
pub use Rattle.ul_trail.proofs.Following.{derived_left, excluded_passed, facts_follow, one_has, one_first}
pub use Rattle.ul_trail.proofs.Settling.{negation_node, places_within}
pub use Rattle.ul_trail.proofs.Cuts.{cut_held, but_on}
pub use Rattle.ul_trail.proofs.Growing.{grown_level, grown_none, grown_join}
-- the steps of versions
pub use Rattle.ul_trail.proofs.Firsts.{version_has, version_more, pythons_more, one_only}
-- the sizes of nodes
pub use Rattle.ul_trail.proofs.Propagating.{sizes_length, sizes_at}
-- decided nodes, and the facts of roots
pub use Rattle.ul_trail.proofs.Decided.{first_is, place_decided}
pub use Rattle.ul_trail.proofs.Rooted.{root_undecided, root_there, roots_picks, facts_snoc, rooted_level}
pub use Rattle.ul_trail.proofs.Finished.{HasFact, pick_fact, held_in, pair_held, open_one_version, finished_serves}
