-- The lemmas that crates above may cite.

-- one of a list, by its head and by what follows, and its place
pub use Rattle.ul_problem.proofs.Members.{at_head, in_rest, head_or_rest, in_none, one_place, place_one, one_left, one_right, one_cases}
-- what the rules of a problem give
pub use Rattle.ul_problem.proofs.Rules.{all_at, all_one, some_root, root_single, root_base, node_whole, at_node, node_of_size, node_of_base, barred_size, need_base, need_fits, base_fits}
-- a test of an answer, and of each of a list
pub use Rattle.ul_problem.proofs.Loops.{ok_then, IsAlike}
-- terms and lists of terms
pub use Rattle.ul_problem.proofs.TermLaws.{allows-meet, allows-join, allows-negation, may_hold-written, term_on-before, ordered_more, and_left', and_right', and_both, all_from, met_parts}
pub use Rattle.ul_problem.proofs.Relations.{relation_exact}
pub use Rattle.ul_problem.proofs.Merging.{meet_node, join_node, on_here, on_past, same_terms_on, one_resolvent, first_of_rest}
-- what steps say
pub use Rattle.ul_problem.proofs.Said.{said_append, said_length, said_place, said_of}
pub use Rattle.ul_problem.proofs.Wholes.{AreWithin, term_one, fits_at, says_whole, says_fits, said_fits, right_within, all_within, resolvent_whole, resolvent_fits, heads_level, two_level}
pub use Rattle.ul_problem.proofs.Soundness.{IsSound, AreSound, step_place, step_sound, sound_more, all_sound, right_forbids, resolvent_holds, cut_sound, has_within, closed, accepted_none}
-- best lists
pub use Rattle.ul_problem.proofs.Decided.{first_taken_once, best_list_once, agreed_version, version_of_decided}
pub use Rattle.ul_problem.proofs.BestLaws.{best_one_from, trailed_best, decided_version, pick_of, none_open, wanted_one, IsAsked, asked_base, asked_all, open_one, best_serves, not_decided, agrees_more}
