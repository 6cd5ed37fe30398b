-- The lemmas that crates above may cite.
pub use Rattle.ul_ranges.proofs.FlagLaws.{has-both, has-either, has-less, length-both, length-either, length-less, blank_none, blank_some, none_blank, same_sets, within, apart, length-set_of, has-set_of, set_members, length-front, has-front, front_members, any_in, in_any, first_none, none_first, first_some}
