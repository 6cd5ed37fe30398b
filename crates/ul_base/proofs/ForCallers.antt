-- The lemmas that crates above may cite.

-- a name is a name in its normal form, reads as itself, and is digits, lower-case letters and `-` alone
pub use Rattle.ul_base.proofs.Names.{name_reads, name-is_name, name-normal_form, form_is_name, name_reads_itself, name_is_plain}
-- what stands above a name is a greater name
pub use Rattle.ul_base.proofs.NameAbove.{above_is_name, name_below}
-- nodes that are level in their order are equal
pub use Rattle.ul_base.proofs.Nodes.{node_cmp_same}
-- elements of lists that are mapped, joined and searched
pub use Rattle.ul_base.proofs.Lists.{some_is, at_map, long_map, contains_map, contains_first, contains_later, only_one, none_in, bytes_eq-same}
pub use Rattle.ul_base.proofs.Members.{contains_cases, contains_from_map, contains_flat, contains_from_flat, found_in, none_found}
-- what is kept of a list, and its first element at which something holds
pub use Rattle.ul_base.proofs.Members.{kept_has, kept_from}
pub use Rattle.ul_base.proofs.KeptLists.{kept_once, kept_by, first_once, first_holds, first_in}
-- loops that look for the first
pub use Rattle.ul_base.proofs.KeptLists.{first_at, first_next, none_next, none_at_all}
-- places in lists that increase
pub use Rattle.ul_base.proofs.Increasing.{after, tail, one_place}
-- a property of each beginning that each step keeps holds of all that is reached
pub use Rattle.ul_base.proofs.Reaching.{reached_in}
-- what a call told of its answer holds of what it made
pub use Rattle.ul_base.proofs.HandedOn.{made_holds}
