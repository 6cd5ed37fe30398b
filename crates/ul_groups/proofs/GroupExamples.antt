-- The worked examples of expanded groups, by computation.
use Rattle.std.proofs.Common.{refl}
use Rattle.ul_groups.specs.Expanded.{group_lists, with_entries, with_group}
use Rattle.ul_groups.specs.GroupVectors.{ExpandedGroups}

pub expanded_groups : ExpandedGroups
unfolding group_lists with_entries with_group
expanded_groups = record {
  each_once = refl;
  under_extras = refl;
  twice_a_requirement = refl;
  no_group = refl;
  itself = refl;
  in_a_circle = refl;
  lists_of_extras = refl;
}
