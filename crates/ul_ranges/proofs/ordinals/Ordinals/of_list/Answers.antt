use Rattle.ul_ranges.proofs.FormLaws.{members_kept}
use Rattle.ul_ranges.proofs.ordinals.Ordinals.of_list.Goals as goal

pub returns : goal.returns
returns c = members_kept _ _ _ c.requires c.in_ok-form.ensures
