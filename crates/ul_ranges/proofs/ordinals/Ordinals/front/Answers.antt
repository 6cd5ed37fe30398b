use Rattle.ul_ranges.proofs.FormLaws.{front_kept}
use Rattle.ul_ranges.proofs.ordinals.Ordinals.front.Goals as goal

pub returns : goal.returns
returns c = front_kept _ _ _ c.requires c.in_ok-form.ensures
