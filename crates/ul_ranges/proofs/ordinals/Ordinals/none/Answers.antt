use Rattle.ul_ranges.proofs.FormLaws.{none_kept}
use Rattle.ul_ranges.proofs.ordinals.Ordinals.none.Goals as goal

pub returns : goal.returns
returns c = none_kept _ _ c.none.ensures
