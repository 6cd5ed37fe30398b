use Rattle.ul_ranges.proofs.FormLaws.{blank_tested}
use Rattle.ul_ranges.proofs.ordinals.Ordinals.is_empty.Goals as goal

pub returns : goal.returns
returns c = blank_tested _ _ (record { is_form = c.self.invariant; view = c.self.view_is }) _ c.is_empty.ensures
