use Rattle.ul_ranges.proofs.FormLaws.{are_forms, within_tested}
use Rattle.ul_ranges.proofs.ordinals.Ordinals.is_within.Goals as goal

pub is_within-requires : goal.is_within-requires
is_within-requires c = are_forms _ _ _ _ (record { left = record { is_form = c.self.invariant; view = c.self.view_is }; right = record { is_form = c.other.invariant; view = c.other.view_is }; sizes = c.requires })

pub returns : goal.returns
returns c = within_tested _ _ _ _ (record { left = record { is_form = c.self.invariant; view = c.self.view_is }; right = record { is_form = c.other.invariant; view = c.other.view_is }; sizes = c.requires }) _ c.is_within.ensures
