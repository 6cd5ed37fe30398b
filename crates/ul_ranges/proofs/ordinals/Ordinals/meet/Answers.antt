use Rattle.ul_ranges.proofs.FormLaws.{are_forms, made_both}
use Rattle.ul_ranges.proofs.ordinals.Ordinals.meet.Goals as goal

pub meet-requires : goal.meet-requires
meet-requires c = are_forms _ _ _ _ (record { left = record { is_form = c.self.invariant; view = c.self.view_is }; right = record { is_form = c.other.invariant; view = c.other.view_is }; sizes = c.requires })

pub returns : goal.returns
returns c = made_both _ _ _ _ (record { left = record { is_form = c.self.invariant; view = c.self.view_is }; right = record { is_form = c.other.invariant; view = c.other.view_is }; sizes = c.requires }) _ c.in_ok-form.ensures
