use Rattle.ul_ranges.proofs.FormLaws.{are_forms, made_either}
use Rattle.ul_ranges.proofs.ordinals.Ordinals.join.Goals as goal

pub join-requires : goal.join-requires
join-requires c = are_forms _ _ _ _ (record { left = record { is_form = c.self.invariant; view = c.self.view_is }; right = record { is_form = c.other.invariant; view = c.other.view_is }; sizes = c.requires })

pub returns : goal.returns
returns c = made_either _ _ _ _ (record { left = record { is_form = c.self.invariant; view = c.self.view_is }; right = record { is_form = c.other.invariant; view = c.other.view_is }; sizes = c.requires }) _ c.in_ok-form.ensures
