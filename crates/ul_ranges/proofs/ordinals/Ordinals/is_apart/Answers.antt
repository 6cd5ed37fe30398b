use Rattle.ul_ranges.proofs.FormLaws.{are_forms, apart_tested}
use Rattle.ul_ranges.proofs.ordinals.Ordinals.is_apart.Goals as goal

pub is_apart-requires : goal.is_apart-requires
is_apart-requires c = are_forms _ _ _ _ (record { left = record { is_form = c.self.invariant; view = c.self.view_is }; right = record { is_form = c.other.invariant; view = c.other.view_is }; sizes = c.requires })

pub returns : goal.returns
returns c = apart_tested _ _ _ _ (record { left = record { is_form = c.self.invariant; view = c.self.view_is }; right = record { is_form = c.other.invariant; view = c.other.view_is }; sizes = c.requires }) _ c.is_apart.ensures
