use Rattle.ul_ranges.proofs.FormLaws.{are_forms, made_less}
use Rattle.ul_ranges.proofs.ordinals.Ordinals.put_less.Goals as goal

pub put-requires : goal.put-requires
put-requires c = are_forms _ _ _ _ (record { left = record { is_form = c.self.invariant; view = c.self.view_is }; right = record { is_form = c.other.invariant; view = c.other.view_is }; sizes = c.requires })

pub returns-clause-ok : goal.returns-clause-ok
returns-clause-ok c = made_less _ _ _ _ (record { left = record { is_form = c.self.invariant; view = c.self.view_is }; right = record { is_form = c.other.invariant; view = c.other.view_is }; sizes = c.requires }) _ c.in_ok-put.ensures.ok
