use Rattle.std.proofs.Common.{◌∙◌, sym}
use Rattle.ul_ranges.proofs.FormLaws.{are_forms, same_tested}
use Rattle.ul_ranges.proofs.ordinals.Ordinals.same.Goals as goal

pub same-requires : goal.same-requires
same-requires c = are_forms _ _ _ _ (record { left = record { is_form = c.self.invariant; view = c.self.view_is }; right = record { is_form = c.other.invariant; view = c.other.view_is }; sizes = sym c.size.ensures ∙ c.if-size.true ∙ c.size-2.ensures })

pub returns-then-size : goal.returns-then-size
returns-then-size c = same_tested _ _ _ _ (record { left = record { is_form = c.self.invariant; view = c.self.view_is }; right = record { is_form = c.other.invariant; view = c.other.view_is }; sizes = sym c.size.ensures ∙ c.if-size.true ∙ c.size-2.ensures }) _ c.same.ensures
