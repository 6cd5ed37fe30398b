use Rattle.std.proofs.Common.{◌∙◌}
use Rattle.ul_ranges.proofs.FormLaws.{kept_flag}
use Rattle.ul_ranges.proofs.ordinals.Ordinals.has.Goals as goal

pub returns : goal.returns
returns c = c.has_in.ensures ∙ kept_flag _ _ (record { is_form = c.self.invariant; view = c.self.view_is }) c.args.number
