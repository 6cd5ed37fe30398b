use Rattle.std.proofs.Common.{◌∙◌, sym, ap, length}
use Rattle.ul_ranges.proofs.FormLaws.{length-flags_in}
use Rattle.ul_ranges.proofs.ordinals.Ordinals.size.Goals as goal

pub returns : goal.returns
returns c = c.size_in.ensures ∙ sym (length-flags_in _) ∙ ap length c.self.view_is
