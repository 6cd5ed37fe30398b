use Rattle.ul_ranges.proofs.FormLaws.{next_kept}
use Rattle.ul_ranges.proofs.ordinals.Ordinals.next_from.Goals as goal

pub returns : goal.returns
returns c = next_kept _ _ (record { is_form = c.self.invariant; view = c.self.view_is }) c.args.from _ c.next_in.ensures
