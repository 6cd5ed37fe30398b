use Rattle.ul_ranges.proofs.FormMaking.{ok_then}
use Rattle.ul_ranges.proofs.FormLaws.{blocks_kept}
use Rattle.ul_ranges.proofs.ordinals.Ordinals.blocks.Goals as goal

pub returns : goal.returns
returns c = ok_then c.block_list.result _ _ c.block_list.ensures (λ v h. blocks_kept _ _ v.items (record { is_form = c.self.invariant; view = c.self.view_is }) h)
