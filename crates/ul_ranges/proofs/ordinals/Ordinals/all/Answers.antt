use Rattle.std.proofs.Common.{◌∙◌}
use Rattle.ul_ranges.proofs.FormMaking.{ok_then}
use Rattle.ul_ranges.proofs.FormLaws.{front_whole}
use Rattle.ul_ranges.proofs.ordinals.Ordinals.all.Goals as goal

pub returns : goal.returns
returns c = ok_then c.front.result _ _ c.front.ensures (λ s e. e ∙ front_whole c.args.size)
