use Rattle.ul_ranges.proofs.BlockLaws.{front_exact}
use Rattle.ul_ranges.proofs.FormMaking.{ok_then, front_small, front_sealed}
use Rattle.ul_ranges.proofs.forms.front.Goals as goal

pub returns-then-size-le64 : goal.returns-then-size-le64
returns-then-size-le64 c = rw c.front_word.ensures (front_small c.args.size c.args.count c.if-size-le64.true c.requires)

pub sealed-requires-clause-exact : goal.sealed-requires-clause-exact
sealed-requires-clause-exact c = front_exact c.args.size c.args.count _ c.requires c.in_ok-blocks.ensures

pub returns : goal.returns
returns c = ok_then c.sealed.result _ _ c.sealed.ensures (λ f s. front_sealed c.args.size c.args.count _ f c.requires c.in_ok-blocks.ensures s)
