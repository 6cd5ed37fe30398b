use Rattle.std.proofs.Common.{sym, ◌∙◌}
use Rattle.ul_interner.proofs.Grown.{id_in}
use Rattle.ul_interner.proofs.marks.Mark.id.Goals as goal

pub returns : goal.returns
returns g c = (λ i. ((c.deref.ensures i).shard, (c.deref-2.ensures i).place)) ∙ sym (id_in _ _ _ _ _ _ c.self.view_is)
