use Rattle.std.proofs.Common.{ap, sym, ◌∙◌}
use Rattle.ul_interner.proofs.Grown.{hash_in}
use Rattle.ul_interner.proofs.marks.Mark.hash.Goals as goal

pub returns : goal.returns
returns g c = ap (λ z. z.hash) c.deref.ensures ∙ sym (hash_in _ _ _ _ _ _ c.self.view_is)
