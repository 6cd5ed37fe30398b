use Rattle.std.proofs.Common.{rules}
use Rattle.ul_interner.proofs.Grown.{label_in}
use Rattle.ul_interner.proofs.marks.Mark.label.Goals as goal

pub returns : goal.returns
returns g c = search (rules, label_in _ _ _ _ _ _ c.self.view_is)
