use Rattle.std.proofs.Common.{rules}
use Rattle.ul_interner.proofs.Grown.{parts_in}
use Rattle.ul_interner.proofs.marks.Mark.count.Goals as goal

pub returns : goal.returns
returns g c = search (rules, parts_in _ _ _ _ _ _ c.self.view_is)
