use Rattle.std.proofs.Common.{◌==◌, ap, sym, ◌∙◌}
use Rattle.ul_project.proofs.Values.{count_view}
use Rattle.ul_project.proofs.groups.is_single.Goals as goal

pub returns : goal.returns
returns c = ap (λ n. n == 1) (c.len.ensures.len ∙ sym (count_view c.args.table.now.entries))
