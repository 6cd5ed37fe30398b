use Rattle.std.proofs.Common.{lit<}
use Rattle.std.proofs.lemmas.Str.Pattern.{split_once_first}
use Rattle.ul_comparison.proofs.Points.{parts_at, none_after}
use Rattle.ul_comparison.proofs.machine.at_point.Goals as goal

pub returns : goal.returns
returns c =
    let cut = split_once_first 46 c.args.text.now c.split_once.result c.split_once.ensures.cases (lit< tt) in
    record { parts = parts_at c.args.text.now c.split_once.result cut; none = none_after c.args.text.now c.split_once.result cut }
