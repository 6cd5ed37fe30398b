use Rattle.std.proofs.Common.{arith}
use Rattle.std.specs.Fork.{AcceptsAt, ChangesAt}
use Rattle.ul_workers.proofs.Firsts.{accepts_others, changes_all}
use Rattle.ul_workers.proofs.begun.+each.Goals as goal

pub each_from-both_from-requires-clause-others : goal.each_from-both_from-requires-clause-others
each_from-both_from-requires-clause-others g t c κs within =
    let cut = c.split_at_mut-first in
    accepts_others (AcceptsAt g.F.Fn c.args.f.now) c.args.base c.args.list.now cut.result.0.now cut.result.1.now cut.ensures.value cut.ensures.front_len c.requires

pub each_from-returns : goal.each_from-returns
each_from-returns g t c =
    let cut = c.split_at_mut-first in
    changes_all (ChangesAt g.F.Fn c.args.f.now) c.args.base c.args.list.now cut.result.0.now cut.result.1.now cut.ensures.value cut.ensures.front_len
    c.both_from.new.first c.both_from.new.others (omega (arith, cut.ensures.front_len, c.both_from.auto.first)) c.both_from.ensures.first c.both_from.ensures.others
