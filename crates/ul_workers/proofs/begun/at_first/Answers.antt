use Rattle.std.specs.Fork.{ChangesAt}
use Rattle.ul_workers.proofs.Firsts.{changes_one}
use Rattle.ul_workers.proofs.begun.at_first.Goals as goal

pub returns : goal.returns
returns g c =
    changes_one (ChangesAt g.F.Fn c.args.f.now) c.args.base c.args.first.now c.index-first-0.result c.at_place.new.one c.requires.one c.at_place.ensures
