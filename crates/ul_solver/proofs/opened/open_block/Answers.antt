use Rattle.std.proofs.Common.{refl}
use Rattle.std.proofs.lemmas.List.{length-set}
use Rattle.ul_solver.proofs.Moving.{block_opened}
use Rattle.ul_solver.proofs.opened.open_block.Goals as goal

pub returns : goal.returns
returns c = block_opened c.args.problem.now c.args.trail.now c.open.new.trail c.open_further.new.trail c.args.opened.now c.open.new.opened c.open_further.new.opened _ c.args.node c.args.version
    c.in_ok-open.ensures c.in_ok-open_further.ensures refl refl (length-set c.open_further.new.opened.counts.items c.args.node _)
