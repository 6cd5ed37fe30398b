use Rattle.std.proofs.Common.{refl}
use Rattle.ul_solver.proofs.Moving.{version_opened}
use Rattle.ul_solver.proofs.Opening.{row_lengths, row_with}
use Rattle.ul_solver.proofs.opened.open.Goals as goal

pub join-requires : goal.join-requires
join-requires c = row_lengths c.args.problem.now c.args.trail.now.steps c.args.opened.now.versions.items c.args.node c.args.version c.size_at.result c.index.result.now c.one-one.result
    c.requires.opened.are c.requires.node c.index.ensures c.size_at.ensures c.one-one.ensures

pub returns : goal.returns
returns c = version_opened c.args.problem.now c.args.trail.now c.hold.new.self c.args.opened.now _ c.args.node c.args.version c.in_ok-row.row c.requires.state c.requires.opened c.requires.closed
    (row_with c.args.problem.now c.args.trail.now.steps c.args.opened.now.versions.items c.args.node c.args.version c.size_at.result c.index.result.now c.one-one.result c.in_ok-row.row
    c.requires.opened.are c.requires.node c.requires.version c.index.ensures c.size_at.ensures c.one-one.ensures c.in_ok-row.ensures)
    c.in_ok-hold.ensures.kept c.in_ok-hold.ensures.steps c.in_ok-hold.ensures.facts refl refl refl
