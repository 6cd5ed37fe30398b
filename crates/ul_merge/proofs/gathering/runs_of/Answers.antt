use Rattle.std.proofs.Common.{List}
use Rattle.ul_merge.specs.Gathered.{AreRuns}
use Rattle.ul_merge.specs.declared.gathering.Group.{Group}
use Rattle.ul_merge.proofs.Gathers.{run_more}
use Rattle.ul_merge.proofs.Walks.{of_all}
use Rattle.ul_merge.proofs.gathering.runs_of.Goals as goal

pub loop-group-preserved : goal.loop-group-preserved
loop-group-preserved g c = run_more g.K.Key.cmp g.K.Key.total c.args.groups.now c.loop-group.group-index c.group-item.result _ _ c.requires c.loop-group-test.true c.group-item.is c.loop-group.invariant c.in_ok-put_run.ensures

pub returns : goal.returns
returns g c = of_all (λ (gs : List (Group g.row.K.Denot g.row.V.Denot)). AreRuns g.K.Key.cmp gs c.loop-group.runs.items) c.args.groups.now c.loop-group.group-index c.loop-group-test.false c.loop-group.invariant
