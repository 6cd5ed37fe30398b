use Rattle.std.proofs.Common.{arith, ◌≡◌, true, inr}
use Rattle.ul_interner.specs.Known.{Held}
use Rattle.ul_workers.specs.Work.{Worked, Within}
use Rattle.ul_interner.proofs.ForCallers.{knows_then}
use Rattle.ul_workers.proofs.Places.{last_of}
use Rattle.ul_workers.proofs.gather.take_all.Goals as goal

pub take_in-requires-clause-worked : goal.take_in-requires-clause-worked
take_in-requires-clause-worked g c κs within =
    let fits = g.J.Job.fits c.args.job.now in
    (last_of (λ w. (first : Held _) × (first.table ≡ c.args.interner.now) × Worked (Within c.args.limit fits) g.J.Job.known c.args.claims.now first w) c.loop-worker.workers.items c.pop.new.self.items c.in-Some.worker c.in-Some.ensures.items c.loop-worker.invariant.2).1

pub returns-then-not-take_in-clause-learns : goal.returns-then-not-take_in-clause-learns
returns-then-not-take_in-clause-learns g c = knows_then _ _ _ c.loop-worker.invariant.0 c.take_in.ensures.learns

pub loop-worker-preserved : goal.loop-worker-preserved
loop-worker-preserved g c =
    let i = c.loop-worker.invariant in
    let o = c.take_in.ensures in
    let p = c.in-Some.ensures in
    let fits = g.J.Job.fits c.args.job.now in
    let ok : c.take_in.result ≡ true = c.if-not-take_in.false in (
      knows_then c.args.pass.now c.loop-worker.pass c.take_in.new.pass i.0 o.learns,
      omega (arith, o.count.0, o.count.1, p.len, i.1),
      (last_of (λ w. (first : Held _) × (first.table ≡ c.args.interner.now) × Worked (Within c.args.limit fits) g.J.Job.known c.args.claims.now first w) c.loop-worker.workers.items c.pop.new.self.items c.in-Some.worker p.items i.2).0,
      o.len,
      o.good,
      o.seats,
      omega (arith, o.parts, p.len, i.6),
      o.full ok,
      inr (o.none ok),
    )
