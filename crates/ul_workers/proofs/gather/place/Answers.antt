use Rattle.std.proofs.Common.{rules, arith, ◌≡◌, [], subst, ⊎_elim}
use Rattle.std.specs.Prelude.{Contains}
use Rattle.ul_workers.specs.Work.{numbers}
use Rattle.ul_workers.proofs.Places.{placed_more}
use Rattle.ul_workers.proofs.gather.place.Goals as goal

pub loop-number-preserved-in-Some : goal.loop-number-preserved-in-Some
loop-number-preserved-in-Some g c =
    let i = c.loop-number.invariant in
    placed_more (g.J.Job.fits c.args.job.now) (g.J.Job.known c.args.pass.now) c.args.limit c.args.places.now.items c.loop-number.places.items c.args.results.items c.loop-number.results.items c.pop.new.self.items
    c.in-Some.number c.in-Some.out c.in-Some.ensures.items i.0 i.1 i.2 i.3 i.4

pub loop-number-preserved : goal.loop-number-preserved
loop-number-preserved g c =
    let i = c.loop-number.invariant in
    placed_more (g.J.Job.fits c.args.job.now) (g.J.Job.known c.args.pass.now) c.args.limit c.args.places.now.items c.loop-number.places.items c.args.results.items c.loop-number.results.items c.pop.new.self.items
    c.in-Some.number c.in-Some.out c.in-Some.ensures.items i.0 i.1 i.2 i.3 i.4

pub returns-clause-filled : goal.returns-clause-filled
returns-clause-filled g c k h =
    let none : c.loop-number.results.items ≡ [] = search rules in
    ⊎_elim (λ f. f) (λ p. let there : Contains [] k = subst (λ z. Contains (numbers z) k) none p in absurd (omega (arith, there.1))) (c.loop-number.invariant.4 k h)
