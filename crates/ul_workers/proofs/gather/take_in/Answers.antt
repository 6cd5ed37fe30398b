use Rattle.std.proofs.Common.{arith, ◌≡◌, ◌≤◌, ⊎_elim}
use Rattle.ul_workers.specs.Work.{numbers}
use Rattle.ul_workers.proofs.Works.{all_push, not_failed, drawn_push, none_push}
use Rattle.ul_workers.proofs.gather.take_in.Goals as goal

pub place-requires-clause-good : goal.place-requires-clause-good
place-requires-clause-good g c κs within k o e =
    let laws = g.met.J.Job g.world.𝓛 g.world.𝓜 g.world.𝓡 ((λ s x. x), (λ x. x), (λ x. x), λ x. x) in
    let t = c.requires.good k o e in (t.0, laws.known_stays c.args.pass.now c.join.new.pass o c.join.ensures.knows t.1)

pub returns-clause-seats : goal.returns-clause-seats
returns-clause-seats g c =
    all_push (λ s. s.claims ≡ c.args.claims.now) c.args.seats.now.items c.push_reserved.new.self.items c.args.worker.seat c.push_reserved.ensures.items c.requires.seats c.requires.worked.2.own

pub returns-clause-full : goal.returns-clause-full
returns-clause-full g c ok k low h =
    let w = c.requires.worked.2.drawn (not_failed c.args.worker.failed ok) in
    let high : c.args.limit ≤ w.0 = omega (arith, c.requires.limit, w.1) in
    ⊎_elim (λ p. c.place.ensures.kept k (c.requires.full k low p)) (λ p. c.place.ensures.filled k p)
    (drawn_push c.args.limit w.0 k c.args.seats.now.items c.push_reserved.new.self.items c.args.worker.seat (numbers c.args.worker.results.items) c.push_reserved.ensures.items w.2 high low h)

pub returns-clause-none : goal.returns-clause-none
returns-clause-none g c ok =
    let w = c.requires.worked.2.drawn (not_failed c.args.worker.failed ok) in
    none_push c.args.claims.now w.0 c.args.seats.now.items c.push_reserved.new.self.items c.args.worker.seat (numbers c.args.worker.results.items) c.push_reserved.ensures.items c.requires.worked.2.own w.2 w.1
