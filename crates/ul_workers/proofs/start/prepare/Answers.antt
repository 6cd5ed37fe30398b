use Rattle.std.proofs.Common.{arith, ◌≡◌, ℕ, ◌+◌, ◌-◌, [], ap, ◌∙◌}
use Rattle.ul_claims.specs.Rule.{parts_in_all}
use Rattle.ul_claims.specs.Seats.{SeatView}
use Rattle.ul_workers.specs.Work.{Fresh}
use Rattle.ul_workers.proofs.Works.{all_push}
use Rattle.ul_workers.proofs.start.prepare.Goals as goal

pub loop-preserved : goal.loop-preserved
loop-preserved g c =
    let i = c.loop.invariant in
    let o = c.in_ok-make_worker.ensures in
    let p = c.in_ok-push.ensures in
    let claims = c.args.claims.now in
    let fewer : parts_in_all - c.loop.counter - 1 ≡ parts_in_all - (c.loop.counter + 1) = omega arith in (
      o.seat ∙ (ap (λ (s : SeatView). let t : SeatView = record s { parts = s.parts - 1 } in t) i.0 ∙ ap (λ (n : ℕ). let t : SeatView = record { claims = claims; parts = n; drawn = [] } in t) fewer),
      o.pass ∙ i.1,
      omega (arith, p.len, i.2),
      all_push (λ w. Fresh claims w) c.loop.workers.items c.push.new.self.items c.in_ok-make_worker.field-0 p.items i.3 o.fresh,
      all_push (λ w. w.pass ≡ c.args.pass.now) c.loop.workers.items c.push.new.self.items c.in_ok-make_worker.field-0 p.items i.4 (o.knows ∙ i.1),
    )
