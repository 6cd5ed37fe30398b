use Rattle.std.proofs.Common.{arith, ◌≡◌, ◌<◌, ◌≤◌, ℕ, List, [], ◌∷◌, ◌++◌, true≢false, ap, sym, ◌∙◌, subst}
use Rattle.ul_claims.specs.Seats.{ClaimsView, SeatView}
use Rattle.ul_workers.specs.Work.{Within, numbers}
use Rattle.ul_interner.proofs.ForCallers.{knows_then}
use Rattle.ul_workers.proofs.Places.{numbers_more}
use Rattle.ul_workers.proofs.Works.{all_push, good_on}
use Rattle.ul_workers.proofs.threads.work.Goals as goal

pub run-requires-clause-ready : goal.run-requires-clause-ready
run-requires-clause-ready g c =
    let i = c.loop.invariant in
    let d = c.in-Some-draw.ensures.drawn in
    let low : c.in-Some-draw.claim < c.args.claims.now.limit = omega (arith, d.reply.0, d.reply.1, ap (λ (z : ClaimsView). z.limit) i.own) in
    let laws = g.met.J.Job g.world.𝓛 g.world.𝓜 g.world.𝓡 ((λ s x. x), (λ x. x), (λ x. x), λ x. x) in
    laws.ready_stays c.args.job.now c.args.worker.now.pass c.loop.worker.pass c.in-Some-draw.claim i.learns (c.requires.ready c.in-Some-draw.claim low)

pub loop-preserved : goal.loop-preserved
loop-preserved g c =
    let i = c.loop.invariant in
    let d = c.in-Some-draw.ensures.drawn in
    let o = c.in-Ok.ensures in
    let limit = c.args.claims.now.limit in
    let number : ℕ = c.number-number.result in
    let is : number ≡ c.in-Some-draw.claim = c.number-number.ensures in
    let same : d.number ≡ number = sym d.reply.0 ∙ sym is in
    let low : number < limit = omega (arith, same, d.reply.1, ap (λ (z : ClaimsView). z.limit) i.own) in
    let old = c.loop.worker.pass in
    let new = c.run.new.pass in
    let laws = g.met.J.Job g.world.𝓛 g.world.𝓜 g.world.𝓡 ((λ s x. x), (λ x. x), (λ x. x), λ x. x) in
    let fits = Within limit (g.J.Job.fits c.args.job.now) in
    let known = g.J.Job.known in
    let results = c.loop.worker.results.items in record {
      own = ap (λ (s : SeatView). s.claims) d.list ∙ i.own;
      parts = ap (λ (s : SeatView). s.parts) d.list ∙ i.parts;
      drawn = ap (λ (s : SeatView). s.drawn) d.list ∙ (ap (λ (l : List ℕ). l ++ d.number ∷ []) i.drawn ∙ (ap (λ (n : ℕ). numbers results ++ n ∷ []) same ∙ (sym (numbers_more results number c.in-Ok.out) ∙ ap numbers (sym c.push_reserved.ensures.items))));
      few = omega (arith, d.few, same, low);
      good = all_push (λ p. fits p.0 p.1 × known new p.1) results c.push_reserved.new.self.items (number, c.in-Ok.out) c.push_reserved.ensures.items
          (good_on fits known old new (λ x. laws.known_stays old new x o.learns) results i.good) ((low, subst (λ (n : ℕ). g.J.Job.fits c.args.job.now n c.in-Ok.out) (sym is) o.fits), o.known);
      learns = knows_then c.args.worker.now.pass old new i.learns o.learns;
      room = subst (λ z. limit ≤ z) (sym c.push_reserved.ensures.capacity) i.room;
      failed = i.failed;
    }

pub returns-in-Err : goal.returns-in-Err
returns-in-Err g c =
    let i = c.loop.invariant in
    let d = c.in-Some-draw.ensures.drawn in
    let o = c.in-Err.ensures in
    let old = c.loop.worker.pass in
    let new = c.run.new.pass in
    let laws = g.met.J.Job g.world.𝓛 g.world.𝓜 g.world.𝓡 ((λ s x. x), (λ x. x), (λ x. x), λ x. x) in record {
      own = ap (λ (s : SeatView). s.claims) d.list ∙ i.own;
      parts = ap (λ (s : SeatView). s.parts) d.list ∙ i.parts;
      drawn = λ e. absurd (true≢false e);
      good = good_on (Within c.args.claims.now.limit (g.J.Job.fits c.args.job.now)) g.J.Job.known old new (λ x. laws.known_stays old new x o.learns) c.loop.worker.results.items i.good;
      learns = knows_then c.args.worker.now.pass old new i.learns o.learns;
    }
