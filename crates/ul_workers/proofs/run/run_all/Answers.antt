use Rattle.std.proofs.Common.{arith, ◌≡◌, ◌<◌, ℕ, All, length, slice_index_or, Some, true, ap, sym, ◌∙◌, subst}
use Rattle.std.specs.List.{slice_get}
use Rattle.ul_interner.specs.Known.{Held, Knows}
use Rattle.ul_workers.specs.Work.{Worked, Within}
use Rattle.ul_workers.proofs.Places.{none_filled, written}
use Rattle.ul_workers.proofs.run.run_all.Goals as goal

pub take_all-requires-clause-worked : goal.take_all-requires-clause-worked
take_all-requires-clause-worked g c κs within =
    let e = c.work_all.ensures in
    let t = c.args.interner.now in
    let u = c.in_ok-claims.claims in
    let fits = g.J.Job.fits c.args.job.now in
    let own : All (λ w. w.pass.table ≡ t) c.as_mut_slice.result.now = subst (All (λ w. w.pass.table ≡ t)) (sym c.as_mut_slice.ensures.value) (λ k d l. ap (λ (h : Held _). h.table) (c.in_ok-all.ensures.knows k d l) ∙ c.requires.own) in
    subst (All (λ w. (first : Held _) × (first.table ≡ t) × Worked (Within c.args.count fits) g.J.Job.known u first w))
    (sym (written c.work_all.new.workers c.in_ok-all.all.items c.in_ok-all.all.len c.in_ok-all.all.ok.0 (omega (arith, c.work_all.auto.workers, ap length c.as_mut_slice.ensures.value))))
    (λ k d l. ((slice_index_or c.as_mut_slice.result.now k d).pass, own k d (omega arith), subst (λ (n : ℕ). Worked (Within n fits) g.J.Job.known u (slice_index_or c.as_mut_slice.result.now k d).pass (slice_index_or c.work_all.new.workers k d)) c.in_ok-claims.ensures.limit (e k d (omega arith))))

pub take_all-requires-clause-good : goal.take_all-requires-clause-good
take_all-requires-clause-good g c κs within k o e = absurd (none_filled c.args.count k o (subst (λ z. slice_get z k ≡ Some (Some o)) c.in_ok-places.ensures e))

pub returns-then-not-take_all-clause-learns : goal.returns-then-not-take_all-clause-learns
returns-then-not-take_all-clause-learns g c = subst (λ m. Knows m c.take_all.new.pass) c.in_ok-all.ensures.pass c.take_all.ensures.learns

pub returns-in_err-_numbers-clause-learns : goal.returns-in_err-_numbers-clause-learns
returns-in_err-_numbers-clause-learns g c = subst (λ m. Knows m c.take_all.new.pass) c.in_ok-all.ensures.pass c.take_all.ensures.learns

pub take_places-requires-clause-filled : goal.take_places-requires-clause-filled
take_places-requires-clause-filled g c k l =
    let ok : c.take_all.result ≡ true = c.if-not-take_all.false in
    let low : k < c.args.count = omega (arith, l, c.take_all.ensures.len, c.take_all.new.places.ok.0) in
    let v = c.in_ok-_numbers.ensures in
    let has = v.whole (c.take_all.ensures.parts ok) (c.take_all.ensures.none ok) k (omega (arith, low, c.in_ok-claims.ensures.limit)) in
    c.take_all.ensures.full ok k low ((v.exact k).0 has).1

pub returns-clause-learns : goal.returns-clause-learns
returns-clause-learns g c = subst (λ m. Knows m c.take_all.new.pass) c.in_ok-all.ensures.pass c.take_all.ensures.learns

pub returns-clause-results : goal.returns-clause-results
returns-clause-results g c = record {
  len = c.take_places.ensures.len ∙ c.take_all.ensures.len;
  fits_place = λ k o e. (c.take_all.ensures.good k o (c.take_places.ensures.each k o e)).0;
  all_known = λ k o e. (c.take_all.ensures.good k o (c.take_places.ensures.each k o e)).1;
}
