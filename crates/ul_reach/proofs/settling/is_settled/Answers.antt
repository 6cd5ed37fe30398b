use Rattle.std.proofs.Common.{◌≡◌, ◌∙◌, ap, arith, eqb-true, length, nat_eq, refl, sym}
use Rattle.std.proofs.lemmas.Option.{slice_get_read}
use Rattle.ul_reach.proofs.Gathering.{no_items}
use Rattle.ul_reach.proofs.Settled.{settled_all, settled_more}
use Rattle.ul_reach.proofs.settling.is_settled.Goals as goal

pub loop-parts-preserved : goal.loop-parts-preserved
loop-parts-preserved c =
    let x = c.parts-item.result in
    let none : x.len ≡ 0 = eqb-true x.len 0 (sym c.is_empty.ensures ∙ c.if-not-is_empty.false) in
    settled_more c.args.gathered.now c.loop-parts.parts-index x c.loop-parts-test.true c.parts-item.is (no_items x.items (omega (arith, none, x.ok))) c.loop-parts.invariant

pub returns-then-not-is_empty : goal.returns-then-not-is_empty
returns-then-not-is_empty c =
    let x = c.parts-item.result in
    let gs = c.args.gathered.now in (
      (λ e. cc),
      (λ settled.
          let none = settled c.loop-parts.parts-index x (slice_get_read gs (length gs) c.loop-parts.parts-index x refl c.loop-parts-test.true c.parts-item.is) in
          let empty : x.len ≡ 0 = omega (arith, x.ok, ap length none) in
          sym c.if-not-is_empty.true ∙ (c.is_empty.ensures ∙ ap (λ n. nat_eq n 0) empty)),
    )

pub returns : goal.returns
returns c = ((λ t. settled_all c.args.gathered.now c.loop-parts.parts-index c.loop-parts-test.false c.loop-parts.invariant), (λ settled. refl))
