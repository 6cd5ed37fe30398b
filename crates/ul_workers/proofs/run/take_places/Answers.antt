use Rattle.std.proofs.Common.{rules, arith, ap, sym, ◌∙◌, le_refl, ◌<◌, length-set, length, Some, ◌≡◌, subst}
use Rattle.std.specs.List.{slice_get}
use Rattle.ul_workers.proofs.Places.{at_place, not_none, unwrapped, later}
use Rattle.ul_workers.proofs.run.take_places.Goals as goal

pub unreachable-requires : goal.unreachable-requires
unreachable-requires g c =
    let i = c.loop-i.invariant in
    let l : c.loop-i.i < length c.loop-i.places.items = omega (arith, c.loop-i-test.true, c.len-i-end.ensures, i.2, c.args.places.ok.0) in
    let here = at_place c.loop-i.places.items c.args.places.items c.loop-i.i c.index_mut.result.now l c.index_mut.ensures.value (i.3 c.loop-i.i (le_refl c.loop-i.i)) in
    not_none c.args.places.items c.loop-i.i (here ∙ ap Some (sym c.take.ensures.value ∙ c.in-None.is)) (c.requires.filled c.loop-i.i (omega (arith, c.loop-i-test.true, c.len-i-end.ensures)))

pub loop-i-preserved : goal.loop-i-preserved
loop-i-preserved g c =
    let i = c.loop-i.invariant in
    let l : c.loop-i.i < length c.loop-i.places.items = omega (arith, c.loop-i-test.true, c.len-i-end.ensures, i.2, c.args.places.ok.0) in
    let here = at_place c.loop-i.places.items c.args.places.items c.loop-i.i c.index_mut.result.now l c.index_mut.ensures.value (i.3 c.loop-i.i (le_refl c.loop-i.i)) in (
      search (rules, i.0),
      omega (arith, i.1, c.push_reserved.ensures.capacity),
      length-set c.loop-i.places.items c.loop-i.i c.take.new.self ∙ i.2,
      later c.args.places.items c.loop-i.places.items c.loop-i.i c.take.new.self i.3,
      λ k x e. unwrapped c.args.places.items c.loop-i.places.items c.loop-i.results.items c.loop-i.i c.in-Some.out i.0 (here ∙ ap Some (sym c.take.ensures.value ∙ c.in-Some.is)) i.4 k x
          (subst (λ z. slice_get z k ≡ Some x) c.push_reserved.ensures.items e),
    )
