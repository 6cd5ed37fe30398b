use Rattle.std.proofs.Common.{arith, ap, sym, ◌∙◌}
use Rattle.std.proofs.lemmas.Option.{slice_get_within}
use Rattle.ul_prepared.specs.declared.prepared.Planned.{Planned}
use Rattle.ul_prepared.proofs.PlaceFacts.{places_next}
use Rattle.ul_prepared.proofs.gathering.index_of.Goals as goal

pub loop-place-preserved : goal.loop-place-preserved
loop-place-preserved c =
    places_next c.args.nodes.now c.loop-place.index c.insert.new.self c.in_ok-node.node c.loop-place.place c.index-nodes-place.result c.loop-place-test.true c.index-nodes-place.is (c.in_ok-node.ensures ∙ ap (λ (p : Planned). p.node) (sym c.index-nodes-place.is))
    (λ n. c.in_ok-insert.ensures.updates.0 n) c.loop-place.invariant

pub returns : goal.returns
returns c = record {
  whole = λ n a. c.loop-place.invariant.whole n a.0 (let l = slice_get_within c.args.nodes.now a.0 a.1.0 a.1.1 in omega (arith, l, c.loop-place-test.false)) a.1;
  right = c.loop-place.invariant.right;
}
