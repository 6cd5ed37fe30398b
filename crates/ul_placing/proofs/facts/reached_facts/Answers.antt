use Rattle.std.proofs.Common.{◌<◌, ◌≤◌, List, length, length-set, Some, sym, ap, subst, ◌∙◌, arith}
use Rattle.ul_region.specs.Truths.{region_at, DiagramMark}
use Rattle.ul_placing.specs.Aims.{AreRowsOf}
use Rattle.ul_placing.proofs.Collecting.{facts_pass, facts_more, facts_all, same_behind, taken_at}
use Rattle.ul_placing.proofs.Lists.{read_there}
use Rattle.ul_placing.proofs.Shared.{planned_read, rows_right, rows_few, name_within}
use Rattle.ul_placing.proofs.facts.reached_facts.Goals as goal

pub loop-place_at-preserved-in_default : goal.loop-place_at-preserved-in_default
loop-place_at-preserved-in_default c =
    let i = c.loop-place_at.invariant in
    let l : c.loop-place_at.place_at < length c.loop-place_at.aims.items = omega (arith, c.loop-place_at-test.true, c.len-place_at-end.ensures, i.long, c.args.aims.ok) in
    let here = taken_at c.loop-place_at.aims.items c.args.aims.items c.loop-place_at.place_at c.index_mut.result.now c.take.result l c.index_mut.ensures.value i.same c.take.ensures.value in
    record {
      long = length-set c.loop-place_at.aims.items c.loop-place_at.place_at c.take.new.self ∙ i.long;
      same = same_behind c.args.aims.items c.loop-place_at.aims.items c.loop-place_at.place_at c.take.new.self i.same;
      facts = facts_pass (region_at c.args.place.now.region.now) c.args.prepared.now c.args.ranks.now c.args.prepared.now.nodes.items c.args.aims.items c.loop-place_at.place_at c.loop-place_at.nodes.items c.requires.size
          (here ∙ ap Some c.in_default.is) i.facts;
    }

pub loop-place_at-preserved : goal.loop-place_at-preserved
loop-place_at-preserved c =
    let i = c.loop-place_at.invariant in
    let l : c.loop-place_at.place_at < length c.loop-place_at.aims.items = omega (arith, c.loop-place_at-test.true, c.len-place_at-end.ensures, i.long, c.args.aims.ok) in
    let m : c.loop-place_at.place_at < length c.args.prepared.now.nodes.items = omega (arith, l, i.long, c.requires.size) in
    let here = taken_at c.loop-place_at.aims.items c.args.aims.items c.loop-place_at.place_at c.index_mut.result.now c.take.result l c.index_mut.ensures.value i.same c.take.ensures.value in
    record {
      long = length-set c.loop-place_at.aims.items c.loop-place_at.place_at c.take.new.self ∙ i.long;
      same = same_behind c.args.aims.items c.loop-place_at.aims.items c.loop-place_at.place_at c.take.new.self i.same;
      facts = facts_more (region_at c.args.place.now.region.now) c.args.prepared.now c.args.ranks.now c.args.prepared.now.nodes.items c.args.aims.items c.loop-place_at.place_at c.loop-place_at.nodes.items c.push.new.self.items
          c.index-planned.result.now c.in-Some.own c.in_ok-facts.facts
          (read_there c.args.prepared.now.nodes.items c.loop-place_at.place_at c.index-planned.result.now m c.index-planned.ensures)
          (here ∙ ap Some c.in-Some.is) c.in_ok-push.ensures.items c.in_ok-facts.ensures i.facts;
    }

pub facts_of-requires-clause-rows : goal.facts_of-requires-clause-rows
facts_of-requires-clause-rows c =
    let l : c.loop-place_at.place_at < length c.args.prepared.now.nodes.items = omega (arith, c.loop-place_at-test.true, c.len-place_at-end.ensures, c.requires.size, c.args.aims.ok) in
    subst (λ (z : List DiagramMark). AreRowsOf c.args.algebra.now z c.index-planned.result.now) (sym c.requires.truths)
    (rows_right c.args.algebra.now c.args.prepared.now c.index-planned.result.now (planned_read c.args.algebra.now c.args.prepared.now c.loop-place_at.place_at c.index-planned.result.now c.requires.prepared l c.index-planned.ensures))

pub facts_of-requires-clause-few : goal.facts_of-requires-clause-few
facts_of-requires-clause-few c =
    let l : c.loop-place_at.place_at < length c.args.prepared.now.nodes.items = omega (arith, c.loop-place_at-test.true, c.len-place_at-end.ensures, c.requires.size, c.args.aims.ok) in
    rows_few c.args.algebra.now c.args.prepared.now c.index-planned.result.now c.requires.prepared (planned_read c.args.algebra.now c.args.prepared.now c.loop-place_at.place_at c.index-planned.result.now c.requires.prepared l c.index-planned.ensures)

pub facts_of-requires-clause-name : goal.facts_of-requires-clause-name
facts_of-requires-clause-name c =
    let l : c.loop-place_at.place_at < length c.args.prepared.now.nodes.items = omega (arith, c.loop-place_at-test.true, c.len-place_at-end.ensures, c.requires.size, c.args.aims.ok) in
    name_within c.args.algebra.now c.args.prepared.now c.index-planned.result.now (planned_read c.args.algebra.now c.args.prepared.now c.loop-place_at.place_at c.index-planned.result.now c.requires.prepared l c.index-planned.ensures)

pub returns : goal.returns
returns c =
    let l : length c.args.aims.items ≤ c.loop-place_at.place_at = omega (arith, c.loop-place_at-test.false, c.len-place_at-end.ensures, c.args.aims.ok) in
    facts_all (region_at c.args.place.now.region.now) c.args.prepared.now c.args.ranks.now c.args.prepared.now.nodes.items c.args.aims.items c.loop-place_at.place_at c.loop-place_at.nodes.items c.requires.size l c.loop-place_at.invariant.facts
