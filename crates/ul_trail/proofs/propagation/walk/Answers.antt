use Rattle.ul_trail.specs.Standing.{AllSized, IsStanding}
use Rattle.std.proofs.Common.{refl, ◌∙◌, subst, get_or, List, sym, arith, ℕ}
use Rattle.ul_problem.specs.declared.term.Term.{Term}
use Rattle.ul_trail.specs.Findings.{IsSettlement}
use Rattle.ul_trail.proofs.Walking.{row_is, walks_start, walks_next_as, row_place, row_there, walks_held, walks_done}
use Rattle.ul_trail.proofs.propagation.walk.Goals as goal

pub loop-place-init : goal.loop-place-init
loop-place-init c = record {
  sizes = refl;
  walks = walks_start c.args.standing.now.sizes.items c.args.standing.now.known.items c.args.standing.now.before.items c.args.standing.now.facts.items c.args.watching.now.terms.items c.args.level c.args.cursor.seen c.args.cursor.checked c.node-node.result c.index.result.now c.as_slice-row.result.now
      c.requires.standing c.requires.seen c.index.ensures c.node-node.ensures c.requires.settled
      (row_is c.args.standing.now.sizes.items c.args.standing.now.known.items c.args.standing.now.before.items c.args.standing.now.facts.items c.args.watching.now.terms.items c.args.watching.now.rows.items c.args.cursor.seen c.node-node.result c.index.result.now c.index-2.result.now c.as_vec.result.now.items c.as_slice-row.result.now
      c.requires.standing c.requires.watched c.requires.width c.requires.seen c.index.ensures c.node-node.ensures c.index-2.ensures c.as_vec.ensures c.as_slice-row.ensures.value);
}

pub settle-requires-clause-place : goal.settle-requires-clause-place
settle-requires-clause-place c = row_place c.node-node.result c.loop-place.place-index c.as_slice-row.result.now c.args.watching.now.terms.items c.as_slice.result.now
    (row_is c.args.standing.now.sizes.items c.args.standing.now.known.items c.args.standing.now.before.items c.args.standing.now.facts.items c.args.watching.now.terms.items c.args.watching.now.rows.items c.args.cursor.seen c.node-node.result c.index.result.now c.index-2.result.now c.as_vec.result.now.items c.as_slice-row.result.now
    c.requires.standing c.requires.watched c.requires.width c.requires.seen c.index.ensures c.node-node.ensures c.index-2.ensures c.as_vec.ensures c.as_slice-row.ensures.value)
    c.loop-place-test.true c.as_slice.ensures.value

pub loop-place-preserved : goal.loop-place-preserved
loop-place-preserved c = record {
  sizes = c.in_ok-held.ensures.sizes ∙ c.loop-place.invariant.sizes;
  walks = walks_next_as c.args.standing.now.sizes.items c.loop-place.standing.sizes.items c.settle.new.standing.sizes.items c.loop-place.standing.known.items c.loop-place.standing.before.items c.settle.new.standing.known.items c.settle.new.standing.before.items c.args.watching.now.terms.items c.args.level c.args.cursor.seen c.args.cursor.checked
      c.args.standing.now.facts.items c.loop-place.standing.facts.items c.settle.new.standing.facts.items c.as_slice-row.result.now c.loop-place.place-index c.in_ok-held.held c.loop-place.invariant.sizes c.in_ok-held.ensures.sizes c.loop-place.invariant.walks c.in_ok-held.ensures.standing c.loop-place-test.true c.if-held.false
      (subst (λ (t : List (List Term)). IsSettlement c.loop-place.standing.sizes.items t c.args.level (get_or c.as_slice-row.result.now c.loop-place.place-index 0) c.loop-place.standing.facts.items c.settle.new.standing.facts.items c.in_ok-held.held) c.as_slice.ensures.value c.in_ok-held.ensures.settlement);
}

pub index-requires-2 : goal.index-requires-2
index-requires-2 c =
    let there = row_there c.args.standing.now.sizes.items c.args.standing.now.known.items c.args.standing.now.before.items c.args.standing.now.facts.items c.args.watching.now.rows.items c.args.cursor.seen c.node-node.result c.index.result.now c.requires.standing c.requires.width c.requires.seen c.index.ensures c.node-node.ensures in
    omega (arith, there, c.args.watching.now.rows.ok)

pub settle-requires-clause-sized : goal.settle-requires-clause-sized
settle-requires-clause-sized c = subst (AllSized c.loop-place.standing.sizes.items) (sym c.as_slice.ensures.value) (subst (λ (z : List ℕ). AllSized z c.args.watching.now.terms.items) (sym c.loop-place.invariant.sizes) c.requires.sized)

pub settle-requires-clause-standing : goal.settle-requires-clause-standing
settle-requires-clause-standing c = subst (λ (z : List ℕ). IsStanding z c.loop-place.standing.known.items c.loop-place.standing.before.items c.loop-place.standing.facts.items) (sym c.loop-place.invariant.sizes) c.loop-place.invariant.walks.standing

pub returns-then-held-clause-walked : goal.returns-then-held-clause-walked
returns-then-held-clause-walked c = (walks_held c.args.standing.now.sizes.items c.loop-place.standing.sizes.items c.loop-place.standing.known.items c.loop-place.standing.before.items c.args.watching.now.terms.items c.as_slice.result.now c.args.level c.args.cursor.seen c.args.cursor.checked (get_or c.as_slice-row.result.now c.loop-place.place-index 0)
    c.args.standing.now.facts.items c.loop-place.standing.facts.items c.settle.new.standing.facts.items c.as_slice-row.result.now c.loop-place.place-index c.in_ok-held.held c.loop-place.invariant.walks c.as_slice.ensures.value c.if-held.true c.in_ok-held.ensures.settlement).0

pub returns-then-held-clause-grown : goal.returns-then-held-clause-grown
returns-then-held-clause-grown c = (walks_held c.args.standing.now.sizes.items c.loop-place.standing.sizes.items c.loop-place.standing.known.items c.loop-place.standing.before.items c.args.watching.now.terms.items c.as_slice.result.now c.args.level c.args.cursor.seen c.args.cursor.checked (get_or c.as_slice-row.result.now c.loop-place.place-index 0)
    c.args.standing.now.facts.items c.loop-place.standing.facts.items c.settle.new.standing.facts.items c.as_slice-row.result.now c.loop-place.place-index c.in_ok-held.held c.loop-place.invariant.walks c.as_slice.ensures.value c.if-held.true c.in_ok-held.ensures.settlement).1

pub returns-clause-standing : goal.returns-clause-standing
returns-clause-standing c = subst (λ (z : List ℕ). IsStanding z c.loop-place.standing.known.items c.loop-place.standing.before.items c.loop-place.standing.facts.items) (sym c.loop-place.invariant.sizes) c.loop-place.invariant.walks.standing

pub returns-clause-grown : goal.returns-clause-grown
returns-clause-grown c = c.loop-place.invariant.walks.grown

pub returns-clause-walked : goal.returns-clause-walked
returns-clause-walked c = walks_done c.args.standing.now.sizes.items c.loop-place.standing.known.items c.loop-place.standing.before.items c.args.watching.now.terms.items c.args.level c.args.cursor.seen c.args.cursor.checked c.args.standing.now.facts.items c.loop-place.standing.facts.items c.as_slice-row.result.now c.loop-place.place-index
    c.loop-place.invariant.walks c.loop-place-test.false
