use Rattle.std.proofs.Common.{arith, refl, ◌∙◌, length}
use Rattle.std.proofs.lemmas.List.{length-set}
use Rattle.std.proofs.lemmas.Option.{slice_get_read}
use Rattle.ul_trail.proofs.Rows.{listed_next, listed_all}
use Rattle.ul_trail.proofs.watching.list.Goals as goal

pub loop-term-preserved : goal.loop-term-preserved
loop-term-preserved c = record {
  width = length-set c.loop-term.rows.items c.node.result c.push.new.self ∙ c.loop-term.invariant.width;
  rows = listed_next c.args.rows.now.items c.loop-term.rows.items c.args.terms.now c.loop-term.term-index c.node.result c.args.place c.term-item.result c.index_mut-row.result.now c.push.new.self
      c.requires.ordered c.loop-term.invariant.width c.loop-term-test.true c.term-item.is c.node.ensures (let a = c.requires.nodes c.loop-term.term-index c.term-item.result (slice_get_read c.args.terms.now (length c.args.terms.now) c.loop-term.term-index c.term-item.result refl c.loop-term-test.true c.term-item.is) in let b = c.node.ensures in let d = c.loop-term.invariant.width in omega arith) c.index_mut-row.ensures.value c.in_ok-push.ensures c.loop-term.invariant.rows;
}

pub returns-clause-rows : goal.returns-clause-rows
returns-clause-rows c = listed_all c.args.rows.now.items c.loop-term.rows.items c.args.terms.now c.loop-term.term-index c.args.place (omega arith) c.loop-term.invariant.rows
