use Rattle.std.proofs.Common.{take}
use Rattle.ul_problem.proofs.Wholes.{heads_level}
use Rattle.ul_problem.proofs.Merging.{first_of_rest, merges_more}
use Rattle.ul_problem.proofs.resolving.is_merged.Goals as goal

pub next_turn-requires : goal.next_turn-requires
next_turn-requires c = heads_level c.args.left.now c.args.right.now c.loop-i.i c.loop-i.j _ _ c.requires.sizes (first_of_rest _ c.args.left.now c.loop-i.i c.first.ensures.value) (first_of_rest _ c.args.right.now c.loop-i.j c.first-in-loop-i.ensures.value)

pub loop-i-preserved : goal.loop-i-preserved
loop-i-preserved c = record {
  within = c.in-Some.ensures.within;
  merges = merges_more c.args.node c.args.left.now c.args.right.now (take c.loop-i.place c.args.terms.now) (take c.in-Some.next c.args.terms.now) c.loop-i.i c.loop-i.j _ _ c.in_ok-turn.turn
      c.loop-i.invariant.merges (first_of_rest _ c.args.left.now c.loop-i.i c.first.ensures.value) (first_of_rest _ c.args.right.now c.loop-i.j c.first-in-loop-i.ensures.value) c.in_ok-turn.ensures c.in-Some.ensures.front;
}
