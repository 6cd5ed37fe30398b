use Rattle.std.proofs.Common.{subst, sym}
use Rattle.ul_problem.specs.Steps.{IsResolvent}
use Rattle.ul_problem.proofs.Wholes.{heads_level}
use Rattle.ul_problem.proofs.Merging.{first_of_rest, merges_more, merges_start, merges_end}
use Rattle.ul_problem.proofs.resolving.merged.Goals as goal

pub next_turn-requires : goal.next_turn-requires
next_turn-requires c = heads_level c.args.left.now c.args.right.now c.loop-i.i c.loop-i.j _ _ c.requires.sizes (first_of_rest _ c.args.left.now c.loop-i.i c.first.ensures.value) (first_of_rest _ c.args.right.now c.loop-i.j c.first-in-loop-i.ensures.value)

pub loop-i-preserved : goal.loop-i-preserved
loop-i-preserved c = merges_more c.args.node c.args.left.now c.args.right.now c.loop-i.terms.items _ c.loop-i.i c.loop-i.j _ _ c.in_ok-turn.turn
    c.loop-i.invariant (first_of_rest _ c.args.left.now c.loop-i.i c.first.ensures.value) (first_of_rest _ c.args.right.now c.loop-i.j c.first-in-loop-i.ensures.value) c.in_ok-turn.ensures c.in_ok-push_some.ensures

pub loop-i-init : goal.loop-i-init
loop-i-init c = merges_start c.args.node c.args.left.now c.args.right.now c.new-terms.result.items c.new-terms.ensures.items c.requires.in_order.0 c.requires.in_order.1

pub returns : goal.returns
returns c = subst (IsResolvent c.args.node c.args.left.now c.args.right.now) (sym c.of.ensures)
    (merges_end c.args.node c.args.left.now c.args.right.now c.loop-i.terms.items c.loop-i.i c.loop-i.j c.loop-i.invariant c.if-i-left.false c.if-j-right.false)
