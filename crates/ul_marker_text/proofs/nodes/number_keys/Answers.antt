use Rattle.std.proofs.Common.{ap, sym, subst, arith, List}
use Rattle.ul_nodes.specs.Levels.{python_level}
use Rattle.ul_nodes.specs.declared.level.Key.{Key}
use Rattle.ul_tree.specs.declared.tree.Tree.{Tree}
use Rattle.ul_marker_text.specs.Nodes.{number_branches}
use Rattle.ul_marker_text.proofs.PartFacts.{KeysLeft, keys_more, keys_end, no_numbers}
use Rattle.ul_marker_text.proofs.nodes.number_keys.Goals as goal

pub loop-number-preserved : goal.loop-number-preserved
loop-number-preserved c =
    subst (λ (z : List (Key × Tree)). KeysLeft python_level z (number_branches c.next.new.self.rest.items) (number_branches c.args.pieces.items)) (sym c.in_ok-made-in-Some-number_key.ensures)
    (keys_more python_level _ c.in-Some-number_key.key c.in-Some.tree c.loop-number.made.items _ _ _ (ap number_branches c.in-Some.ensures.steps.0) c.in-Some-number_key.ensures c.loop-number.invariant)

pub returns : goal.returns
returns c =
    keys_end python_level c.loop-number.made.items _ _ (no_numbers c.loop-number.number-iterator.rest.items (omega (arith, c.in-None.ensures.steps.0, c.loop-number.number-iterator.rest.ok))) c.loop-number.invariant
