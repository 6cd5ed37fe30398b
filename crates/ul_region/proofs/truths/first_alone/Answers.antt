use Rattle.std.proofs.Common.{◌≡◌, ap, ◌∙◌}
use Rattle.std.proofs.lemmas.Result.{IfOk-weaker}
use Rattle.ul_algebra.specs.Spelled.{tree_of}
use Rattle.ul_interner.proofs.ForCallers.{knows_then}
use Rattle.ul_tree.specs.Laws.{and_of}
use Rattle.ul_region.proofs.TruthFacts.{still}
use Rattle.ul_region.proofs.truths.first_alone.Goals as goal

pub and-requires-clause-a : goal.and-requires-clause-a
and-requires-clause-a g c = still _ _ _ c.in_ok-fails.ensures.knows c.requires.first

pub returns-clause-knows : goal.returns-clause-knows
returns-clause-knows g c = knows_then _ _ _ c.in_ok-fails.ensures.knows c.and.ensures.knows

pub returns-clause-tree : goal.returns-clause-tree
returns-clause-tree g c = IfOk-weaker c.and.result (λ d. tree_of d ≡ and_of (tree_of c.args.first.now) (tree_of c.in_ok-fails.fails)) _ (λ d e. e ∙ ap (and_of (tree_of c.args.first.now)) c.in_ok-fails.ensures.tree) c.and.ensures.tree
