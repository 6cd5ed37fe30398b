use Rattle.std.proofs.Common.{ap, ◌∙◌, sym}
use Rattle.ul_tree.specs.FirstParts.{is_false}
use Rattle.ul_tree.proofs.ForCallers.{false_is}
use Rattle.ul_algebra.specs.Spelled.{tree_of}
use Rattle.ul_algebra.proofs.algebra.Algebra.is_false.Goals as goal

pub returns : goal.returns
returns c = ((λ t. false_is (tree_of c.args.diagram.now) (sym c.is_false.ensures ∙ t)), λ e. c.is_false.ensures ∙ ap is_false e)
