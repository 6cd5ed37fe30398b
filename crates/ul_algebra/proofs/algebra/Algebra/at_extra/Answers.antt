use Rattle.std.proofs.Common.{◌≡◌, ap, ◌∙◌, sym, subst}
use Rattle.ul_nodes.specs.Plain.{Plain}
use Rattle.ul_nodes.specs.Reduced.{IsReduced}
use Rattle.ul_tree.specs.Laws.{at_extra_of}
use Rattle.ul_tree.specs.Values.{tree_holds}
use Rattle.ul_tree.proofs.ForCallers.{operations}
use Rattle.ul_algebra.specs.Answers.{IsDiagram}
use Rattle.ul_algebra.specs.Spelled.{tree_of}
use Rattle.ul_algebra.specs.Truths.{HoldsAtExtra}
use Rattle.ul_algebra.proofs.Kept.{if_share}
use Rattle.ul_algebra.proofs.algebra.Algebra.at_extra.Goals as goal

pub returns-clause-diagram : goal.returns-clause-diagram
returns-clause-diagram c =
    if_share c.share.result c.part_at.result.now (λ d. IsDiagram c.args.self.now d) c.share.ensures
    (record {
      known = c.part_at.ensures.below c.args.self.now c.requires.a.known;
      reduced = subst (λ (z : Plain). IsReduced z) (sym c.part_at.ensures.part) (operations.extra_reduced (tree_of c.args.diagram.now) c.args.extra.now c.requires.a.reduced);
    })

pub returns-clause-tree : goal.returns-clause-tree
returns-clause-tree c = if_share c.share.result c.part_at.result.now (λ d. tree_of d ≡ at_extra_of (tree_of c.args.diagram.now) c.args.extra.now) c.share.ensures c.part_at.ensures.part

pub returns-clause-truth : goal.returns-clause-truth
returns-clause-truth c =
    if_share c.share.result c.part_at.result.now (λ d. HoldsAtExtra c.args.extra.now c.args.diagram.now d) c.share.ensures
    (λ w y. ap (λ t. tree_holds t w y) c.part_at.ensures.part ∙ operations.extra_truth (tree_of c.args.diagram.now) c.args.extra.now c.requires.a.reduced w y)
