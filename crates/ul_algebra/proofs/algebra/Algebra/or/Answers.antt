use Rattle.std.proofs.Common.{◌≡◌, suc, ◌+◌, ap, ◌∙◌, arith}
use Rattle.ul_interner.specs.Known.{Known}
use Rattle.ul_nodes.specs.Apply.{size, either}
use Rattle.ul_nodes.specs.Reduced.{IsReduced}
use Rattle.ul_tree.specs.Laws.{or_of}
use Rattle.ul_tree.specs.Values.{tree_holds}
use Rattle.ul_tree.proofs.ForCallers.{operations}
use Rattle.ul_algebra.specs.Answers.{IsDiagram}
use Rattle.ul_algebra.specs.Spelled.{tree_of}
use Rattle.ul_algebra.proofs.Kept.{made_both, made_then}
use Rattle.ul_algebra.proofs.algebra.Algebra.or.Goals as goal

pub returns-clause-diagram : goal.returns-clause-diagram
returns-clause-diagram g c =
    let h = c.joined.new.algebra in
    made_both c.joined.result (λ d. Known h d) (λ d. IsReduced (tree_of d)) (λ d. IsDiagram h d) (λ d k r. record { known = k; reduced = r }) c.joined.ensures.known c.joined.ensures.reduced

pub returns-clause-tree : goal.returns-clause-tree
returns-clause-tree g c =
    let a = tree_of c.args.first.now in
    let b = tree_of c.args.second.now in
    made_then c.joined.result _ (λ d. tree_of d ≡ or_of a b) (λ d j. j (suc (size a + size b)) (omega arith)) c.joined.ensures.joined

pub returns-clause-truth : goal.returns-clause-truth
returns-clause-truth g c =
    let a = tree_of c.args.first.now in
    let b = tree_of c.args.second.now in
    made_then c.joined.result (λ d. tree_of d ≡ or_of a b) _ (λ d e w x. ap (λ t. tree_holds t w x) e ∙ operations.join_truth either a b c.requires.a.reduced c.requires.b.reduced w x) (returns-clause-tree g c)
