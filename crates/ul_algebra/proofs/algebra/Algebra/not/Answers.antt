use Rattle.std.proofs.Common.{◌≡◌, suc, ◌+◌, ap, ◌∙◌, arith, sym, subst, not, false}
use Rattle.ul_interner.specs.Known.{Known}
use Rattle.ul_interner.proofs.ForCallers.{knows_then}
use Rattle.ul_nodes.specs.Plain.{Plain, truth}
use Rattle.ul_nodes.specs.Reduced.{IsReduced}
use Rattle.ul_nodes.specs.Apply.{size}
use Rattle.ul_tree.specs.Laws.{not_of}
use Rattle.ul_tree.specs.Values.{tree_holds}
use Rattle.ul_tree.proofs.ForCallers.{operations}
use Rattle.ul_algebra.specs.Answers.{IsDiagram}
use Rattle.ul_algebra.specs.Spelled.{tree_of}
use Rattle.ul_algebra.specs.Joinings.{IsJoinedBy}
use Rattle.ul_algebra.proofs.Kept.{diagram_stays, made_both, made_then}
use Rattle.ul_algebra.proofs.algebra.Algebra.not.Goals as goal

pub joined-requires-clause-a : goal.joined-requires-clause-a
joined-requires-clause-a g c = diagram_stays c.args.self.now c.truth.new.self c.args.diagram.now c.in_ok-nothing.ensures.knows c.requires.a

pub joined-requires-clause-b : goal.joined-requires-clause-b
joined-requires-clause-b g c = record { known = c.in_ok-nothing.ensures.known; reduced = subst (λ (z : Plain). IsReduced z) (sym c.in_ok-nothing.ensures.tree) tt }

pub returns-clause-knows : goal.returns-clause-knows
returns-clause-knows g c = knows_then _ _ _ c.in_ok-nothing.ensures.knows c.joined.ensures.knows

pub returns-clause-diagram : goal.returns-clause-diagram
returns-clause-diagram g c =
    let h = c.joined.new.algebra in
    made_both c.joined.result (λ d. Known h d) (λ d. IsReduced (tree_of d)) (λ d. IsDiagram h d) (λ d k r. record { known = k; reduced = r }) c.joined.ensures.known c.joined.ensures.reduced

pub returns-clause-tree : goal.returns-clause-tree
returns-clause-tree g c =
    let a = tree_of c.args.diagram.now in
    made_then c.joined.result (λ d. IsJoinedBy (λ x y. not x) a (tree_of c.in_ok-nothing.nothing) (tree_of d)) (λ d. tree_of d ≡ not_of a)
    (λ d j. (subst (λ (z : Plain). IsJoinedBy (λ x y. not x) a z (tree_of d)) c.in_ok-nothing.ensures.tree j) (suc (size a + size (truth false))) (omega arith)) c.joined.ensures.joined

pub returns-clause-truth : goal.returns-clause-truth
returns-clause-truth g c =
    let a = tree_of c.args.diagram.now in
    made_then c.joined.result (λ d. tree_of d ≡ not_of a) _ (λ d e w x. ap (λ t. tree_holds t w x) e ∙ operations.join_truth (λ x y. not x) a (truth false) c.requires.a.reduced tt w x) (returns-clause-tree g c)
