use Rattle.ul_interner.specs.Known.{Known}
use Rattle.ul_tree.specs.Simplify.{Simplifies}
use Rattle.ul_tree.specs.Values.{value_of}
use Rattle.ul_tree.proofs.ForCallers.{simplify_laws}
use Rattle.ul_algebra.specs.Answers.{IsDiagram}
use Rattle.ul_algebra.specs.Spelled.{tree_of}
use Rattle.ul_algebra.proofs.Kept.{made_both, made_then}
use Rattle.ul_algebra.proofs.algebra.Algebra.simplify.Goals as goal

pub returns-clause-diagram : goal.returns-clause-diagram
returns-clause-diagram g c =
    let h = c.simplified.new.algebra in
    let f = tree_of c.args.diagram.now in
    let r = tree_of c.args.region.now in
    made_both c.simplified.result (λ d. Known h d) (λ d. Simplifies f r (tree_of d)) (λ d. IsDiagram h d)
    (λ d k s. record { known = k; reduced = simplify_laws.reduced f r (tree_of d) c.requires.f.reduced c.requires.c.reduced s }) c.simplified.ensures.known c.simplified.ensures.rule

pub returns-clause-agrees : goal.returns-clause-agrees
returns-clause-agrees g c =
    let f = tree_of c.args.diagram.now in
    let r = tree_of c.args.region.now in
    made_then c.simplified.result (λ d. Simplifies f r (tree_of d)) _ (λ d s w x h. simplify_laws.agrees f r (tree_of d) c.requires.f.reduced c.requires.c.reduced s (value_of w x) h) c.simplified.ensures.rule
