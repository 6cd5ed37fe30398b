use Rattle.std.proofs.Common.{◌≡◌, ap, sym, subst, ◌∙◌}
use Rattle.std.proofs.lemmas.Result.{IfOk-weaker}
use Rattle.ul_algebra.specs.Answers.{IsDiagram}
use Rattle.ul_algebra.specs.Spelled.{tree_of}
use Rattle.ul_interner.specs.Known.{Knows}
use Rattle.ul_nodes.specs.Plain.{Plain}
use Rattle.ul_tree.specs.Laws.{and_of, at_extra_of, not_of}
use Rattle.ul_region.specs.Truths.{PassView}
use Rattle.ul_region.proofs.truths.extra_diagram.Goals as goal

pub first_alone-requires-clause-first : goal.first_alone-requires-clause-first
first_alone-requires-clause-first g c = subst (λ (h : PassView). IsDiagram h c.in_ok-with.with) (sym c.at_extra-2.ensures.same) c.in_ok-with.ensures.diagram

pub returns-clause-knows : goal.returns-clause-knows
returns-clause-knows g c = subst (λ (h : PassView). Knows h c.first_alone.new.algebra) (c.at_extra-2.ensures.same ∙ c.at_extra.ensures.same) c.first_alone.ensures.knows

pub returns-clause-tree : goal.returns-clause-tree
returns-clause-tree g c =
    let first = tree_of c.in_ok-with.with in
    let second = tree_of c.in_ok-without.without in
    let with = at_extra_of (tree_of c.args.whole.now) c.args.extra.now in
    IfOk-weaker c.first_alone.result (λ d. tree_of d ≡ and_of first (not_of second)) _
    (λ d e. e ∙ (ap (λ (z : Plain). and_of z (not_of second)) c.in_ok-with.ensures.tree ∙ ap (λ (z : Plain). and_of with (not_of z)) c.in_ok-without.ensures.tree)) c.first_alone.ensures.tree
