use Rattle.std.proofs.Common.{◌≡◌, ℕ, List, [], Result, Ok, Err}
use Rattle.std.specs.Prelude.{IfOk}
use Rattle.std.specs.declared.alloc.AllocError.{AllocError}
use Rattle.ul_interner.proofs.ForCallers.{knows_then}
use Rattle.ul_comparison.specs.Worlds.{WorldFields}
use Rattle.ul_tree.specs.Laws.{and_of, at_extra_of, not_of}
use Rattle.ul_tree.specs.Values.{tree_holds}
use Rattle.ul_algebra.specs.Answers.{IsDiagram}
use Rattle.ul_algebra.specs.Spelled.{tree_of}
use Rattle.ul_region.specs.Truths.{DiagramMark}
use Rattle.ul_region.proofs.TruthFacts.{base_truth, extra_truth}
use Rattle.ul_region.proofs.truths.truth_at.Goals as goal

-- what follows of two things that are told of what was made
told_both : (made : Result DiagramMark AllocError) (P Q R : DiagramMark → Type 0) → ((d : DiagramMark) → P d → Q d → R d) → IfOk made P → IfOk made Q → IfOk made R
told_both (Ok d) P Q R f p q = f d p q
told_both (Err e) P Q R f p q = tt

pub returns-in-None-clause-truth : goal.returns-in-None-clause-truth
returns-in-None-clause-truth g c =
    let whole = c.in_ok-whole.whole in
    let h = c.at_extra.new.self in
    told_both c.at_extra.result (IsDiagram h) (λ d. (w : WorldFields) (y : List ℕ) → tree_holds (tree_of d) w y ≡ tree_holds (tree_of whole) w []) _
    (λ d k e. base_truth h d whole c.args.requirement.now c.args.node.now k e c.in_ok-whole.ensures.truth c.in-None.is) c.at_extra.ensures.diagram c.at_extra.ensures.truth

pub returns-clause-knows : goal.returns-clause-knows
returns-clause-knows g c = knows_then _ _ _ c.in_ok-whole.ensures.knows c.extra_diagram.ensures.knows

pub returns-clause-truth : goal.returns-clause-truth
returns-clause-truth g c =
    let whole = c.in_ok-whole.whole in
    let own = c.text.result.now in
    let h = c.extra_diagram.new.algebra in
    told_both c.extra_diagram.result (IsDiagram h) (λ d. tree_of d ≡ and_of (at_extra_of (tree_of whole) own) (not_of (at_extra_of (tree_of whole) []))) _
    (λ d k e. extra_truth h d whole c.args.requirement.now c.args.node.now own c.in-Some.extra k c.in_ok-whole.ensures.diagram.reduced e c.in_ok-whole.ensures.truth c.text.ensures.value c.in-Some.is)
    c.extra_diagram.ensures.diagram c.extra_diagram.ensures.tree
