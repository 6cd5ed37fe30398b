use Rattle.std.proofs.Common.{◌≡◌, ℕ, List, ap, sym, subst, slice_get, ◌∙◌}
use Rattle.std.specs.Prelude.{IfOk}
use Rattle.ul_problem.specs.Plain.{base_in, base_of, size_of}
use Rattle.ul_problem.specs.Steps.{IsStepWithin, base_or, pair_of}
use Rattle.ul_problem.specs.declared.problem.NodeFacts.{NodeFacts}
use Rattle.ul_problem.specs.declared.term.Term.TheVariants.{In, NotIn}
use Rattle.ul_problem.proofs.step.Step.terms.Goals as goal

pub implied-requires : goal.implied-requires
implied-requires c =
    let within = subst (IsStepWithin c.args.problem.now) c.in-Need.is c.requires in
    λ e. within.2 ∙ (ap (size_of c.args.problem.now) e ∙ sym within.3)

pub returns-in-Need-clause-value : goal.returns-in-Need-clause-value
returns-in-Need-clause-value c = rw c.in-Need.is c.implied.ensures

pub returns-in-Base-clause-value : goal.returns-in-Base-clause-value
returns-in-Base-clause-value c =
    let base : c.base_or_node.result ≡ base_or (base_of c.args.problem.now c.in-Base.node) c.in-Base.node
    = c.base_or_node.ensures ∙ ap (λ (ns : List NodeFacts). base_or (base_in (slice_get ns c.in-Base.node)) c.in-Base.node) c.nodes-nodes.ensures.value in
    rw c.in-Base.is (subst (λ (b : ℕ). IfOk c.implied-in-Base.result (λ ts. ts ≡ pair_of (In c.in-Base.node c.in-Base.versions) (NotIn b c.in-Base.versions))) base c.implied-in-Base.ensures)
