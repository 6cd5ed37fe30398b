use Rattle.std.proofs.Common.{◌∙◌, ◌++◌, subst, sym, List, length-append, arith}
use Rattle.ul_problem.specs.declared.step.Step.{Step}
use Rattle.ul_conflict.proofs.Turning.{ended, IsEnd}
use Rattle.ul_conflict.proofs.analysis.closed.Goals as goal

end-of : (c : goal.After-as_slice) → IsEnd c.args.problem.now (c.as_slice.result.now ++ c.as_slice-learned.result.now) c.args.resolved.number
end-of c = subst (λ (l : List Step). IsEnd c.args.problem.now (l ++ c.as_slice-learned.result.now) c.args.resolved.number) (sym (c.as_slice.ensures.value ∙ c.in_ok-held.ensures))
    (subst (λ (l : List Step). IsEnd c.args.problem.now (c.args.trail.now.steps ++ l) c.args.resolved.number) (sym c.as_slice-learned.ensures.value)
    (ended c.args.problem.now c.args.trail.now c.args.resolved.terms c.args.resolved.number c.args.resolved.learned.items c.args.place c.requires.right c.requires.state c.requires.roots))

pub derivation_of-requires-clause-right : goal.derivation_of-requires-clause-right
derivation_of-requires-clause-right c = (end-of c).right

pub derivation_of-requires-clause-closes : goal.derivation_of-requires-clause-closes
derivation_of-requires-clause-closes c = (end-of c).closes

pub derivation_of-requires-clause-there : goal.derivation_of-requires-clause-there
derivation_of-requires-clause-there c = let h = (end-of c).there in let l = length-append c.as_slice.result.now c.as_slice-learned.result.now in omega arith

pub derivation_of-requires-clause-some : goal.derivation_of-requires-clause-some
derivation_of-requires-clause-some c = (end-of c).some
