use Rattle.ul_problem.proofs.Merging.{wanted_same}
use Rattle.ul_problem.proofs.resolving.is_resolvent.Goals as goal

pub returns : goal.returns
returns c = wanted_same c.args.node c.args.left.now c.args.right.now c.in_ok-wanted.wanted c.as_slice.result.now c.args.terms.now c.same_terms.result
    c.in_ok-wanted.ensures c.as_slice.ensures c.same_terms.ensures
