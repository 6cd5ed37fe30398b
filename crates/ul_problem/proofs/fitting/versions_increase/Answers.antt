use Rattle.std.proofs.Common.{refl, arith, sym, ◌∙◌}
use Rattle.ul_problem.specs.Problems.{VersionBefore}
use Rattle.ul_problem.proofs.Loops.{less_of, related, rises_more, rises_all}
use Rattle.ul_problem.proofs.fitting.versions_increase.Goals as goal

pub loop-k-preserved : goal.loop-k-preserved
loop-k-preserved c = rises_more VersionBefore c.args.versions.now c.loop-k.k c.index-versions-k.result c.index-versions-k-in-loop-k.result _ (omega arith) (omega arith) (related VersionBefore _ _ _ _ c.index-versions-k.is c.index-versions-k-in-loop-k.is (sym c.cmp.ensures ∙ less_of c.cmp.result c.ne.result c.ne.ensures c.if-ne.false)) c.loop-k.invariant

pub returns : goal.returns
returns c = ((λ t. rises_all VersionBefore c.args.versions.now c.loop-k.k _ (omega arith) c.loop-k.invariant), (λ h. refl))
