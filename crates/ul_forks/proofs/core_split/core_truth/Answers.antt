use Rattle.std.proofs.Common.{List, All, sym, subst}
use Rattle.ul_blame.specs.declared.needs.CoreNeed.{CoreNeed}
use Rattle.ul_region.specs.Truths.{region_at}
use Rattle.ul_split.specs.CoreAnswers.{CoreGives}
use Rattle.ul_forks.specs.Deeper.{HasVersion}
use Rattle.ul_forks.proofs.Deeper.{core_versions, splits_deeper}
use Rattle.ul_forks.proofs.core_split.core_truth.Goals as goal

pub first_failing-requires-clause-needs : goal.first_failing-requires-clause-needs
first_failing-requires-clause-needs c =
    let p = c.args.placed.now.problem in
    subst (λ (ks : List CoreNeed). All (HasVersion p) ks) (sym c.as_slice.ensures.value)
    (core_versions c.core_laws.ensures.among p c.in_ok-needs.needs.items c.requires.placed.problem.well_formed c.in_ok-needs.ensures)

pub returns : goal.returns
returns c =
    let p = c.args.placed.now.problem in
    splits_deeper c.args.algebra.now c.args.prepared.now c.args.extras.now c.args.place.now c.args.placed.now c.requires.ready c.requires.placed
    c.in_ok-needs.needs.items c.in_ok-truth.truth c.requires.deep c.in_ok-needs.ensures
    (subst (λ (ks : List CoreNeed). CoreGives c.args.algebra.now c.args.prepared.now.catalog.now (region_at c.args.place.now.region.now) p ks c.in_ok-truth.truth) c.as_slice.ensures.value c.in_ok-truth.ensures)
