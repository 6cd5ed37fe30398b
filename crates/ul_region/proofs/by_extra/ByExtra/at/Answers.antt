use Rattle.std.proofs.Common.{List, ℕ, Option, subst, sym}
use Rattle.std.specs.Prelude.{IfSome}
use Rattle.ul_region.specs.Extras.{AreCandidates, HaveAll, IsExtraIndex}
use Rattle.ul_region.specs.declared.extra_index.ExtraIndex.{ExtraIndex}
use Rattle.ul_region.proofs.ExtraFacts.{all_there}
use Rattle.ul_region.proofs.by_extra.ByExtra.at.Goals as goal

pub kept_among-requires-clause-all : goal.kept_among-requires-clause-all
kept_among-requires-clause-all c =
    let qs = c.self.inside.requirements.now in
    let n = c.args.node.now in
    let index = c.in-Some.index in
    let places = c.in_ok-places.places.items in
    let indexed : IsExtraIndex qs index = subst (λ (o : Option ExtraIndex). IfSome o (IsExtraIndex qs)) c.in-Some.is c.self.invariant in
    subst (HaveAll qs n) (sym c.as_slice.ensures.value)
    (all_there qs n c.in-Some-extra.extra index places c.in-Some-extra.is indexed (subst (λ (x : List ℕ). AreCandidates index x places) c.text.ensures.value c.in_ok-places.ensures))
