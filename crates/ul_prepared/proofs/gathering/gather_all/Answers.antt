use Rattle.std.proofs.Common.{sym, subst}
use Rattle.ul_requirement.specs.Fields.{WishFields}
use Rattle.ul_index.specs.Catalogs.{Packages}
use Rattle.ul_prepared.specs.Gathered.{IsGathered, IsWhole}
use Rattle.ul_prepared.specs.declared.gathering.Gathered.{Gathered}
use Rattle.ul_prepared.proofs.Loops.{twice_handed}
use Rattle.ul_prepared.proofs.gathering.gather_all.Goals as goal

pub meet_all-requires : goal.meet_all-requires
meet_all-requires c = c.new-all.ensures c.in_ok-sources.sources.0 c.in_ok-sources.sources.1

pub returns-clause-gathered : goal.returns-clause-gathered
returns-clause-gathered c =
    let met = twice_handed c.meet_all.result c.made_from-met.result c.in_ok-both.both.1 (λ z. IsGathered c.in_ok-sources.sources.0 c.in_ok-sources.sources.1 c.meet_all.new.self) c.in_ok-both.ensures.1 c.made_from-met.ensures c.meet_all.ensures.gathered in
    subst (λ (g : Gathered). IsGathered c.args.catalog.now c.args.wish.now g) (sym c.in_ok-both.ensures.0)
    (subst (λ (s : Packages × WishFields). IsGathered s.0 s.1 c.meet_all.new.self) c.in_ok-sources.ensures met)

pub returns-clause-whole : goal.returns-clause-whole
returns-clause-whole c =
    subst (λ (g : Gathered). IsWhole c.args.starts.now g) (sym c.in_ok-both.ensures.0)
    (twice_handed c.meet_all.result c.made_from-met.result c.in_ok-both.both.1 (λ z. IsWhole c.args.starts.now c.meet_all.new.self) c.in_ok-both.ensures.1 c.made_from-met.ensures c.meet_all.ensures.whole)
