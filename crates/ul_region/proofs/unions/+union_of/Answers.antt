use Rattle.std.proofs.Common.{arith, subst, sym}
use Rattle.std.specs.Prelude.{All}
use Rattle.std.proofs.lemmas.List.Elements.{All-take}
use Rattle.std.proofs.lemmas.Result.{IfOk-weaker}
use Rattle.ul_interner.proofs.ForCallers.{knows_then}
use Rattle.ul_region.specs.Truths.{IsRegion}
use Rattle.ul_region.proofs.TruthFacts.{is_region, truth_still}
use Rattle.ul_region.proofs.UnionFacts.{none_union, one_union, both_union, back_still}
use Rattle.ul_region.proofs.unions.+union_of.Goals as goal

pub returns-then-parts-eq0-clause-truth : goal.returns-then-parts-eq0-clause-truth
returns-then-parts-eq0-clause-truth g t c = none_union _ _ _ c.if-parts-eq0.true c.in_ok-d.ensures.truth

pub returns-then-parts-eq1-clause-truth : goal.returns-then-parts-eq1-clause-truth
returns-then-parts-eq1-clause-truth g t c = one_union _ _ _ _ c.if-parts-eq1.true c.requires c.in_ok-d-2.ensures c.index-parts-0.is

pub returns-in_err-second-clause-knows : goal.returns-in_err-second-clause-knows
returns-in_err-second-clause-knows g t c = knows_then _ _ _ c.in_ok-first.ensures.knows c.in_err-second.ensures.knows

pub either-requires-clause-first : goal.either-requires-clause-first
either-requires-clause-first g t c = truth_still _ _ _ _ c.in_ok-second.ensures.knows (is_region _ _ _ c.in_ok-first.ensures.truth)

pub either-requires-clause-second : goal.either-requires-clause-second
either-requires-clause-second g t c = is_region _ _ _ c.in_ok-second.ensures.truth

pub returns-clause-knows : goal.returns-clause-knows
returns-clause-knows g t c = knows_then _ _ _ (knows_then _ _ _ c.in_ok-first.ensures.knows c.in_ok-second.ensures.knows) c.either.ensures.knows

pub returns-clause-truth : goal.returns-clause-truth
returns-clause-truth g t c = IfOk-weaker c.either.result _ _ (λ d u. both_union _ _ _ d _ _ _ _ _ c.split_at.ensures.by_index.0 c.in_ok-first.ensures.truth c.in_ok-second.ensures.truth u) c.either.ensures.truth

pub union_of-requires-2 : goal.union_of-requires-2
union_of-requires-2 g t c = let d = c.decreases in λ κs within. (
  omega (arith, d, c.split_at.ensures.back_len),
  (within, back_still _ _ _ _ _ c.in_ok-first.ensures.knows c.split_at.ensures.back c.requires),
)

pub union_of-requires : goal.union_of-requires
union_of-requires g t c = let d = c.decreases in λ κs within. (
  omega (arith, d, c.split_at.ensures.front_len),
  (within, subst (All (IsRegion c.args.algebra.now)) (sym c.split_at.ensures.front) (All-take (IsRegion c.args.algebra.now) _ c.args.parts.now c.requires)),
)
