use Rattle.std.proofs.Common.{◌≡◌, ◌<◌, ◌+◌, ◌++◌, ◌∷◌, [], ℕ, true, false, List, Option, Some, None, length, get_or, drop, arith, ap, sym, ◌∙◌}
use Rattle.std.specs.Prelude.{is_some}
use Rattle.std.proofs.lemmas.List.{append-nil, append_assoc, drop_all}
use Rattle.ul_placing.specs.Ranks.{ranks_from}
use Rattle.ul_placing.specs.declared.aims.NodeAims.{NodeAims}
use Rattle.ul_placing.proofs.Lists.{rest_more}
use Rattle.ul_placing.proofs.ranks.ranks_of.Goals as goal
use Rattle.ul_placing.proofs.ranks.ranks_of.Goals.{then-is_some, else-is_some}

-- one that is reached is counted for those behind it
counted : (r s : ℕ) (o : Option NodeAims) (rest : List (Option NodeAims)) → is_some o ≡ true → s ≡ r + 1 → ranks_from r (o ∷ rest) ≡ r ∷ ranks_from s rest
counted r s None rest there e = cc
counted r s (Some a) rest there e = ap (λ (k : ℕ). r ∷ ranks_from k rest) (sym e)

-- and one that isn't, isn't
same : (r s : ℕ) (o : Option NodeAims) (rest : List (Option NodeAims)) → is_some o ≡ false → s ≡ r → ranks_from r (o ∷ rest) ≡ r ∷ ranks_from s rest
same r s None rest there e = ap (λ (k : ℕ). r ∷ ranks_from k rest) (sym e)
same r s (Some a) rest there e = cc

-- one rank more, and those of the rest
ranked : (aims : List (Option NodeAims)) (i r s : ℕ) (o : Option NodeAims) (done now whole : List ℕ) → i < length aims → o ≡ get_or aims i o → now ≡ done ++ r ∷ []
    → ranks_from r (o ∷ drop (i + 1) aims) ≡ r ∷ ranks_from s (drop (i + 1) aims) → done ++ ranks_from r (drop i aims) ≡ whole → now ++ ranks_from s (drop (i + 1) aims) ≡ whole
ranked aims i r s o done now whole l at grown step h =
    ap (λ (z : List ℕ). z ++ ranks_from s (drop (i + 1) aims)) grown
    ∙ (append_assoc done (r ∷ []) (ranks_from s (drop (i + 1) aims))
    ∙ (ap (λ (z : List ℕ). done ++ z) (sym step) ∙ (ap (λ (z : List (Option NodeAims)). done ++ ranks_from r z) (sym (rest_more aims i o l at)) ∙ h)))

pub loop-one-init : goal.loop-one-init
loop-one-init c = record {
  small = omega arith;
  ranks = ap (λ (z : List ℕ). z ++ ranks_from 0 c.args.aims.now) c.in_ok-ranks.ensures.items;
}

pub loop-one-preserved : goal.loop-one-preserved
loop-one-preserved c =
    let go = ranked c.args.aims.now c.loop-one.one-index c.loop-one.rank c.if-is_some.rank c.one-item.result c.loop-one.ranks.items c.push.new.self.items (ranks_from 0 c.args.aims.now) c.loop-one-test.true c.one-item.is c.in_ok-push.ensures.items in
    elim c.if-is_some.branch [
      | then-is_some w ↦ record {
        small = omega (arith, w.rank-is, c.loop-one.invariant.small);
        ranks = go (counted c.loop-one.rank c.if-is_some.rank c.one-item.result _ (sym c.is_some.ensures ∙ w.if-is_some.true) w.rank-is) c.loop-one.invariant.ranks;
      }
      | else-is_some w ↦ record {
        small = omega (arith, w.rank-is, c.loop-one.invariant.small);
        ranks = go (same c.loop-one.rank c.if-is_some.rank c.one-item.result _ (sym c.is_some.ensures ∙ w.if-is_some.false) w.rank-is) c.loop-one.invariant.ranks;
      }
    ]

pub returns : goal.returns
returns c =
    sym (append-nil c.loop-one.ranks.items)
    ∙ (ap (λ (z : List (Option NodeAims)). c.loop-one.ranks.items ++ ranks_from c.loop-one.rank z) (sym (drop_all c.loop-one.one-index c.args.aims.now c.loop-one-test.false)) ∙ c.loop-one.invariant.ranks)
