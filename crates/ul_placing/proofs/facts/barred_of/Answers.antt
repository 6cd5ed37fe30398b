use Rattle.std.proofs.Common.{◌≡◌, ◌<◌, ℕ, length, subst, arith}
use Rattle.ul_index.specs.Catalogs.{is_release_fit}
use Rattle.ul_index.specs.Serves.{Suits}
use Rattle.ul_region.specs.Truths.{region_at}
use Rattle.ul_region.specs.declared.rows.Row.{Row}
use Rattle.ul_placing.proofs.Aiming.{row_is, none_so}
use Rattle.ul_placing.proofs.Barring.{below_next, below_more, holds_same, holds_more, fails_more, barred_all, Holds}
use Rattle.ul_placing.proofs.Lists.{read_there}
use Rattle.ul_placing.proofs.facts.barred_of.Goals as goal

pub suits-requires : goal.suits-requires
suits-requires c = let l : c.loop-version.version < length c.args.planned.now.rows.items = omega (arith, c.loop-version-test.true, c.len-size.ensures, c.args.planned.now.rows.ok) in
    record { place = c.requires.place; row = row_is c.args.algebra.now c.args.place.now.truths.now c.args.planned.now c.loop-version.version c.index.result.now c.requires.rows l c.index.ensures }

pub loop-version-preserved-then-suits : goal.loop-version-preserved-then-suits
loop-version-preserved-then-suits c = let l : c.loop-version.version < length c.args.planned.now.rows.items = omega (arith, c.loop-version-test.true, c.len-size.ensures, c.args.planned.now.rows.ok) in
    record {
      below = below_next c.loop-version.version c.loop-version.barred.items c.loop-version.invariant.below;
      holds = holds_same c.args.planned.now.rows.items (λ (r : Row). Suits c.args.strategy (region_at c.args.place.now.region.now) (is_release_fit r.release.now)) c.loop-version.version c.loop-version.barred.items c.index.result.now
          (read_there c.args.planned.now.rows.items c.loop-version.version c.index.result.now l c.index.ensures) (c.suits.ensures.0 c.if-suits.true) c.loop-version.invariant.holds;
      fails = c.loop-version.invariant.fails;
    }

pub loop-version-preserved : goal.loop-version-preserved
loop-version-preserved c = let l : c.loop-version.version < length c.args.planned.now.rows.items = omega (arith, c.loop-version-test.true, c.len-size.ensures, c.args.planned.now.rows.ok) in
    record {
      below = below_more c.loop-version.version c.loop-version.barred.items c.push.new.self.items c.in_ok-push.ensures.items c.loop-version.invariant.below;
      holds = holds_more c.args.planned.now.rows.items (λ (r : Row). Suits c.args.strategy (region_at c.args.place.now.region.now) (is_release_fit r.release.now)) c.loop-version.version c.loop-version.barred.items c.push.new.self.items
          c.in_ok-push.ensures.items c.loop-version.invariant.holds;
      fails = fails_more c.args.planned.now.rows.items (λ (r : Row). Suits c.args.strategy (region_at c.args.place.now.region.now) (is_release_fit r.release.now)) c.loop-version.version c.loop-version.barred.items c.push.new.self.items c.index.result.now
          c.in_ok-push.ensures.items (read_there c.args.planned.now.rows.items c.loop-version.version c.index.result.now l c.index.ensures) (none_so _ c.suits.result c.suits.ensures c.if-suits.false) c.loop-version.invariant.fails;
    }

pub returns : goal.returns
returns c =
    let size : c.loop-version.version ≡ c.len-size.result = omega (arith, c.loop-version-test.false, c.loop-version.auto.version-end) in
    let long : length c.args.planned.now.rows.items ≡ c.len-size.result = omega (arith, c.len-size.ensures, c.args.planned.now.rows.ok) in
    barred_all c.args.strategy (region_at c.args.place.now.region.now) c.args.planned.now c.len-size.result c.loop-version.barred.items c.in_ok-set.set long c.in_ok-set.ensures
    (subst (λ (n : ℕ). Holds c.args.planned.now.rows.items (λ (r : Row). Suits c.args.strategy (region_at c.args.place.now.region.now) (is_release_fit r.release.now)) n c.loop-version.barred.items) size c.loop-version.invariant.holds)
    c.loop-version.invariant.fails
