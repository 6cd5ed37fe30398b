use Rattle.std.proofs.Common.{ℕ, subst, sym}
use Rattle.ul_interner.proofs.ForCallers.{knows_itself, knows_then}
use Rattle.ul_requirement.specs.Truth.{with_extra}
use Rattle.ul_merge.specs.declared.gathering.Group.{Group}
use Rattle.ul_merge.specs.declared.keys.ExtraKey.{ExtraKey}
use Rattle.ul_merge.specs.Blocks.{AreUsers, MakesExtra, catalog_in, leaves_in, supported_in}
use Rattle.ul_lock_write.specs.Markers.{extra_markers}
use Rattle.ul_merge.specs.Keys.{pair_of}
use Rattle.ul_base.proofs.ForCallers.{made_holds}
use Rattle.ul_merge.proofs.BlockFacts.{sources_still}
use Rattle.ul_merge.proofs.OverFacts.{all_over, made_over, none_over, one_over}
use Rattle.ul_merge.proofs.blocks.made_extras.Goals as goal

pub extra_of-extra-requires-clause-sources : goal.extra_of-extra-requires-clause-sources
extra_of-extra-requires-clause-sources g c = sources_still _ _ _ c.loop-group.invariant.knows c.requires.sources

pub returns-in_err-extras-clause-knows : goal.returns-in_err-extras-clause-knows
returns-in_err-extras-clause-knows g c = knows_then _ _ _ c.loop-group.invariant.knows c.extra_of-extra.ensures.knows

pub loop-group-preserved : goal.loop-group-preserved
loop-group-preserved g c =
    let Makes = MakesExtra (catalog_in c.args.sources.now) (leaves_in c.args.sources.now) (supported_in c.args.sources.now) (pair_of c.args.pair.now) in
    let more = c.in_ok-extras.ensures in
    record {
      knows = knows_then _ _ _ c.loop-group.invariant.knows c.extra_of-extra.ensures.knows;
      made = made_over Makes extra_markers _ _ _ _ _ _ c.loop-group-test.true c.group-item.is c.loop-group.invariant.made
          (one_over extra_markers _ (Makes c.group-item.result) (λ x h. h) more.0 (made_holds c.extra_of-extra.result more.0 _ more.1 c.extra_of-extra.ensures.extra)) more.2;
    }

pub loop-group-init : goal.loop-group-init
loop-group-init g c = record {
  knows = knows_itself _;
  made = none_over (MakesExtra (catalog_in c.args.sources.now) (leaves_in c.args.sources.now) (supported_in c.args.sources.now) (pair_of c.args.pair.now)) extra_markers _ c.in_ok-with_capacity.ensures.items;
}

pub extra_of-extra-requires-clause-users : goal.extra_of-extra-requires-clause-users
extra_of-extra-requires-clause-users g c =
    let pair = c.args.pair.now in
    subst (λ (h : Group ExtraKey ℕ). AreUsers c.args.sources.now.choices.now (with_extra pair.name.now h.key.name.now, pair.version.now) h.values.items) (sym c.group-item.is) (c.requires.users c.loop-group.group-index c.group-item.result c.loop-group-test.true)

pub returns-clause-knows : goal.returns-clause-knows
returns-clause-knows g c = c.loop-group.invariant.knows

pub returns-clause-extras : goal.returns-clause-extras
returns-clause-extras g c = all_over (MakesExtra (catalog_in c.args.sources.now) (leaves_in c.args.sources.now) (supported_in c.args.sources.now) (pair_of c.args.pair.now)) extra_markers c.args.groups.now c.loop-group.group-index _
    c.loop-group-test.false c.loop-group.invariant.made

pub extra_of-extra-requires-clause-required : goal.extra_of-extra-requires-clause-required
extra_of-extra-requires-clause-required g c = c.requires.required
