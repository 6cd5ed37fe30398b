use Rattle.std.proofs.Common.{refl, subst, sym, ◌∙◌}
use Rattle.std.specs.Prelude.{flat_map}
use Rattle.ul_base.proofs.ForCallers.{made_holds}
use Rattle.ul_lock_write.specs.Markers.{extra_markers}
use Rattle.ul_merge.specs.Blocks.{AreMadeExtras, MakesExtra, catalog_in, leaves_in, supported_in}
use Rattle.ul_merge.specs.Keys.{pair_of}
use Rattle.ul_merge.specs.Made.{AreMade}
use Rattle.ul_merge.specs.Over.{OrOver, items_in}
use Rattle.ul_merge.proofs.OverFacts.{or_over}
use Rattle.ul_merge.proofs.BlockFacts.{extra_groups, extras_are}
use Rattle.ul_merge.proofs.blocks.extras_of.Goals as goal

pub made_extras-extras-requires-clause-users : goal.made_extras-extras-requires-clause-users
made_extras-extras-requires-clause-users g c = extra_groups c.args.sources.now.choices.now c.args.group.now c.as_slice.result.now c.in_ok-entries.entries.items c.in_ok-groups.groups.items c.as_slice-2.result.now
    c.requires.group c.as_slice.ensures.value c.in_ok-entries.ensures c.in_ok-groups.ensures c.as_slice-2.ensures.value

pub returns-clause-extras : goal.returns-clause-extras
returns-clause-extras g c =
    let s = c.args.sources.now in
    let Are = AreMadeExtras (catalog_in s) (leaves_in s) (supported_in s) (pair_of c.args.group.now.key) in
    subst (OrOver (flat_map extra_markers) Are) (sym c.extras_in.ensures)
    (or_over (flat_map extra_markers) (AreMade (MakesExtra (catalog_in s) (leaves_in s) (supported_in s) (pair_of c.args.group.now.key)) c.as_slice-2.result.now) Are
    (λ xs made. extras_are s c.args.algebra.now c.args.group.now c.as_slice.result.now c.in_ok-entries.entries.items c.in_ok-groups.groups.items c.as_slice-2.result.now xs xs
    c.requires.sources c.requires.group c.as_slice.ensures.value c.in_ok-entries.ensures c.in_ok-groups.ensures c.as_slice-2.ensures.value made refl) (items_in c.in_ok-extras.extras)
    (made_holds c.made_extras-extras.result c.in_ok-extras.extras _ c.in_ok-extras.ensures c.made_extras-extras.ensures.extras))

pub made_extras-extras-requires-clause-sources : goal.made_extras-extras-requires-clause-sources
made_extras-extras-requires-clause-sources g c = c.requires.sources

pub made_extras-extras-requires-clause-required : goal.made_extras-extras-requires-clause-required
made_extras-extras-requires-clause-required g c = c.in_ok-required.ensures ∙ c.requires.required

pub returns-clause-knows : goal.returns-clause-knows
returns-clause-knows g c = c.made_extras-extras.ensures.knows
