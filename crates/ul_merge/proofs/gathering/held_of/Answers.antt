use Rattle.std.proofs.Common.{IfSome, List, map, subst}
use Rattle.ul_merge.specs.Gathered.{HasPlace, HoldBundles, entry_bundle}
use Rattle.ul_merge.specs.declared.gathering.Entry.{Entry}
use Rattle.ul_merge.specs.declared.gathering.Group.{Group}
use Rattle.ul_merge.proofs.Gathers.{hold_more}
use Rattle.ul_merge.proofs.Walks.{of_all}
use Rattle.ul_merge.proofs.gathering.held_of.Goals as goal

pub put-requires : goal.put-requires
put-requires g c = subst (λ (gs : List (Group g.row.K.Denot g.row.V.Denot)). IfSome c.in_ok-place.place (λ k. HasPlace g.K.Key.cmp gs k c.entry-item.result.key)) c.as_slice.ensures.value c.in_ok-place.ensures

pub loop-entry-preserved : goal.loop-entry-preserved
loop-entry-preserved g c = hold_more g.K.Key.cmp g.K.Key.total c.args.entries.now c.loop-entry.entry-index c.entry-item.result _ _ c.loop-entry-test.true c.entry-item.is c.loop-entry.invariant c.in_ok-put.ensures

pub returns : goal.returns
returns g c = of_all (λ (es : List (Entry g.row.K.Denot g.row.V.Denot)). HoldBundles g.K.Key.cmp (map entry_bundle es) c.loop-entry.groups.items) c.args.entries.now c.loop-entry.entry-index c.loop-entry-test.false c.loop-entry.invariant
