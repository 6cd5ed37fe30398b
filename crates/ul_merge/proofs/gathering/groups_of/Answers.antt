use Rattle.std.proofs.Common.{List, is_lt, map, subst, sym, rules}
use Rattle.std.specs.List.Sorted.{IsSortedBy}
use Rattle.std.proofs.lemmas.List.Sorted.{answers_always}
use Rattle.std.proofs.lemmas.Result.{IfOk-weaker}
use Rattle.ul_base.proofs.ForCallers.{made_holds}
use Rattle.ul_merge.specs.Gathered.{AreRuns, HoldBundles, entry_bundle}
use Rattle.ul_merge.specs.declared.gathering.Entry.{Entry}
use Rattle.ul_merge.specs.declared.gathering.Group.{Group}
use Rattle.ul_merge.proofs.Gathers.{gathered, ranked}
use Rattle.ul_merge.proofs.HandedOn.{if_handed}
use Rattle.ul_merge.proofs.gathering.groups_of.Goals as goal

pub runs_of-requires : goal.runs_of-requires
runs_of-requires g c = subst (IsSortedBy (λ a b. is_lt (g.K.Key.cmp a.key b.key))) (sym c.as_slice-2.ensures.value)
    (c.in_ok-sort_by.ensures.sorted (λ a b. is_lt (g.K.Key.cmp a.key b.key)) (ranked g.K.Key.cmp g.K.Key.total) (answers_always _ _ _ (λ f a r q h. search rules)))

pub returns : goal.returns
returns g c =
    let held = made_holds c.held_of.result c.in_ok-groups.groups _ c.in_ok-groups.ensures c.held_of.ensures in
    if_handed c.runs_of.result c.made_from-2.result _ c.made_from-2.ensures
    (IfOk-weaker c.runs_of.result _ _ (λ gs runs. gathered g.K.Key.cmp g.K.Key.total _ _ _ _
    (subst (λ (es : List (Entry g.row.K.Denot g.row.V.Denot)). HoldBundles g.K.Key.cmp (map entry_bundle es) c.in_ok-groups.groups.items) c.as_slice.ensures.value held)
    c.sort_by.ensures.permutation
    (subst (λ (hs : List (Group g.row.K.Denot g.row.V.Denot)). AreRuns g.K.Key.cmp hs gs.items) c.as_slice-2.ensures.value runs)) c.runs_of.ensures)
