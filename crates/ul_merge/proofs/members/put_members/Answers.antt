use Rattle.std.proofs.Common.{◌++◌, map, refl, ap, ◌∙◌}
use Rattle.ul_index.specs.Serves.{Selection, choice_of}
use Rattle.ul_merge.specs.Rows.{chosen_member, leaf_members, member_row}
use Rattle.ul_merge.proofs.Walks.{walk_more}
use Rattle.ul_merge.proofs.members.put_members.Goals as goal

pub loop-pick-preserved : goal.loop-pick-preserved
loop-pick-preserved c =
    let choices = c.args.choices.now in
    let leaf = c.args.leaf in
    walk_more (λ (ds : Selection). leaf_members leaf choices ds) (λ d. chosen_member d.0 leaf (choice_of choices d.0)) (λ d ds. refl) _ _ _ _ _ _
    c.loop-pick-test.true c.pick-item.is (c.in_ok-put_member.ensures ∙ ap (λ o. map member_row c.loop-pick.entries.items ++ chosen_member c.pick-item.result.0 leaf o) c.version-version.ensures) c.loop-pick.invariant
