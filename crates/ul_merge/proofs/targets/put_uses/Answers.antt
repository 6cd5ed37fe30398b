use Rattle.std.proofs.Common.{List, ℕ, ◌++◌, get_or, map, refl, ap, ◌∙◌}
use Rattle.ul_merge.specs.Chosen.{choice_at}
use Rattle.ul_merge.specs.Rows.{aim_of, aim_uses, chosen_use, use_row}
use Rattle.ul_merge.specs.declared.targets.Use.{Use}
use Rattle.ul_merge.proofs.Walks.{walk_read}
use Rattle.ul_merge.proofs.targets.put_uses.Goals as goal

pub loop-leaf-preserved : goal.loop-leaf-preserved
loop-leaf-preserved c =
    let choices = c.args.choices.now in
    let aim = c.args.aim.now in
    let chosen : Use = record { leaf = get_or c.args.users.now c.loop-leaf.leaf-index 0; requirement = aim.requirement } in
    walk_read (λ (is : List ℕ). aim_uses choices (aim_of aim) is) (λ (i : ℕ). chosen_use aim.target (record { leaf = i; requirement = aim.requirement }) (choice_at choices i aim.target)) (λ i is. refl)
    c.args.users.now c.loop-leaf.leaf-index 0 _ _ _ c.loop-leaf-test.true (c.in_ok-put_use.ensures ∙ ap (λ o. map use_row c.loop-leaf.entries.items ++ chosen_use aim.target chosen o) c.version_at-version.ensures) c.loop-leaf.invariant
