use Rattle.std.proofs.Common.{List, map, refl}
use Rattle.ul_merge.specs.Rows.{aim_of, aim_uses, all_uses}
use Rattle.ul_merge.specs.declared.targets.Aim.{Aim}
use Rattle.ul_merge.proofs.Walks.{walk_end, walk_more}
use Rattle.ul_merge.proofs.targets.use_entries.Goals as goal

pub loop-aim-preserved : goal.loop-aim-preserved
loop-aim-preserved c =
    let choices = c.args.choices.now in
    let users = c.args.users.now in
    walk_more (λ (aims : List Aim). all_uses choices users (map aim_of aims)) (λ (a : Aim). aim_uses choices (aim_of a) users) (λ a aims. refl) _ _ _ _ _ _ c.loop-aim-test.true c.aim-item.is c.in_ok-put_uses.ensures c.loop-aim.invariant

pub returns : goal.returns
returns c = walk_end (λ (aims : List Aim). all_uses c.args.choices.now c.args.users.now (map aim_of aims)) refl c.args.aims.now c.loop-aim.aim-index _ _ c.loop-aim-test.false c.loop-aim.invariant
