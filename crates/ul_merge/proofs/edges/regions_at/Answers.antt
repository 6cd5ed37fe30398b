use Rattle.std.proofs.Common.{List, [], ap, map, refl, ◌++◌, ◌∷◌}
use Rattle.ul_merge.specs.Edges.{picked}
use Rattle.ul_merge.specs.declared.targets.Use.{Use}
use Rattle.ul_merge.proofs.EdgeFacts.{picked_first}
use Rattle.ul_merge.proofs.Walks.{walk_end, walk_read}
use Rattle.ul_merge.proofs.edges.regions_at.Goals as goal

pub loop-one-init : goal.loop-one-init
loop-one-init c = ap (λ xs. xs ++ picked c.args.regions.now (map (λ (u : Use). u.leaf) c.args.uses.now)) c.in_ok-marks.ensures.items

pub loop-one-preserved : goal.loop-one-preserved
loop-one-preserved c =
    let all = c.args.regions.now in
    walk_read (λ (us : List Use). picked all (map (λ u. u.leaf) us)) (λ (u : Use). picked all (u.leaf ∷ [])) (λ u us. picked_first all u.leaf (map (λ (v : Use). v.leaf) us)) c.args.uses.now c.loop-one.one-index _ _ _ _
    c.loop-one-test.true c.in_ok-put_mark.ensures c.loop-one.invariant

pub returns : goal.returns
returns c = walk_end (λ (us : List Use). picked c.args.regions.now (map (λ u. u.leaf) us)) refl c.args.uses.now c.loop-one.one-index _ _ c.loop-one-test.false c.loop-one.invariant
