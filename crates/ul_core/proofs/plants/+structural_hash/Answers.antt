use Rattle.std.proofs.Common.{◌≡◌, ℕ, map, take, ap, sym, ◌∙◌, arith}
use Rattle.std.proofs.lemmas.List.{take_all}
use Rattle.std.specs.List.{fold}
use Rattle.ul_core.specs.Hashes.{tree_hash, node_hash, next_hash}
use Rattle.ul_core.specs.declared.trees.Tree.TheViews.{out-Tree, out-roll-Tree}
use Rattle.ul_core.specs.declared.trees.Tree.TheFolds.{fold_out-Tree}
use Rattle.ul_core.proofs.TreeParts.{hash_next}
use Rattle.ul_core.proofs.plants.+structural_hash.Goals as goal

pub loop-part-init : goal.loop-part-init
loop-part-init g t c = let f = g.L.Label.hash_of in
    c.hash-hash.ensures ∙ (sym (ap (λ z. f z.label) (out-roll-Tree _ record { label = c.plant.inside.label; parts = c.plant.inside.parts.items })) ∙ ap (λ z. f (out-Tree _ z).label) c.plant.view_is)

pub loop-part-preserved : goal.loop-part-preserved
loop-part-preserved g t c =
    hash_next g.L.Label.hash_of _ _ _ _ _ _ _ c.hash_step-hash.ensures c.structural_hash.ensures c.loop-part.invariant c.loop-part-test.true c.part-item.is

pub returns : goal.returns
returns g t c =
    let f = g.L.Label.hash_of in
    let all : take c.loop-part.part-index c.deref-part-items.result.now ≡ c.deref-part-items.result.now = take_all _ _ (omega arith) in
    let kept = ap (λ z. z.parts) (out-roll-Tree _ record { label = c.plant.inside.label; parts = c.plant.inside.parts.items }) in
    let row : c.deref-part-items.result.now ≡ (out-Tree _ c.args.plant.now).parts = c.deref-part-items.ensures.value ∙ (sym kept ∙ ap (λ z. (out-Tree _ z).parts) c.plant.view_is) in
    c.loop-part.invariant ∙ (ap (λ xs. fold next_hash (f (out-Tree _ c.args.plant.now).label) (map (tree_hash f) xs)) (all ∙ row) ∙ sym (fold_out-Tree _ ℕ (node_hash f) c.args.plant.now))
