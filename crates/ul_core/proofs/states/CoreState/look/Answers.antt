use Rattle.std.proofs.Common.{◌≡◌, ℕ, arith, refl, sym, ap, ◌∙◌, subst, map, take}
use Rattle.std.proofs.lemmas.List.{take_all}
use Rattle.std.proofs.lemmas.Option.{slice_get_read}
use Rattle.std.specs.List.{fold}
use Rattle.std.specs.Bool.{OnTrue, OnFalse}
use Rattle.ul_core.specs.Core.{Stands}
use Rattle.ul_core.specs.Hashes.{next_hash, node_hash, tree_hash}
use Rattle.ul_core.specs.Trees.{Has}
use Rattle.ul_core.specs.declared.trees.Tree.TheFolds.{fold_out-Tree}
use Rattle.ul_core.specs.declared.trees.Tree.TheViews.{out-Tree}
use Rattle.ul_core.proofs.Looking.{all_of, both_all, both_some}
use Rattle.ul_core.proofs.TreeParts.{hash_next, label_of, parts_of}
use Rattle.ul_core.proofs.states.CoreState.look.Goals as goal

pub loop-part-init : goal.loop-part-init
loop-part-init g c = record {
  hash = c.hash-hash.ensures ∙ ap g.L.Label.hash_of (label_of _ _ _ c.plant.view_is);
  all = λ i t low at. absurd (omega (arith, low));
  some = tt;
}

pub loop-part-preserved : goal.loop-part-preserved
loop-part-preserved g c =
    let f = g.L.Label.hash_of in
    let at = slice_get_read _ _ _ _ refl c.loop-part-test.true c.part-item.is in
    record {
      hash = hash_next f _ _ _ _ _ _ _ c.hash_step-hash.ensures c.structural_hash-part_hash.ensures c.loop-part.invariant.hash c.loop-part-test.true c.part-item.is;
      all = both_all (Stands f c.args.self.now) c.deref-part-items.result.now c.loop-part.all_stand c.stands-all_stand.result c.loop-part.part-index _ at c.stands-all_stand.ensures.0 c.loop-part.invariant.all;
      some = both_some (Stands f c.args.self.now) c.deref-part-items.result.now c.loop-part.all_stand c.stands-all_stand.result c.loop-part.part-index _ at c.stands-all_stand.ensures.1 c.loop-part.invariant.some;
    }

pub offset_bounds-part-items-part-index : goal.offset_bounds-part-items-part-index
offset_bounds-part-items-part-index g c = omega (arith, c.loop-part-test.true)

pub stands-all_stand-requires-after_bounds : goal.stands-all_stand-requires-after_bounds
stands-all_stand-requires-after_bounds g c κs within = c.structural_hash-part_hash.ensures

pub returns : goal.returns
returns g c =
    let f = g.L.Label.hash_of in
    let parts = c.deref-part-items.ensures.value ∙ parts_of _ _ _ c.plant.view_is in
    let all : take c.loop-part.part-index c.deref-part-items.result.now ≡ c.deref-part-items.result.now = take_all _ _ (omega arith) in
    record {
      hash = c.loop-part.invariant.hash ∙ (ap (λ ts. fold next_hash (f (out-Tree _ c.args.plant.now).label) (map (tree_hash f) ts)) (all ∙ parts) ∙ sym (fold_out-Tree _ ℕ (node_hash f) c.args.plant.now));
      all = subst (λ ts. OnTrue c.loop-part.all_stand ((t : _) → Has ts t → Stands f c.args.self.now t)) parts (all_of (Stands f c.args.self.now) c.deref-part-items.result.now c.loop-part.all_stand c.loop-part.part-index (omega arith) c.loop-part.invariant.all);
      some = subst (λ ts. OnFalse c.loop-part.all_stand ((t : _) × Has ts t × ¬ Stands f c.args.self.now t)) parts c.loop-part.invariant.some;
    }
