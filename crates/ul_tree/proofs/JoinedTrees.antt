-- The laws of trees made of trees.
use Rattle.std.proofs.Common.{◌≡◌, ◌≢◌, ℕ, suc, zero, ◌+◌, List, [], ◌∷◌, refl, ap, sym, ◌∙◌, arith, Less, Greater}
use Rattle.std.specs.Ordering.{ordering_then}
use Rattle.ul_nodes.specs.Plain.{Plain, truth, node, text_cmp}
use Rattle.ul_nodes.specs.Reduced.{IsReduced, Fits}
use Rattle.ul_nodes.specs.Apply.{size, branches_at, rest_at}
use Rattle.ul_comparison.specs.Worlds.{WorldFields}
use Rattle.ul_nodes.specs.Levels.{extra_level}
use Rattle.ul_tree.specs.Values.{value_of}
use Rattle.ul_tree.specs.Laws.{Operations, at_extra_of}
use Rattle.ul_nodes.proofs.ForCallers.{cmp_less, fits_weaker}
use Rattle.ul_tree.proofs.Picks.{holds_alike, fits_pick}
use Rattle.ul_tree.proofs.Applied.{Seen, seen_truth, seen_node, applied}

first_level : (k : List ℕ) → text_cmp [] k ≡ Less → text_cmp extra_level k ≢ Greater
first_level [] e = λ q. cc
first_level (zero ∷ []) e = λ q. cc
first_level (zero ∷ j ∷ k) e = λ q. cc
first_level (suc n ∷ k) e = λ q.
    let p : text_cmp extra_level (suc n ∷ k) ≡ Less = ap (λ o. ordering_then o (text_cmp [] k)) (cmp_less 0 (suc n) (omega arith)) in
    let r : Less ≡ Greater = sym p ∙ q in
    cc

pub seen_extra : (a : Plain) → IsReduced a → Seen extra_level a
seen_extra (truth b) h = seen_truth extra_level b
seen_extra (node k d bs) h = seen_node extra_level k d bs [] h (first_level k h.0)

pub part_fits : (a : Plain) (x : List ℕ) → IsReduced a → Fits (at_extra_of a x) extra_level
part_fits a x h = let s = seen_extra a h in fits_pick (branches_at extra_level a) extra_level x (rest_at extra_level a) s.rest s.branches

pub below_extra : (w : WorldFields) (x y : List ℕ) (k : List ℕ) → text_cmp extra_level k ≡ Less → value_of w y k ≡ value_of w x k
below_extra w x y [] e = refl
below_extra w x y (zero ∷ []) e = cc
below_extra w x y (suc zero ∷ []) e = refl
below_extra w x y (suc (suc i) ∷ []) e = refl
below_extra w x y (a ∷ b ∷ k) e = refl

pub operations : Operations
operations = record {
  join_reduced = λ op a b x y. (applied op (suc (size a + size b)) a b [] (omega arith) x y).0;
  join_truth = λ op a b x y w e. (applied op (suc (size a + size b)) a b [] (omega arith) x y).1 (value_of w e);
  extra_reduced = λ a x h. fits_weaker (at_extra_of a x) extra_level [] refl (part_fits a x h);
  extra_truth = λ a x h w y. holds_alike (at_extra_of a x) extra_level (value_of w y) (value_of w x) (part_fits a x h) (below_extra w x y) ∙ sym ((seen_extra a h).truths (value_of w x));
}
