-- A simplified tree asks for no extra where the tree asks for none.
use Rattle.std.proofs.Common.{◌≡◌, ℕ, zero, suc, List, [], ◌∷◌, Bool, true, false, Option, Some, None, refl, sym, ap, ◌∙◌, subst, Less, Equal, Greater}
use Rattle.std.specs.declared.cmp.Ordering.{Ordering}
use Rattle.ul_comparison.specs.Worlds.{WorldFields}
use Rattle.ul_nodes.specs.Apply.{part_at, close, reduced_branches}
use Rattle.ul_nodes.specs.Levels.{extra_level}
use Rattle.ul_nodes.specs.Plain.{Plain, truth, node, Branches, done, branch, text_cmp, by_order, carries, carried_part, pick}
use Rattle.ul_nodes.specs.Reduced.{IsReduced, Fits, FitsAll}
use Rattle.ul_tree.specs.Regions.{IsRegionTree}
use Rattle.ul_tree.specs.Sample.{asks_extra}
use Rattle.ul_nodes.specs.Rows.{Results, own_or, first_result, last_result, earliest, latest}
use Rattle.ul_tree.specs.Simplify.{filled_results, settled_level, Simplifies, at_truth, anywhere, above, by_pieces, Pieces, no_piece, piece, Piece, outside, inside}
use Rattle.ul_tree.specs.Values.{tree_holds, value_of}
use Rattle.ul_nodes.proofs.ForCallers.{cmp_itself, fits_weaker}
use Rattle.ul_tree.proofs.ForCallers.{no_extra, no_extra_fits, simplify_laws}
use Rattle.ul_lock.specs.Region.{IsRegion}

-- all levels come after the extra's
abbrev IsLate : Plain → Type 0
IsLate t = Fits t extra_level

node_asks : (l : List ℕ) (d : Plain) (bs : Branches) → text_cmp extra_level l ≡ Less → asks_extra (node l d bs) ≡ false
node_asks [] d bs e = refl
node_asks (zero ∷ []) d bs e = let bad : Less ≡ Equal = sym e ∙ cmp_itself extra_level in absurd (cc)
node_asks (suc i ∷ []) d bs e = refl
node_asks (a ∷ b ∷ rest) d bs e = refl

late_asks : (t : Plain) → IsLate t → asks_extra t ≡ false
late_asks (truth b) h = refl
late_asks (node l d bs) h = node_asks l d bs h.0

-- ---- parts of a node

one_fits : (o : Ordering) (a b c : Plain) (l : List ℕ) → Fits a l → Fits b l → Fits c l → Fits (by_order o a b c) l
one_fits Less a b c l x y z = x
one_fits Equal a b c l x y z = y
one_fits Greater a b c l x y z = z

carried_fits : (m : Bool) (c d : Plain) (l : List ℕ) → Fits c l → Fits d l → Fits (carried_part m c d) l
carried_fits true c d l x y = x
carried_fits false c d l x y = y

pick_fits : (bs : Branches) (l v : List ℕ) (d : Plain) → Fits d l → FitsAll bs l d → Fits (pick bs (carries l) v d) l
pick_fits done l v d h k = h
pick_fits (branch key c rest) l v d h k = one_fits (text_cmp v key) d c (pick rest (carries l) v (carried_part (carries l) c d)) l h k.2
    (pick_fits rest l v (carried_part (carries l) c d) (carried_fits (carries l) c d l k.2 h) k.4)

part_late : (l v : List ℕ) (d : Plain) (bs : Branches) → IsLate (node l d bs) → IsLate (part_at l v (node l d bs))
part_late l v d bs h = fits_weaker (part_at l v (node l d bs)) l extra_level h.0
    (subst (λ (o : Ordering). Fits (pick (by_order o done bs done) (carries l) v (by_order o (node l d bs) d (node l d bs))) l) (sym (cmp_itself l)) (pick_fits bs l v d h.2 h.3))

-- ---- results of pieces

abbrev IsQuiet : Option Plain → Type 0
IsQuiet None = Unit {0}
IsQuiet (Some t) = asks_extra t ≡ false

abbrev AreQuiet : Results → Type 0
AreQuiet [] = Unit {0}
AreQuiet (r ∷ rs) = IsQuiet r.1 × AreQuiet rs

own_asks : (o : Option Plain) (z : Plain) → IsQuiet o → asks_extra z ≡ false → asks_extra (own_or o z) ≡ false
own_asks None z h e = e
own_asks (Some t) z h e = h

first_asks : (rs : Results) (z : Plain) → AreQuiet rs → asks_extra z ≡ false → asks_extra (first_result rs z) ≡ false
first_asks [] z h e = e
first_asks (r ∷ rs) z h e = own_asks r.1 (first_result rs z) h.0 (first_asks rs z h.1 e)

last_asks : (rs : Results) (z : Plain) → AreQuiet rs → asks_extra z ≡ false → asks_extra (last_result rs z) ≡ false
last_asks [] z h e = e
last_asks (r ∷ rs) z h e = last_asks rs (own_or r.1 z) h.1 (own_asks r.1 z h.0 e)

earliest_asks : (m : Bool) (rs : Results) (o : Option Plain) (z : Plain) → AreQuiet rs → IsQuiet o → asks_extra z ≡ false → asks_extra (earliest m rs o z) ≡ false
earliest_asks true rs o z h k e = own_asks o (first_result rs z) k (first_asks rs z h e)
earliest_asks false rs o z h k e = first_asks rs (own_or o z) h (own_asks o z k e)

latest_asks : (m : Bool) (rs : Results) (z : Plain) → AreQuiet rs → asks_extra z ≡ false → asks_extra (latest m rs z) ≡ false
latest_asks true rs z h e = e
latest_asks false rs z h e = last_asks rs z h e

close_asks : (l : List ℕ) (e : Plain) (bs : Branches) → text_cmp extra_level l ≡ Less → asks_extra e ≡ false → asks_extra (close l e bs) ≡ false
close_asks l e done h k = k
close_asks l e (branch key c rest) h k = node_asks l e (branch key c rest) h

settled_asks : (l : List ℕ) (rs : Results) (o : Option Plain) (d : Plain) → text_cmp extra_level l ≡ Less → AreQuiet rs → IsQuiet o → asks_extra d ≡ false → asks_extra (settled_level l rs o d) ≡ false
settled_asks l rs o d h k q e =
    let z : Plain = earliest (carries l) rs o d in
    let x : Plain = own_or o (latest (carries l) rs z) in
    close_asks l x (reduced_branches (carries l) (filled_results rs z) x) h
    (own_asks o (latest (carries l) rs z) q (latest_asks (carries l) rs z k (earliest_asks (carries l) rs o d k q e)))

-- ---- the whole

mutual
  simpler_asks : {f c t : Plain} → Simplifies f c t → IsLate f → asks_extra t ≡ false
  simpler_asks at_truth h = refl
  simpler_asks (anywhere {f = f}) h = late_asks f h
  simpler_asks (above e s) h = simpler_asks s h
  simpler_asks (by_pieces {l = l} {d = d} {bs = bs} {rs = rs} {o = o} n ps q) h =
      let late : IsLate d = fits_weaker d l extra_level h.0 h.2 in
      settled_asks l rs o d h.0 (pieces_ask ps (λ v. part_late l v d bs h)) (piece_asks q late) (late_asks d late)

  pieces_ask : {l : List ℕ} {f c : Plain} {ks : List (List ℕ)} {rs : Results} → Pieces l f c ks rs → ((v : List ℕ) → IsLate (part_at l v f)) → AreQuiet rs
  pieces_ask no_piece h = tt
  pieces_ask (piece {k = k} p ps) h = (piece_asks p (h k), pieces_ask ps h)

  piece_asks : {f c : Plain} {o : Option Plain} → Piece f c o → IsLate f → IsQuiet o
  piece_asks outside h = tt
  piece_asks (inside n s) h = simpler_asks s h

true_not_false : (b : Bool) → b ≡ true → b ≡ false → ⊥
true_not_false true e f = cc
true_not_false false e f = cc

-- what a region's tree becomes under another is a region, if both hold at some world
pub simplified_region : (f s m : Plain) → IsRegionTree f → IsReduced s → Simplifies f s m
    → (w : WorldFields) → tree_holds f w [] ≡ true → tree_holds s w [] ≡ true → IsRegion m
simplified_region f s m h r k w e within =
    let holds : tree_holds m w [] ≡ true = simplify_laws.agrees f s m h.reduced r k (value_of w []) within ∙ e in
    record {
      reduced = simplify_laws.reduced f s m h.reduced r k;
      not_false = λ x. true_not_false (tree_holds m w []) holds (ap (λ (t : Plain). tree_holds t w []) x);
      no_extra = simpler_asks k (no_extra_fits f h.reduced (no_extra.region f h));
    }
