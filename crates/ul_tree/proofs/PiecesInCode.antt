-- Lists of pieces and of parts, as the code has them.
use Rattle.std.proofs.Common.{◌≡◌, ℕ, zero, suc, ◌+◌, ◌<◌, ◌≤◌, List, [], ◌∷◌, ◌++◌, length, drop, get_or, Option, Bool, true, refl, ap, sym, ◌∙◌, arith, add-one, append-nil, subst}
use Rattle.std.specs.List.{All}
use Rattle.std.specs.Option.{option_map}
use Rattle.std.proofs.lemmas.List.{drop_all}
use Rattle.std.proofs.Math.Seq.{drop-cons}
use Rattle.std.proofs.lemmas.List.Elements.{All-push}
use Rattle.ul_nodes.specs.Plain.{Plain, Branches, carries}
use Rattle.ul_nodes.specs.Reduced.{Fits, IsReduced}
use Rattle.ul_nodes.specs.Apply.{part_at, close, reduced_branches}
use Rattle.ul_nodes.specs.Keys.{key_view, keys_view, has_kind, KeysOf}
use Rattle.ul_nodes.specs.Rows.{Results, own_or, earliest, latest, results_view, parts_view, last_part}
use Rattle.ul_tree.specs.Simplify.{Pieces, Piece, filled_results, settled_from, settled_level}
use Rattle.ul_tree.specs.SimplifyViews.{PartsFit, ResultFits, ResultsFit}
use Rattle.ul_nodes.proofs.ForCallers.{next_kind}
use Rattle.ul_tree.proofs.Settled.{filled_fit, own_fits, earliest_fits, latest_fits}
use Rattle.ul_tree.proofs.SimplifySteps.{piece_more, no_more}
use Rattle.ul_nodes.specs.declared.level.Key.{Key}

-- one part more, with its piece's own result or the part before
pub filled_step : {A : Type 0} (view : A → Plain) (ps : List (Key × A)) (p : Key × A) (o : Option Plain) (rs : Results) (z : Plain) → view p.1 ≡ own_or o (last_part (parts_view view ps) z)
    → parts_view view (ps ++ p ∷ []) ++ filled_results rs (last_part (parts_view view (ps ++ p ∷ [])) z) ≡ parts_view view ps ++ filled_results ((key_view p.0, o) ∷ rs) (last_part (parts_view view ps) z)
filled_step view [] p o rs z e = ap (λ t. (key_view p.0, t) ∷ filled_results rs t) e
filled_step view (q ∷ ps) p o rs z e = ap (λ xs. (key_view q.0, view q.1) ∷ xs) (filled_step view ps p o rs (view q.1) e)

-- pieces in a row, with one more
pub results_more : {A : Type 0} (view : A → Plain) (xs : List (Key × Option A)) (x : Key × Option A) (rs : Results) → results_view view (xs ++ x ∷ []) ++ rs ≡ results_view view xs ++ ((key_view x.0, option_map view x.1) ∷ rs)
results_more view [] x rs = refl
results_more view (y ∷ xs) x rs = ap (λ zs. (key_view y.0, option_map view y.1) ∷ zs) (results_more view xs x rs)

-- the keys that are left begin with the next
key_next : (items : List Key) (i : ℕ) (d : Key) → i < length items → keys_view (drop i items) ≡ key_view (get_or items i d) ∷ keys_view (drop (i + 1) items)
key_next items i d h = ap keys_view (drop-cons items i d h) ∙ ap (λ n. key_view (get_or items i d) ∷ keys_view (drop n items)) (sym (add-one i))

-- one result more
pub results_step : {A : Type 0} (view : A → Plain) (l : List ℕ) (f r : Plain) (items : List Key) (i : ℕ) (d : Key) (o : Option A) (made next : List (Key × Option A)) (f_part r_part : Plain) → i < length items
    → next ≡ made ++ (get_or items i d, o) ∷ [] → f_part ≡ part_at l (key_view (get_or items i d)) f → r_part ≡ part_at l (key_view (get_or items i d)) r → Piece f_part r_part (option_map view o)
    → ((rs : Results) → Pieces l f r (keys_view (drop i items)) rs → Pieces l f r (keys_view items) (results_view view made ++ rs))
    → (rs : Results) → Pieces l f r (keys_view (drop (i + 1) items)) rs → Pieces l f r (keys_view items) (results_view view next ++ rs)
results_step view l f r items i d o made next f_part r_part h e x y p before rs ps =
    let k = get_or items i d in
    let left = keys_view (drop (i + 1) items) in
    subst (λ (z : Results). Pieces l f r (keys_view items) z) (sym (ap (λ z. results_view view z ++ rs) e ∙ results_more view made (k, o) rs))
    (before ((key_view k, option_map view o) ∷ rs)
    (subst (λ (z : List (List ℕ)). Pieces l f r z ((key_view k, option_map view o) ∷ rs)) (sym (key_next items i d h)) (piece_more l f r (key_view k) left (option_map view o) rs f_part r_part x y p ps)))

pub results_end : {A : Type 0} (view : A → Plain) (l : List ℕ) (f r : Plain) (items : List Key) (i : ℕ) (made : List (Key × Option A)) → length items ≤ i
    → ((rs : Results) → Pieces l f r (keys_view (drop i items)) rs → Pieces l f r (keys_view items) (results_view view made ++ rs)) → Pieces l f r (keys_view items) (results_view view made)
results_end view l f r items i made h before =
    subst (λ (z : Results). Pieces l f r (keys_view items) z) (append-nil (results_view view made)) (before [] (no_more l f r (keys_view (drop i items)) (ap keys_view (drop_all i items h))))

-- one part more has a key of its level
pub kinds_step : {A B : Type 0} (l : List ℕ) (x : Key × A) (y : B) (made next : List (Key × B)) (left rest : List (Key × A)) → left ≡ x ∷ rest → next ≡ made ++ (x.0, y) ∷ []
    → KeysOf l made × KeysOf l left → KeysOf l next × KeysOf l rest
kinds_step l x y made next left rest e q h =
    let n = next_kind l x left rest e h.1 in
    (subst (λ (z : List (Key × _)). KeysOf l z) (sym q) (All-push (λ i. has_kind l i.0 ≡ true) made (x.0, y) h.0 n.0), n.1)

pub parts_fit : {A : Type 0} (view : A → Plain) (ps : List (Key × A)) → PartsFit (parts_view view ps) [] → All (λ p. IsReduced (view p.1)) ps
parts_fit view [] h k d m = absurd (omega (arith, m))
parts_fit view (p ∷ ps) h zero d m = h.0
parts_fit view (p ∷ ps) h (suc k) d m = parts_fit view ps h.1 k d (omega arith)

pub parts_reduced : {A : Type 0} (view : A → Plain) (ps : List (Key × A)) (rs : Results) (z : Plain) (l : List ℕ) → parts_view view ps ≡ filled_results rs z → ResultsFit rs l → Fits z l → PartsFit (parts_view view ps) l
parts_reduced view ps rs z l e h x = subst (λ (y : List (List ℕ × Plain)). PartsFit y l) (sym e) (filled_fit rs l z h x)

pub first_reduced : {A : Type 0} (view : A → Plain) (m : Bool) (xs ys : List (Key × Option A)) (o : Option Plain) (d t : Plain) → t ≡ earliest m (results_view view xs) o d → xs ≡ ys → ResultsFit (results_view view ys) [] → ResultFits o [] → IsReduced d → IsReduced t
first_reduced view m xs ys o d t e q h i x =
    subst (λ (z : Plain). IsReduced z) (sym (e ∙ ap (λ zs. earliest m (results_view view zs) o d) q)) (earliest_fits m (results_view view ys) o [] d h i x)

pub other_reduced : {A : Type 0} (view : A → Plain) (m : Bool) (xs ys : List (Key × Option A)) (o : Option Plain) (z u t : Plain) → t ≡ own_or o u → u ≡ latest m (results_view view xs) z → xs ≡ ys → ResultsFit (results_view view ys) [] → ResultFits o [] → IsReduced z → IsReduced t
other_reduced view m xs ys o z u t e w q h i x =
    subst (λ (y : Plain). IsReduced y) (sym (e ∙ ap (own_or o) (w ∙ ap (λ zs. latest m (results_view view zs) z) q))) (own_fits o (latest m (results_view view ys) z) [] i (latest_fits m (results_view view ys) [] z h x))

pub kind_step : {A : Type 0} (l : List ℕ) (items : List Key) (i : ℕ) (d : Key) (o : Option A) (made next : List (Key × Option A)) → i < length items → next ≡ made ++ (get_or items i d, o) ∷ [] → All (λ k. has_kind l k ≡ true) items
    → KeysOf l made → KeysOf l next
kind_step l items i d o made next h e ks ms = subst (λ (z : List (Key × Option _)). KeysOf l z) (sym e) (All-push (λ x. has_kind l x.0 ≡ true) made (get_or items i d, o) ms (ks i d h))

-- a level put together is the one of the rule
pub settled_is : (l : List ℕ) (m : Bool) (rs : Results) (o : Option Plain) (d z e : Plain) (ps : List (List ℕ × Plain)) (bs : Branches) → m ≡ carries l → z ≡ earliest m rs o d → e ≡ own_or o (latest m rs z)
    → ps ≡ filled_results rs z → bs ≡ reduced_branches m ps e → close l e bs ≡ settled_level l rs o d
settled_is l m rs o d z e ps bs carry first other parts made =
    ap (close l e) (made ∙ ap (λ x. reduced_branches m x e) parts)
    ∙ ap (λ k. close l e (reduced_branches k (filled_results rs z) e)) carry
    ∙ ap (λ x. close l x (reduced_branches (carries l) (filled_results rs z) x)) (other ∙ ap (λ k. own_or o (latest k rs z)) carry)
    ∙ ap (settled_from l rs o) (first ∙ ap (λ k. earliest k rs o d) carry)
