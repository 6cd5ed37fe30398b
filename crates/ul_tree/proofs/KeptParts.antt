-- Pieces without a result that are left out with no copy, where the part before them stands.
use Rattle.std.proofs.Common.{◌≡◌, List, ℕ, [], ◌∷◌, ◌++◌, Bool, true, false, cond, refl, ap, sym, ◌∙◌, subst, Option, Some, None}
use Rattle.ul_nodes.specs.Plain.{Plain, Branches, branch, carries}
use Rattle.ul_nodes.specs.Reduced.{Fits}
use Rattle.ul_nodes.specs.Apply.{same, close, reduced_branches}
use Rattle.ul_nodes.specs.Rows.{Results, own_or, first_result, earliest, latest, parts_view, last_part}
use Rattle.ul_nodes.specs.Keys.{key_view}
use Rattle.ul_nodes.specs.declared.level.Key.{Key}
use Rattle.ul_nodes.proofs.ForCallers.{same_true, same_itself}
use Rattle.ul_tree.specs.Simplify.{filled_results, settled_level}
use Rattle.ul_tree.specs.SimplifyViews.{left_out, kept_results, PartsFit, ResultsFit}
use Rattle.ul_tree.proofs.Settled.{own_fits}
use Rattle.ul_tree.proofs.PiecesInCode.{settled_is}

-- where branches aren't carried all keys are kept
kept_all : (rs : Results) (z : Plain) → kept_results false rs z ≡ filled_results rs z
kept_all [] z = refl
kept_all (r ∷ rs) z = go r.1 (kept_all rs)
  where
    go : (o : Option Plain) → ((t : Plain) → kept_results false rs t ≡ filled_results rs t)
        → cond (left_out false o) (kept_results false rs z) ((r.0, own_or o z) ∷ kept_results false rs (own_or o z)) ≡ (r.0, own_or o z) ∷ filled_results rs (own_or o z)
    go (Some t) h = ap (λ ps. (r.0, t) ∷ ps) (h t)
    go None h = ap (λ ps. (r.0, z) ∷ ps) (h z)

-- where they are, the branches are the same, since the part before stands
kept_carried : (rs : Results) (z : Plain) → reduced_branches true (kept_results true rs z) z ≡ reduced_branches true (filled_results rs z) z
kept_carried [] z = refl
kept_carried (r ∷ rs) z = go r.1 (kept_carried rs)
  where
    one : (t : Plain) (b : Bool) → same t z ≡ b → ((x : Plain) → reduced_branches true (kept_results true rs x) x ≡ reduced_branches true (filled_results rs x) x)
        → cond b (reduced_branches true (kept_results true rs t) z) (branch r.0 t (reduced_branches true (kept_results true rs t) t))
        ≡ cond b (reduced_branches true (filled_results rs t) z) (branch r.0 t (reduced_branches true (filled_results rs t) t))
    one t true e h = subst (λ (x : Plain). reduced_branches true (kept_results true rs t) x ≡ reduced_branches true (filled_results rs t) x) (same_true t z e) (h t)
    one t false e h = ap (branch r.0 t) (h t)

    go : (o : Option Plain) → ((x : Plain) → reduced_branches true (kept_results true rs x) x ≡ reduced_branches true (filled_results rs x) x)
        → reduced_branches true (cond (left_out true o) (kept_results true rs z) ((r.0, own_or o z) ∷ kept_results true rs (own_or o z))) z
        ≡ reduced_branches true ((r.0, own_or o z) ∷ filled_results rs (own_or o z)) z
    go (Some t) h = one t (same t z) refl h
    go None h = h z ∙ sym (ap (λ b. cond b (reduced_branches true (filled_results rs z) z) (branch r.0 z (reduced_branches true (filled_results rs z) z))) (same_itself z))

own_twice : (o : Option Plain) (x : Plain) → own_or o (own_or o x) ≡ own_or o x
own_twice (Some t) x = refl
own_twice None x = refl

kept_branches : (m : Bool) (rs : Results) (o : Option Plain) (d z e : Plain) → z ≡ earliest m rs o d → e ≡ own_or o (latest m rs z)
    → reduced_branches m (kept_results m rs z) e ≡ reduced_branches m (filled_results rs z) e
kept_branches false rs o d z e p q = ap (λ ps. reduced_branches false ps e) (kept_all rs z)
kept_branches true rs o d z e p q =
    let w : z ≡ e = p ∙ sym (own_twice o (first_result rs d)) ∙ ap (own_or o) (sym p) ∙ sym q in
    subst (λ (x : Plain). reduced_branches true (kept_results true rs z) x ≡ reduced_branches true (filled_results rs z) x) w (kept_carried rs z)

-- a level put together from the pieces that are kept is the one of the rule
pub kept_is : (l : List ℕ) (m : Bool) (rs : Results) (o : Option Plain) (d z e : Plain) (ps : List (List ℕ × Plain)) (bs : Branches) → m ≡ carries l → z ≡ earliest m rs o d → e ≡ own_or o (latest m rs z)
    → ps ≡ kept_results m rs z → bs ≡ reduced_branches m ps e → close l e bs ≡ settled_level l rs o d
kept_is l m rs o d z e ps bs carry first other parts made =
    settled_is l m rs o d z e (filled_results rs z) bs carry first other refl (made ∙ ap (λ x. reduced_branches m x e) parts ∙ kept_branches m rs o d z e first other)

-- the same, of what is closed
pub kept_level_is : (l : List ℕ) (m : Bool) (rs : Results) (o : Option Plain) (d z e : Plain) (ps : List (List ℕ × Plain)) → m ≡ carries l → z ≡ earliest m rs o d → e ≡ own_or o (latest m rs z)
    → ps ≡ kept_results m rs z → close l e (reduced_branches (carries l) ps e) ≡ settled_level l rs o d
kept_level_is l m rs o d z e ps carry first other parts =
    ap (λ k. close l e (reduced_branches k ps e)) (sym carry) ∙ kept_is l m rs o d z e ps (reduced_branches m ps e) carry first other parts refl

kept_fit : (m : Bool) (rs : Results) (z : Plain) (l : List ℕ) → ResultsFit rs l → Fits z l → PartsFit (kept_results m rs z) l
kept_fit m [] z l h x = tt
kept_fit m (r ∷ rs) z l h x = go (left_out m r.1) (own_fits r.1 z l h.0 x) (kept_fit m rs)
  where
    go : (b : Bool) → Fits (own_or r.1 z) l → ((t : Plain) (i : List ℕ) → ResultsFit rs i → Fits t i → PartsFit (kept_results m rs t) i)
        → PartsFit (cond b (kept_results m rs z) ((r.0, own_or r.1 z) ∷ kept_results m rs (own_or r.1 z))) l
    go true y f = f z l h.1 x
    go false y f = (y, f (own_or r.1 z) l h.1 y)

-- the parts that are kept are reduced
pub kept_reduced : {A : Type 0} (view : A → Plain) (m : Bool) (ps : List (Key × A)) (rs : Results) (z : Plain) (l : List ℕ) → parts_view view ps ≡ kept_results m rs z → ResultsFit rs l → Fits z l → PartsFit (parts_view view ps) l
kept_reduced view m ps rs z l e h x = subst (λ (y : List (List ℕ × Plain)). PartsFit y l) (sym e) (kept_fit m rs z l h x)

-- one key less that is left
pub kept_less : (m : Bool) (k : List ℕ) (o : Option Plain) (rs : Results) (z : Plain) → left_out m o ≡ true → kept_results m ((k, o) ∷ rs) z ≡ kept_results m rs z
kept_less m k o rs z e = ap (λ b. cond b (kept_results m rs z) ((k, own_or o z) ∷ kept_results m rs (own_or o z))) e

kept_more : (m : Bool) (k : List ℕ) (o : Option Plain) (rs : Results) (z : Plain) → left_out m o ≡ false → kept_results m ((k, o) ∷ rs) z ≡ (k, own_or o z) ∷ kept_results m rs (own_or o z)
kept_more m k o rs z e = ap (λ b. cond b (kept_results m rs z) ((k, own_or o z) ∷ kept_results m rs (own_or o z))) e

-- one part more, with its piece's own result or the part before
pub kept_step : {A : Type 0} (view : A → Plain) (m : Bool) (ps : List (Key × A)) (p : Key × A) (o : Option Plain) (rs : Results) (z : Plain) → left_out m o ≡ false → view p.1 ≡ own_or o (last_part (parts_view view ps) z)
    → parts_view view (ps ++ p ∷ []) ++ kept_results m rs (last_part (parts_view view (ps ++ p ∷ [])) z) ≡ parts_view view ps ++ kept_results m ((key_view p.0, o) ∷ rs) (last_part (parts_view view ps) z)
kept_step view m [] p o rs z k e = ap (λ t. (key_view p.0, t) ∷ kept_results m rs t) e ∙ sym (kept_more m (key_view p.0) o rs z k)
kept_step view m (q ∷ ps) p o rs z k e = ap (λ xs. (key_view q.0, view q.1) ∷ xs) (kept_step view m ps p o rs (view q.1) k e)
