-- The branches of a level that is being made.
use Rattle.std.proofs.Common.{arith, ◌≡◌, ℕ, suc, List, [], ◌∷◌, ◌++◌, length, Bool, true, false, cond, refl, ap, sym, ◌∙◌, subst}
use Rattle.std.specs.List.{All}
use Rattle.std.proofs.lemmas.List.Elements.{All-push}
use Rattle.ul_nodes.specs.Plain.{Plain, Branches, done, branch, carried_part}
use Rattle.ul_nodes.specs.Reduced.{IsReduced}
use Rattle.ul_nodes.specs.Apply.{same, reduced_branches}
use Rattle.ul_nodes.specs.Keys.{key_view, has_kind, then_branches, KeysOf}
use Rattle.ul_nodes.specs.Rows.{made_view, parts_view, stands, more_branches}
use Rattle.ul_nodes.specs.declared.level.Key.{Key}

-- ---- branches before those that are left

pub then_none : (ps : Branches) → then_branches ps done ≡ ps
then_none done = refl
then_none (branch k p ps) = ap (branch k p) (then_none ps)

pub then_then : (ps : Branches) (k : List ℕ) (x : Plain) (qs : Branches) → then_branches (then_branches ps (branch k x done)) qs ≡ then_branches ps (branch k x qs)
then_then done k x qs = refl
then_then (branch j p ps) k x qs = ap (branch j p) (then_then ps k x qs)

pub made_push : {A : Type 0} (view : A → Plain) (xs : List (Key × A)) (e : Key × A) (rest : Branches) → then_branches (made_view view (xs ++ e ∷ [])) rest ≡ then_branches (made_view view xs) (branch (key_view e.0) (view e.1) rest)
made_push view [] e rest = refl
made_push view (d ∷ xs) e rest = ap (branch (key_view d.0) (view d.1)) (made_push view xs e rest)

pub added_more : {A : Type 0} (view : A → Plain) (b : Bool) (xs : List (Key × A)) (k : Key) (t : A) → b ≡ false → made_view view (xs ++ (k, t) ∷ []) ≡ more_branches b (made_view view xs) (key_view k) (view t)
added_more view b xs k t e =
    sym (then_none (made_view view (xs ++ (k, t) ∷ []))) ∙ made_push view xs (k, t) done ∙ ap (λ b. more_branches b (made_view view xs) (key_view k) (view t)) (sym e)

-- ---- what stands

pub stands_then : (m : Bool) (bs : Branches) (k : List ℕ) (x d : Plain) → stands m (then_branches bs (branch k x done)) d ≡ carried_part m x (stands m bs d)
stands_then true done k x d = refl
stands_then false done k x d = refl
stands_then m (branch j c rest) k x d = stands_then m rest k x (carried_part m c d)

-- what stands after a part was added
pub stands_added : (b m : Bool) (bs : Branches) (k : List ℕ) (x d : Plain) → IsReduced x → IsReduced (stands m bs d) → IsReduced (stands m (more_branches b bs k x) d)
stands_added true m bs k x d h g = g
stands_added false true bs k x d h g = subst (λ (z : Plain). IsReduced z) (sym (stands_then true bs k x d)) h
stands_added false false bs k x d h g = subst (λ (z : Plain). IsReduced z) (sym (stands_then false bs k x d)) g

pub stands_kept : (b m : Bool) (bs cs : Branches) (k : List ℕ) (x d : Plain) → cs ≡ more_branches b bs k x → IsReduced x → IsReduced (stands m bs d) → IsReduced (stands m cs d)
stands_kept b m bs cs k x d e h g = subst (λ (z : Branches). IsReduced (stands m z d)) (sym e) (stands_added b m bs k x d h g)

-- ---- parts in a row

-- a fact of the first of a list, and of those after it
pub head_tail : {A : Type 0} (P : A → Type 0) (x : A) (left rest : List A) → left ≡ x ∷ rest → All P left → P x × All P rest
head_tail {A} P x left rest e h =
    let g = subst (λ (z : List A). All P z) e h in
    (g 0 x (omega arith), λ k d m. g (suc k) d (omega arith))

-- with one more
pub all_push : {A : Type 0} (P : A → Type 0) (xs ys : List A) (x : A) → ys ≡ xs ++ x ∷ [] → All P xs → P x → All P ys
all_push {A} P xs ys x e h p = subst (λ (z : List A). All P z) (sym e) (All-push P xs x h p)

-- the key of the next, and of those after it
pub next_kind : {A : Type 0} (l : List ℕ) (x : Key × A) (left rest : List (Key × A)) → left ≡ x ∷ rest → KeysOf l left → (has_kind l x.0 ≡ true) × KeysOf l rest
next_kind l x left rest e h = head_tail (λ i. has_kind l i.0 ≡ true) x left rest e h

branch_added : (m : Bool) (made : Branches) (k : List ℕ) (x d : Plain) (ps : List (List ℕ × Plain)) (b : Bool)
    → then_branches (more_branches b made k x) (reduced_branches m ps (stands m (more_branches b made k x) d))
    ≡ then_branches made (cond b (reduced_branches m ps (stands m made d)) (branch k x (reduced_branches m ps (carried_part m x (stands m made d)))))
branch_added m made k x d ps true = refl
branch_added m made k x d ps false =
    then_then made k x (reduced_branches m ps (stands m (then_branches made (branch k x done)) d)) ∙ ap (λ z. then_branches made (branch k x (reduced_branches m ps z))) (stands_then m made k x d)

-- one branch more
pub branch_step : {A : Type 0} (view : A → Plain) (m : Bool) (made next whole : Branches) (p : Key × A) (left rest : List (Key × A)) (d : Plain) → left ≡ p ∷ rest → next ≡ more_branches (same (view p.1) (stands m made d)) made (key_view p.0) (view p.1)
    → then_branches made (reduced_branches m (parts_view view left) (stands m made d)) ≡ whole → then_branches next (reduced_branches m (parts_view view rest) (stands m next d)) ≡ whole
branch_step view m made next whole p left rest d e q h =
    ap (λ z. then_branches z (reduced_branches m (parts_view view rest) (stands m z d))) q
    ∙ branch_added m made (key_view p.0) (view p.1) d (parts_view view rest) (same (view p.1) (stands m made d))
    ∙ sym (ap (λ z. then_branches made (reduced_branches m (parts_view view z) (stands m made d))) e) ∙ h

pub branches_end : {A : Type 0} (view : A → Plain) (m : Bool) (made whole : Branches) (left : List (Key × A)) (d : Plain) → length left ≡ 0 → then_branches made (reduced_branches m (parts_view view left) (stands m made d)) ≡ whole → made ≡ whole
branches_end view m made whole [] d e h = sym (then_none made) ∙ h
branches_end view m made whole (p ∷ ps) d e h = absurd (omega arith)
