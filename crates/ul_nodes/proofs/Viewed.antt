-- What is found among values in rows: how it is seen as a plain tree, and what is known of it.
use Rattle.std.proofs.Common.{◌≡◌, suc, ◌-◌, List, [], ◌∷◌, length, Bool, true, false, Option, Some, None, refl, ap, sym, ◌∙◌, arith}
use Rattle.std.specs.List.{slice_get, All}
use Rattle.std.specs.Option.{option_map}
use Rattle.ul_nodes.specs.Plain.{Plain}
use Rattle.ul_nodes.specs.Rows.{own_or, first_result, last_result, earliest, latest, last_part, standing_part, stands, results_view, parts_view, made_view, IfSome}
use Rattle.ul_nodes.specs.declared.level.Key.{Key}

-- ---- seen as plain trees

pub own_viewed : {A : Type 0} (view : A → Plain) (o : Option A) (z : A) → view (own_or o z) ≡ own_or (option_map view o) (view z)
own_viewed view (Some x) z = refl
own_viewed view None z = refl

pub first_viewed : {A : Type 0} (view : A → Plain) (rs : List (Key × Option A)) (z : A) → view (first_result rs z) ≡ first_result (results_view view rs) (view z)
first_viewed view [] z = refl
first_viewed view (r ∷ rs) z = own_viewed view r.1 (first_result rs z) ∙ ap (own_or (option_map view r.1)) (first_viewed view rs z)

pub last_viewed : {A : Type 0} (view : A → Plain) (rs : List (Key × Option A)) (z : A) → view (last_result rs z) ≡ last_result (results_view view rs) (view z)
last_viewed view [] z = refl
last_viewed view (r ∷ rs) z = last_viewed view rs (own_or r.1 z) ∙ ap (last_result (results_view view rs)) (own_viewed view r.1 z)

pub earliest_viewed : {A : Type 0} (view : A → Plain) (m : Bool) (rs : List (Key × Option A)) (o : Option A) (z : A)
    → view (earliest m rs o z) ≡ earliest m (results_view view rs) (option_map view o) (view z)
earliest_viewed view true rs o z = own_viewed view o (first_result rs z) ∙ ap (own_or (option_map view o)) (first_viewed view rs z)
earliest_viewed view false rs o z = first_viewed view rs (own_or o z) ∙ ap (first_result (results_view view rs)) (own_viewed view o z)

pub latest_viewed : {A : Type 0} (view : A → Plain) (m : Bool) (rs : List (Key × Option A)) (z : A) → view (latest m rs z) ≡ latest m (results_view view rs) (view z)
latest_viewed view true rs z = refl
latest_viewed view false rs z = last_viewed view rs z

pub part_viewed : {A : Type 0} (view : A → Plain) (ps : List (Key × A)) (z : A) → view (last_part ps z) ≡ last_part (parts_view view ps) (view z)
part_viewed view [] z = refl
part_viewed view (p ∷ ps) z = part_viewed view ps p.1

pub standing_viewed : {A : Type 0} (view : A → Plain) (m : Bool) (ps : List (Key × A)) (z : A) → view (standing_part m ps z) ≡ stands m (made_view view ps) (view z)
standing_viewed view true [] z = refl
standing_viewed view true (p ∷ ps) z = standing_viewed view true ps p.1
standing_viewed view false [] z = refl
standing_viewed view false (p ∷ ps) z = standing_viewed view false ps z

-- ---- what is known of all is known of what is found

rest_all : {A : Type 0} (P : A → Type 0) (x : A) (xs : List A) → All P (x ∷ xs) → All P xs
rest_all P x xs h = λ k d m. h (suc k) d (omega arith)

head_all : {A : Type 0} (P : A → Type 0) (x : A) (xs : List A) → All P (x ∷ xs) → P x
head_all P x xs h = h 0 x (omega arith)

pub own_known : {A : Type 0} (P : A → Type 0) (o : Option A) (z : A) → IfSome P o → P z → P (own_or o z)
own_known P (Some x) z h k = h
own_known P None z h k = k

pub first_known : {K A : Type 0} (P : A → Type 0) (rs : List (K × Option A)) (z : A) → All (λ r. IfSome P r.1) rs → P z → P (first_result rs z)
first_known P [] z h k = k
first_known P (r ∷ rs) z h k = own_known P r.1 (first_result rs z) (head_all (λ e. IfSome P e.1) r rs h) (first_known P rs z (rest_all (λ e. IfSome P e.1) r rs h) k)

pub last_known : {K A : Type 0} (P : A → Type 0) (rs : List (K × Option A)) (z : A) → All (λ r. IfSome P r.1) rs → P z → P (last_result rs z)
last_known P [] z h k = k
last_known P (r ∷ rs) z h k = last_known P rs (own_or r.1 z) (rest_all (λ e. IfSome P e.1) r rs h) (own_known P r.1 z (head_all (λ e. IfSome P e.1) r rs h) k)

pub earliest_known : {K A : Type 0} (P : A → Type 0) (m : Bool) (rs : List (K × Option A)) (o : Option A) (z : A) → All (λ r. IfSome P r.1) rs → IfSome P o → P z → P (earliest m rs o z)
earliest_known P true rs o z h i k = own_known P o (first_result rs z) i (first_known P rs z h k)
earliest_known P false rs o z h i k = first_known P rs (own_or o z) h (own_known P o z i k)

pub latest_known : {K A : Type 0} (P : A → Type 0) (m : Bool) (rs : List (K × Option A)) (z : A) → All (λ r. IfSome P r.1) rs → P z → P (latest m rs z)
latest_known P true rs z h k = k
latest_known P false rs z h k = last_known P rs z h k

pub part_known : {K A : Type 0} (P : A → Type 0) (ps : List (K × A)) (z : A) → All (λ p. P p.1) ps → P z → P (last_part ps z)
part_known P [] z h k = k
part_known P (p ∷ ps) z h k = part_known P ps p.1 (rest_all (λ e. P e.1) p ps h) (head_all (λ e. P e.1) p ps h)

pub standing_known : {K A : Type 0} (P : A → Type 0) (m : Bool) (ps : List (K × A)) (z : A) → All (λ p. P p.1) ps → P z → P (standing_part m ps z)
standing_known P true ps z h k = part_known P ps z h k
standing_known P false ps z h k = k

-- the last of a row
pub last_at : {K A : Type 0} (ps : List (K × A)) (p : K × A) (z : A) → slice_get ps (length ps - 1) ≡ Some p → last_part ps z ≡ p.1
last_at [] p z e = cc
last_at (q ∷ []) p z e = let r : q ≡ p = cc in ap (λ i. i.1) r
last_at (q ∷ r ∷ ps) p z e =
    last_at (r ∷ ps) p q.1 (let i : length (r ∷ ps) ≡ suc (length (r ∷ ps) - 1) = omega arith in
    let j : length (q ∷ r ∷ ps) - 1 ≡ suc (length (r ∷ ps) - 1) = omega arith in
    sym (ap (slice_get (q ∷ r ∷ ps)) j) ∙ e)
