-- Tests of a list, element by element.
use Rattle.std.proofs.Common.{◌≡◌, ℕ, zero, suc, ◌+◌, ◌-◌, ◌<◌, ◌≤◌, List, [], ◌∷◌, ◌++◌, drop, take, length, length-drop, get_or, subst, sym, ap, ◌∙◌, arith}
use Rattle.std.proofs.lemmas.List.{drop_more, take_more, take_all, get_or_default}
use Rattle.std.proofs.Common.{Bool, true, false, not, inl, inr, refl}
use Rattle.std.specs.declared.cmp.Ordering.{Ordering}
use Rattle.std.specs.declared.cmp.Ordering.TheVariants.{Less, Equal, Greater}
use Rattle.std.specs.Ordering.{ordering_index}
use Rattle.std.specs.Prelude.{◌==◌}
use Rattle.std.proofs.lemmas.List.{get_or-replicate, get_or_past, length-replicate}
use Rattle.std.proofs.lemmas.Bool.{cases_lt}
use Rattle.std.specs.Prelude.{IsTrue, ◌↔◌, IfOk, Result, Ok, Err, All, Contains, replicate}
use Rattle.ul_ranges.specs.Flags.{has, set_of}
use Rattle.ul_ranges.proofs.ForCallers.{set_members, same_sets, length-set_of}
use Rattle.ul_version.specs.Fields.{Fields}
use Rattle.ul_problem.specs.Problems.{AllAre, AreNeeds, AreNeedsAfter, HasBase, IsNeedAfter, IsNodeOf, IsOrderOf, Increases, VersionBefore}
use Rattle.ul_problem.specs.declared.problem.Need.{Need}
use Rattle.ul_problem.specs.declared.problem.NodeFacts.{NodeFacts}

-- each of the two gives the other
pub record IsAlike (P Q : Type 0) : Type 0 where
  pub to : P → Q
  pub from : Q → P

rest_is : {A : Type 0} (xs : List A) (i : ℕ) (x : A) → i < length xs → x ≡ get_or xs i x → drop i xs ≡ x ∷ drop (i + 1) xs
rest_is xs i x h e = drop_more xs i x h ∙ ap (λ y. y ∷ drop (i + 1) xs) (sym e)

got_rest : {A : Type 0} (xs : List A) (i : ℕ) (d : A) → i < length xs → drop i xs ≡ get_or xs i d ∷ drop (i + 1) xs
got_rest xs i d h = drop_more xs i d h

-- two neighbours in a list that increases
pair_is : {A : Type 0} (xs : List A) (k : ℕ) (d e : A) → 0 < k → k < length xs → drop (k - 1) xs ≡ get_or xs (k - 1) d ∷ get_or xs k e ∷ drop (k + 1) xs
pair_is {A} xs k d e i h =
    let g : k - 1 + 1 ≡ k = omega arith in
    got_rest xs (k - 1) d (omega arith) ∙ ap (λ (l : List A). get_or xs (k - 1) d ∷ l) (ap (λ (n : ℕ). drop n xs) g ∙ got_rest xs k e h)

pub rises_more : {A : Type 0} (R : A → A → Type 0) (xs : List A) (k : ℕ) (d e : A) (Q : Type 0) → 0 < k → k < length xs → R (get_or xs (k - 1) d) (get_or xs k e)
    → IsAlike (Increases R (drop (k - 1) xs)) Q → IsAlike (Increases R (drop (k + 1 - 1) xs)) Q
rises_more {A} R xs k d e Q i h r s =
    let g = pair_is xs k d e i h in
    let n : k + 1 - 1 ≡ k = omega arith in
    let t : drop (k + 1 - 1) xs ≡ get_or xs k e ∷ drop (k + 1) xs = ap (λ (m : ℕ). drop m xs) n ∙ got_rest xs k e h in
    record {
      to = λ q. s.to (subst (Increases R) (sym g) (r, subst (Increases R) t q));
      from = λ q. subst (Increases R) (sym t) (subst (Increases R) g (s.from q)).1;
    }

-- what a comparison says
pub less_of : (o : Ordering) (b : Bool) → b ≡ not (ordering_index o == 0) → b ≡ false → o ≡ Less
less_of Less b e f = refl
less_of Equal b e f = cc
less_of Greater b e f = cc

pub related : {A : Type 0} (R : A → A → Type 0) (a b x y : A) → a ≡ x → b ≡ y → R a b → R x y
related {A} R a b x y e f r = subst (λ (z : A). R x z) f (subst (λ (z : A). R z b) e r)

few_rise : {A : Type 0} (R : A → A → Type 0) (xs : List A) → length xs ≤ 1 → Increases R xs
few_rise R [] h = tt
few_rise R (x ∷ []) h = tt
few_rise R (x ∷ y ∷ ys) h = absurd (omega arith)

pub rises_all : {A : Type 0} (R : A → A → Type 0) (xs : List A) (k : ℕ) (Q : Type 0) → length xs ≤ k → IsAlike (Increases R (drop (k - 1) xs)) Q → Q
rises_all {A} R xs k Q h s = s.to (few_rise R (drop (k - 1) xs) (short xs (k - 1) (omega arith)))
  where
    short : (ys : List A) (n : ℕ) → length ys ≤ n + 1 → length (drop n ys) ≤ 1
    short ys n i = simp length-drop (omega arith)

-- each of a list is such
pub each_more : {A : Type 0} (P : A → Type 0) (xs : List A) (i : ℕ) (x : A) (Q : Type 0) → i < length xs → x ≡ get_or xs i x → P x → IsAlike (AllAre P (drop i xs)) Q → IsAlike (AllAre P (drop (i + 1) xs)) Q
each_more P xs i x Q h e r s =
    let g = rest_is xs i x h e in
    record { to = λ q. s.to (subst (AllAre P) (sym g) (r, q)); from = λ q. (subst (AllAre P) g (s.from q)).1 }

pub each_not : {A : Type 0} (P : A → Type 0) (xs : List A) (i : ℕ) (x : A) (Q : Type 0) → i < length xs → x ≡ get_or xs i x → (P x → ⊥) → IsAlike (AllAre P (drop i xs)) Q → Q → ⊥
each_not P xs i x Q h e r s q = r (subst (AllAre P) (rest_is xs i x h e) (s.from q)).0

none_after : {A : Type 0} (P : A → Type 0) (xs : List A) (i : ℕ) → length xs ≤ i → AllAre P (drop i xs)
none_after P [] zero h = tt
none_after P [] (suc i) h = tt
none_after P (x ∷ xs) zero h = absurd (omega arith)
none_after P (x ∷ xs) (suc i) h = none_after P xs i (omega arith)

pub each_all : {A : Type 0} (P : A → Type 0) (xs : List A) (i : ℕ) (Q : Type 0) → length xs ≤ i → IsAlike (AllAre P (drop i xs)) Q → Q
each_all P xs i Q h s = s.to (none_after P xs i h)

-- two lists that are compared element by element
pub same_more : {A : Type 0} (xs ys : List A) (k : ℕ) (a b : A) → k < length xs → length xs ≡ length ys → a ≡ get_or xs k a → b ≡ get_or ys k b → a ≡ b → take k xs ≡ take k ys → take (k + 1) xs ≡ take (k + 1) ys
same_more {A} xs ys k a b l n ea eb e h =
    let r : k < length ys = omega arith in
    take_more xs k a l ∙ (ap (λ (z : A). take k xs ++ z ∷ []) (sym ea ∙ e) ∙ (ap (λ (zs : List A). zs ++ b ∷ []) h ∙ (ap (λ (z : A). take k ys ++ z ∷ []) eb ∙ sym (take_more ys k b r))))

pub same_at : {A : Type 0} (xs ys : List A) (k : ℕ) (a b : A) → k < length xs → a ≡ get_or xs k a → b ≡ get_or ys k b → xs ≡ ys → a ≡ b
same_at {A} xs ys k a b l ea eb e = ea ∙ (get_or_default xs k a b l ∙ (ap (λ (zs : List A). get_or zs k b) e ∙ sym eb))

pub same_all : {A : Type 0} (xs ys : List A) (k : ℕ) → length xs ≤ k → length xs ≡ length ys → take k xs ≡ take k ys → xs ≡ ys
same_all xs ys k l n h = let r : length ys ≤ k = omega arith in sym (take_all k xs l) ∙ (h ∙ take_all k ys r)

-- needs one after another
pub needs_more : (nodes : List NodeFacts) (xs : List Need) (i : ℕ) (x : Need) (Q : Type 0) → i < length xs → x ≡ get_or xs i x → IsNeedAfter nodes (take i xs) x
    → IsAlike (AreNeedsAfter nodes (take i xs) (drop i xs)) Q → IsAlike (AreNeedsAfter nodes (take (i + 1) xs) (drop (i + 1) xs)) Q
needs_more nodes xs i x Q h e r s =
    let g = rest_is xs i x h e in
    let t : take (i + 1) xs ≡ take i xs ++ x ∷ [] = take_more xs i x h ∙ ap (λ (y : Need). take i xs ++ y ∷ []) (sym e) in
    record {
      to = λ q. s.to (subst (AreNeedsAfter nodes (take i xs)) (sym g) (r, subst (λ (l : List Need). AreNeedsAfter nodes l (drop (i + 1) xs)) t q));
      from = λ q. subst (λ (l : List Need). AreNeedsAfter nodes l (drop (i + 1) xs)) (sym t) (subst (AreNeedsAfter nodes (take i xs)) g (s.from q)).1;
    }

-- what holds of an answer
pub ok_then : {A E : Type 0} (r : Result A E) (P Q : A → Type 0) → IfOk r P → ((x : A) → P x → Q x) → IfOk r Q
ok_then (Ok x) P Q h f = f x h
ok_then (Err e) P Q h f = tt

-- an order of preference
order_full : (size k : ℕ) (xs : List ℕ) → ((v : ℕ) → v < size → Contains xs v) → has k (set_of size xs) ≡ has k (replicate size true)
order_full size k xs h = elim (cases_lt k size) [
  | inl l ↦ (set_members k size xs).1 (l, h k l) ∙ sym (get_or-replicate size k true false l)
  | inr l ↦ get_or_past (set_of size xs) k false (let e = length-set_of size xs in omega arith) ∙ sym (get_or_past (replicate size true) k false (let e = length-replicate size true in omega arith))
]

pub order_tested : (size : ℕ) (xs : List ℕ) (s t : List Bool) (b : Bool) → length xs ≡ size → All (λ v. v < size) xs → s ≡ set_of size xs → t ≡ replicate size true → (IsTrue b ↔ (s ≡ t)) → IsTrue b ↔ IsOrderOf size xs
order_tested size xs s t b l a e f q = (
  λ h. (l, a, λ v i. ((set_members v size xs).0 (ap (has v) (sym e ∙ (q.0 h ∙ f)) ∙ get_or-replicate size v true false i)).1),
  λ o. q.1 (e ∙ (same_sets (set_of size xs) (replicate size true) (length-set_of size xs ∙ sym (length-replicate size true)) (λ k. order_full size k xs o.2) ∙ sym f)),
)

-- what is true of a node
pub node_tested : (nodes : List NodeFacts) (f : NodeFacts) (size : ℕ) (order : List ℕ) (versions : List Fields) (rows : List (List Need)) (b : Bool)
    → versions ≡ f.versions → rows ≡ f.needs → order ≡ f.order → size ≡ length f.barred → size ≡ length versions → length rows ≡ length versions
    → Increases VersionBefore versions → HasBase nodes f f.node.extra f.base → AllAre (AreNeeds nodes) rows → (IsTrue b ↔ IsOrderOf size order) → IsTrue b ↔ IsNodeOf nodes f
node_tested nodes f size order versions rows b ev er eo es et el i h r q =
    let same : size ≡ length f.versions = et ∙ ap length ev in (
      λ t. record {
        increasing = subst (Increases VersionBefore) ev i;
        has_base = h;
        is_order = subst (λ (n : ℕ). IsOrderOf n f.order) same (subst (λ (o : List ℕ). IsOrderOf size o) eo (q.0 t));
        barred_size = sym es ∙ same;
        rows = sym (ap length er) ∙ (el ∙ ap length ev);
        needs = subst (AllAre (AreNeeds nodes)) er r;
      },
      λ n. q.1 (subst (λ (k : ℕ). IsOrderOf k order) (sym same) (subst (λ (o : List ℕ). IsOrderOf (length f.versions) o) (sym eo) n.is_order)),
    )
