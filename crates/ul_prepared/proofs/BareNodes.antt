-- Nodes in order, each once, as a loop over sorted nodes puts them.
use Rattle.std.specs.Prelude.{Contains, slice_get}
use Rattle.std.specs.List.Sorted.{IsSorted}
use Rattle.std.specs.Ordering.{is_lt, ordering_reverse}
use Rattle.std.specs.declared.cmp.Ordering.{Ordering}
use Rattle.std.specs.declared.cmp.Ordering.TheVariants.{Less, Equal, Greater}
use Rattle.std.proofs.Common.{◌≡◌, ◌-◌, ◌+◌, ◌⊎◌, ℕ, suc, List, [], ◌∷◌, ◌++◌, length, get_or, true, false, Option, Some, None, inl, inr, ⊎_elim, arith, refl, sym, ap, subst, ◌∙◌}
use Rattle.std.proofs.lemmas.Option.{none-some, same_Some}
use Rattle.ul_base.specs.declared.node.Node.{Node}
use Rattle.ul_base.specs.Nodes.{node_cmp, node_cmp-total}
use Rattle.ul_base.proofs.ForCallers.{contains_cases, node_cmp_same}
use Rattle.ul_prepared.specs.Gathered.{ComesAfter}
use Rattle.ul_prepared.specs.Places.{IsAmong}
use Rattle.ul_prepared.specs.declared.prepared.Planned.{Planned}
use Rattle.ul_prepared.proofs.ListPlaces.{push_stays, push_there}

-- none of the nodes comes before a node
abbrev pub StartsFrom : Node → List Node → Type 0
StartsFrom n ns = (m : Node) (ms : List Node) → ns ≡ m ∷ ms → is_lt (node_cmp m n) ≡ false

-- none of the nodes that are left comes before the last of those that are put
abbrev pub LeftFrom : List Planned → List Node → Type 0
LeftFrom bare left = (p : Planned) → slice_get bare (length bare - 1) ≡ Some p → StartsFrom p.node left

-- where none is put
pub none_put : (left : List Node) → LeftFrom [] left
none_put left p e = absurd (none-some p e)

-- each node of a list is put, or left
abbrev pub ArePutOrLeft : List Node → List Planned → List Node → Type 0
ArePutOrLeft all bare left = (n : Node) → Contains all n → IsAmong bare n ⊎ Contains left n

-- what is left of sorted nodes is sorted, and starts from the first
pub sorted_rest : (n : Node) (ns : List Node) → IsSorted node_cmp (n ∷ ns) → IsSorted node_cmp ns
sorted_rest n ns h k d low l = let e : suc k + 1 ≡ suc (k + 1) = omega arith in
    subst (λ (j : ℕ). is_lt (node_cmp (get_or (n ∷ ns) j d) (get_or ns k d)) ≡ false) e (h (suc k) d (omega arith) (omega (arith, l)))

pub rest_from : (n : Node) (ns : List Node) → IsSorted node_cmp (n ∷ ns) → StartsFrom n ns
rest_from n [] h m ms e = cc
rest_from n (k ∷ ks) h m ms e = let same : k ≡ m = cc in subst (λ (z : Node). is_lt (node_cmp z n) ≡ false) same (h 0 n (omega arith) (omega arith))

level : (a b : Node) (o : Ordering) → node_cmp a b ≡ o → (o ≡ Less → ⊥) → is_lt (node_cmp b a) ≡ false → a ≡ b
level a b Less e not_before not_after = absurd (not_before refl)
level a b Equal e not_before not_after = node_cmp_same a b e
level a b Greater e not_before not_after = let less : node_cmp b a ≡ Less = node_cmp-total.antisymm b a ∙ ap ordering_reverse e in
    let never : true ≡ false = sym (ap is_lt less) ∙ not_after in cc

last_by : (o : Option Planned) (n : Node) → (((p : Planned) → o ≡ Some p → node_cmp p.node n ≡ Less) → ⊥) → ((p : Planned) → o ≡ Some p → is_lt (node_cmp n p.node) ≡ false) → (p : Planned) × (o ≡ Some p) × (p.node ≡ n)
last_by None n fails from = absurd (fails (λ p e. absurd (none-some p e)))
last_by (Some p) n fails from =
    (p, refl, level p.node n (node_cmp p.node n) refl (λ less. fails (λ q e. subst (λ (z : Planned). node_cmp z.node n ≡ Less) (same_Some p q e) less)) (from p refl))

last_pushed : (xs : List Planned) (x : Planned) → slice_get (xs ++ x ∷ []) (length (xs ++ x ∷ []) - 1) ≡ Some x
last_pushed xs x = ap (slice_get (xs ++ x ∷ [])) (size xs x) ∙ push_there xs x
  where
    longer : (ys : List Planned) (y : Planned) → length (ys ++ y ∷ []) ≡ suc (length ys)
    longer [] y = refl
    longer (z ∷ ys) y = ap suc (longer ys y)

    size : (ys : List Planned) (y : Planned) → length (ys ++ y ∷ []) - 1 ≡ length ys
    size ys y = let e = longer ys y in omega (arith, e)

module _ (all : List Node) (bare : List Planned) (left rest : List Node) (n : Node) (steps : left ≡ n ∷ rest) (put : ArePutOrLeft all bare left) where
  left_cases : (m : Node) → Contains left m → (m ≡ n) ⊎ Contains rest m
  left_cases m c = contains_cases n rest m (subst (λ (z : List Node). Contains z m) steps c)

  -- a node that doesn't come after the last one is the last one
  last_is : (ComesAfter bare n → ⊥) → LeftFrom bare left → (p : Planned) × (slice_get bare (length bare - 1) ≡ Some p) × (p.node ≡ n)
  last_is fails from = last_by (slice_get bare (length bare - 1)) n fails (λ p e. from p e n rest steps)

  module _ (fails : ComesAfter bare n → ⊥) (sorted : IsSorted node_cmp left) (from : LeftFrom bare left) where
    -- the step that leaves such a node out
    pub out_put : ArePutOrLeft all bare rest
    out_put m c = let last = last_is fails from in
        ⊎_elim (λ a. inl a) (λ l. ⊎_elim (λ e. inl (length bare - 1, (last.0, last.1, last.2 ∙ sym e))) (λ r. inr r) (left_cases m l)) (put m c)

    pub out_from : LeftFrom bare rest
    out_from p e =
        let last = last_is fails from in
        let same : n ≡ p.node = sym last.2 ∙ ap (λ (q : Planned). q.node) (same_Some last.0 p (sym last.1 ∙ e)) in
        subst (λ (z : Node). StartsFrom z rest) same (rest_from n rest (subst (IsSorted node_cmp) steps sorted))

  module _ (now : List Planned) (one : Planned) (more : now ≡ bare ++ one ∷ []) (own : one.node ≡ n) (sorted : IsSorted node_cmp left) where
    stands : IsAmong now n
    stands = (length bare, (one, subst (λ (z : List Planned). slice_get z (length bare) ≡ Some one) (sym more) (push_there bare one), own))

    stay : (m : Node) → IsAmong bare m → IsAmong now m
    stay m a = (a.0, (a.1.0, subst (λ (z : List Planned). slice_get z a.0 ≡ Some a.1.0) (sym more) (push_stays bare one a.0 a.1.0 a.1.1), a.1.2))

    -- the step that puts a node
    pub in_put : ArePutOrLeft all now rest
    in_put m c = ⊎_elim (λ a. inl (stay m a)) (λ l. ⊎_elim (λ e. inl (subst (IsAmong now) (sym e) stands)) (λ r. inr r) (left_cases m l)) (put m c)

    pub in_from : LeftFrom now rest
    in_from p e =
        let last : slice_get now (length now - 1) ≡ Some one = subst (λ (z : List Planned). slice_get z (length z - 1) ≡ Some one) (sym more) (last_pushed bare one) in
        let same : n ≡ p.node = sym own ∙ ap (λ (q : Planned). q.node) (same_Some one p (sym last ∙ e)) in
        subst (λ (z : Node). StartsFrom z rest) same (rest_from n rest (subst (IsSorted node_cmp) steps sorted))

-- where nothing is left, all are put
pub all_put : (all : List Node) (bare : List Planned) (left : List Node) → length left ≡ 0 → ArePutOrLeft all bare left → (n : Node) → Contains all n → IsAmong bare n
all_put all bare left none put n c = ⊎_elim (λ a. a) (λ l. absurd (omega (arith, none, l.1))) (put n c)
