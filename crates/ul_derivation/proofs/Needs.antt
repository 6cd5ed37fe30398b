-- A search for a need.
use Rattle.std.proofs.Common.{◌≡◌, ℕ, ◌+◌, ◌<◌, inl, inr, Bool, true, Some, List, [], ◌∷◌, drop, length, get_or, subst, sym, ap, ◌∙◌, arith, Ok, nat_cmp, Equal}
use Rattle.std.proofs.lemmas.List.{drop_more, get_or_default}
use Rattle.std.proofs.lemmas.Bool.{cases_lt, cases_order, true≢false}
use Rattle.ul_ranges.specs.Flags.{has, IsNextMember}
use Rattle.std.specs.List.{Contains, HoldsAt}
use Rattle.std.specs.List.Sorted.{IsSearchInRange}
use Rattle.std.proofs.lemmas.Cmp.{ranked}
use Rattle.ul_problem.proofs.ForCallers.{head_or_rest}
use Rattle.ul_problem.specs.Steps.{HasNeed}
use Rattle.ul_derivation.specs.Looking.{AreNeedsOfSize}
use Rattle.ul_problem.specs.declared.problem.Need.{Need}

pub one_at : {A : Type 0} (xs : List A) (i : ℕ) (x : A) → i < length xs → x ≡ get_or xs i x → Contains xs x
one_at xs i x h e = (i, h, sym e)

-- a place that a search found
pub found_at : (xs : List ℕ) (x i : ℕ) → IsSearchInRange (Ok i) (length xs) → HoldsAt (λ y. nat_cmp y x ≡ Equal) xs i → Contains xs x
found_at xs x i l h = (i, l, ranked (get_or xs i x) x Equal (sym (h x)))

pub need_here : (needs : List Need) (i : ℕ) (x : Need) (m : ℕ) (w : List Bool) → i < length needs → x ≡ get_or needs i x → x.node ≡ m → ((u : ℕ) → has u x.permitted ≡ true → has u w ≡ true) → HasNeed needs m w
need_here needs i x m w h e f g = (x, one_at needs i x h e, f, g)

past_head : (x : Need) (needs : List Need) (m : ℕ) (w : List Bool) → (x.node ≡ m → ((u : ℕ) → has u x.permitted ≡ true → has u w ≡ true) → ⊥) → HasNeed (x ∷ needs) m w → HasNeed needs m w
past_head x needs m w n (y, i, f, g) = elim (head_or_rest x needs y i) [
  | inl e ↦ absurd (n (ap (λ (z : Need). z.node) e ∙ f) (subst (λ (z : Need). (u : ℕ) → has u z.permitted ≡ true → has u w ≡ true) (sym e) g))
  | inr j ↦ (y, j, f, g)
]

pub need_past : (needs : List Need) (i : ℕ) (x : Need) (m : ℕ) (w : List Bool) → i < length needs → x ≡ get_or needs i x → (x.node ≡ m → ((u : ℕ) → has u x.permitted ≡ true → has u w ≡ true) → ⊥) → HasNeed (drop i needs) m w → HasNeed (drop (i + 1) needs) m w
need_past needs i x m w h e n r =
    let f : drop i needs ≡ x ∷ drop (i + 1) needs = drop_more needs i x h ∙ ap (λ (z : Need). z ∷ drop (i + 1) needs) (sym e) in
    past_head x (drop (i + 1) needs) m w n (subst (λ (l : List Need). HasNeed l m w) f r)

-- the row of a version, as it is read
pub row_read : (rows : List (List Need)) (v : ℕ) (row needs : List Need) → v < length rows → row ≡ get_or rows v row → needs ≡ row → get_or rows v [] ≡ needs
row_read rows v row needs l e f = get_or_default rows v [] row l ∙ sym (f ∙ e)

pub row_sizes : (rows : List (List Need)) (v m size : ℕ) (row needs : List Need) → ((v : ℕ) → AreNeedsOfSize (get_or rows v []) m size) → v < length rows → row ≡ get_or rows v row → needs ≡ row
    → AreNeedsOfSize needs m size
row_sizes rows v m size row needs h l e f = subst (λ (x : List Need). AreNeedsOfSize x m size) (row_read rows v row needs l e f) (h v)

-- the versions up to a further one
pub need_next : (rows : List (List Need)) (versions : List Bool) (target : ℕ) (permitted : List Bool) (from version : ℕ) → ((k : ℕ) → k < from → has k versions ≡ true → HasNeed (get_or rows k []) target permitted)
    → IsNextMember versions from (Some version) → HasNeed (get_or rows version []) target permitted → (k : ℕ) → k < version + 1 → has k versions ≡ true → HasNeed (get_or rows k []) target permitted
need_next rows versions target permitted from version h n there k l g = elim (cases_order k version) [
  | inl e ↦ subst (λ (v : ℕ). HasNeed (get_or rows v []) target permitted) (sym e) there
  | inr (inl b) ↦ elim (cases_lt k from) [ inl a ↦ h k a g | inr a ↦ absurd (true≢false (sym g ∙ n.2 k a b)) ]
  | inr (inr b) ↦ absurd (omega (arith, l, b))
]
