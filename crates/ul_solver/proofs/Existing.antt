-- Where some selection serves, one list is best. Whether some selection serves and agrees with decisions is decided by trying all: a
-- selection that serves is a list of options, one for each node, and there are finitely many.
use Rattle.std.proofs.Common.{◌≡◌, ℕ, zero, suc, ◌+◌, List, [], ◌∷◌, ◌++◌, Bool, true, false, Option, Some, None, refl, ap, ◌∙◌, sym, subst, ◌<◌, ◌≤◌, ◌⊎◌, inl, inr, arith, slice_get, get_or, length, append_assoc, length-append}
use Rattle.std.specs.Prelude.{Contains}
use Rattle.std.proofs.lemmas.Bool.{cases_eq, cases_lt, true≢false}
use Rattle.std.proofs.lemmas.Option.{same_Some, none-some, slice_get_read}
use Rattle.std.proofs.lemmas.List.{append-nil}
use Rattle.ul_ranges.specs.Flags.{has}
use Rattle.ul_problem.specs.Terms.{Selection, is_among}
use Rattle.ul_problem.specs.Plain.{Plain, size_of, size_in, base_of, barred_of, needs_of, order_of, order_in}
use Rattle.ul_problem.specs.Serving.{Serves}
use Rattle.ul_problem.specs.Problems.{IsWellFormed}
use Rattle.ul_problem.specs.Best.{Picks, next_of, joined_needs, Agrees, Extends, IsFirst, IsBestFrom, IsBest, IsChain}
use Rattle.ul_problem.specs.declared.problem.Need.{Need}
use Rattle.ul_problem.proofs.ForCallers.{at_node, node_whole, open_one, at_head, in_rest, head_or_rest, in_none, one_cases}
use Rattle.ul_trail.specs.Counts.{sizes_of}
use Rattle.ul_trail.specs.Propagation.{IsOption}
use Rattle.ul_trail.proofs.ForCallers.{sizes_at, sizes_length}
use Rattle.ul_solver.proofs.Starting.{next_within}
use Rattle.ul_solver.proofs.Possible.{asked_by}
use Rattle.ul_solver.proofs.Room.{chain_room, in_range}

-- a statement that is known to hold or to fail
abbrev pub Decided : Type 0 → Type 0
Decided A = A ⊎ (A → ⊥)

pub both_decided : {A B : Type 0} → Decided A → Decided B → Decided (A × B)
both_decided (inl a) (inl b) = inl (a, b)
both_decided (inl a) (inr z) = inr (λ h. z h.1)
both_decided (inr z) d = inr (λ h. z h.0)

pub bool_decided : (b c : Bool) → Decided (b ≡ c)
bool_decided true true = inl refl
bool_decided true false = inr (λ e. true≢false e)
bool_decided false true = inr (λ e. true≢false (sym e))
bool_decided false false = inl refl

below_decided : (m n : ℕ) → Decided (m < n)
below_decided m n = elim (cases_lt m n) [ inl h ↦ inl h | inr h ↦ inr (λ l. omega arith) ]

pub some_decided : (o : Option ℕ) (v : ℕ) → Decided (o ≡ Some v)
some_decided None v = inr (λ e. none-some v e)
some_decided (Some w) v = elim (cases_eq w v) [ inl e ↦ inl (ap Some e) | inr d ↦ inr (λ e. d (same_Some w v e)) ]

-- of each number below one, of some number below one, of each element of a list
all_below : (P : ℕ → Type 0) → ((k : ℕ) → Decided (P k)) → (n : ℕ) → Decided ((k : ℕ) → k < n → P k)
all_below P d zero = inl (λ k h. absurd (omega arith))
all_below P d (suc n) = step (d n) (all_below P d n)
  where
    step : Decided (P n) → Decided ((k : ℕ) → k < n → P k) → Decided ((k : ℕ) → k < suc n → P k)
    step (inr z) r = inr (λ h. z (h n (omega arith)))
    step (inl a) (inr z) = inr (λ h. z (λ k l. h k (omega arith)))
    step (inl a) (inl all) = inl (λ k l. elim (cases_eq k n) [ inl e ↦ subst P (sym e) a | inr x ↦ all k (omega arith) ])

some_below : (P : ℕ → Type 0) → ((k : ℕ) → Decided (P k)) → (n : ℕ) → Decided ((k : ℕ) × (k < n) × P k)
some_below P d zero = inr (λ h. (let l = h.1 in absurd (omega arith)))
some_below P d (suc n) = step (d n) (some_below P d n)
  where
    step : Decided (P n) → Decided ((k : ℕ) × (k < n) × P k) → Decided ((k : ℕ) × (k < suc n) × P k)
    step (inl a) r = inl (n, omega arith, a)
    step (inr z) (inl h) = inl (h.0, (let l = h.1 in omega arith), h.2)
    step (inr z) (inr x) = inr (λ h. elim (cases_eq h.0 n) [ inl e ↦ z (subst P e h.2) | inr y ↦ x (h.0, (let l = h.1 in omega arith), h.2) ])

pub all_members : {A : Type 0} (P : A → Type 0) → ((x : A) → Decided (P x)) → (xs : List A) → Decided ((x : A) → Contains xs x → P x)
all_members P d [] = inl (λ x h. absurd (in_none x h))
all_members {A} P d (y ∷ ys) = step (d y) (all_members P d ys)
  where
    step : Decided (P y) → Decided ((x : A) → Contains ys x → P x) → Decided ((x : A) → Contains (y ∷ ys) x → P x)
    step (inr z) r = inr (λ h. z (h y (at_head y ys y refl)))
    step (inl a) (inr z) = inr (λ h. z (λ x i. h x (in_rest y ys x i)))
    step (inl a) (inl all) = inl (λ x h. elim (head_or_rest y ys x h) [ inl e ↦ subst P e a | inr i ↦ all x i ])

-- the first number of which it holds, where there is one
first_below : (P : ℕ → Type 0) → ((k : ℕ) → Decided (P k)) → (n : ℕ) → ((j : ℕ) × P j × ((i : ℕ) → i < j → P i → ⊥)) ⊎ ((i : ℕ) → i < n → P i → ⊥)
first_below P d zero = inr (λ i h p. absurd (omega arith))
first_below P d (suc n) = step (first_below P d n) (d n)
  where
    step : ((j : ℕ) × P j × ((i : ℕ) → i < j → P i → ⊥)) ⊎ ((i : ℕ) → i < n → P i → ⊥) → Decided (P n) → ((j : ℕ) × P j × ((i : ℕ) → i < j → P i → ⊥)) ⊎ ((i : ℕ) → i < suc n → P i → ⊥)
    step (inl h) r = inl h
    step (inr z) (inl a) = inl (n, a, z)
    step (inr z) (inr x) = inr (λ i l p. elim (cases_eq i n) [ inl e ↦ x (subst P e p) | inr y ↦ z i (omega arith) p ])

first_one : (P : ℕ → Type 0) → ((k : ℕ) → Decided (P k)) → (k : ℕ) → P k → (j : ℕ) × P j × ((i : ℕ) → i < j → P i → ⊥)
first_one P d k p = elim (first_below P d (suc k)) [ inl h ↦ h | inr z ↦ absurd (z k (omega arith) p) ]

-- the selection of a list of options, one for each node
abbrev pub selection_of : List (Option ℕ) → ℕ → Option ℕ
selection_of [] n = None
selection_of (o ∷ os) zero = o
selection_of (o ∷ os) (suc n) = selection_of os n

pub outside : (os : List (Option ℕ)) (n : ℕ) → length os ≤ n → selection_of os n ≡ None
outside [] n h = refl
outside (o ∷ os) zero h = absurd (omega arith)
outside (o ∷ os) (suc n) h = outside os n (omega arith)

-- of each node with a version
pub picked : (σ : Selection) (N : ℕ) → ((n : ℕ) → N ≤ n → σ n ≡ None) → (P : ℕ → ℕ → Type 0) → ((n v : ℕ) → Decided (P n v)) → Decided ((n v : ℕ) → σ n ≡ Some v → P n v)
picked σ N out P d = elim (all_below (λ (n : ℕ). (v : ℕ) → σ n ≡ Some v → P n v) (λ n. at n (σ n) refl) N) [
  | inl h ↦ inl (λ n v e. elim (cases_lt n N) [ inl l ↦ h n l v e | inr g ↦ absurd (none-some v (sym (out n g) ∙ e)) ])
  | inr z ↦ inr (λ h. z (λ n l v e. h n v e))
]
  where
    at : (n : ℕ) (o : Option ℕ) → σ n ≡ o → Decided ((v : ℕ) → σ n ≡ Some v → P n v)
    at n None e = inl (λ v f. absurd (none-some v (sym e ∙ f)))
    at n (Some w) e = elim (d n w) [ inl p ↦ inl (λ v f. subst (P n) (same_Some w v (sym e ∙ f)) p) | inr z ↦ inr (λ h. z (h w e)) ]

has_pick : (o : Option ℕ) → Decided ((v : ℕ) × (o ≡ Some v))
has_pick None = inr (λ h. none-some h.0 h.1)
has_pick (Some v) = inl (v, refl)

based_decided : (p : Plain) (σ : Selection) (n v : ℕ) → Decided ((b : ℕ) → base_of p n ≡ Some b → σ b ≡ Some v)
based_decided p σ n v = at (base_of p n) refl
  where
    at : (o : Option ℕ) → base_of p n ≡ o → Decided ((b : ℕ) → base_of p n ≡ Some b → σ b ≡ Some v)
    at None e = inl (λ b f. absurd (none-some b (sym e ∙ f)))
    at (Some c) e = elim (some_decided (σ c) v) [ inl h ↦ inl (λ b f. subst (λ (k : ℕ). σ k ≡ Some v) (same_Some c b (sym e ∙ f)) h) | inr z ↦ inr (λ h. z (h c e)) ]

pub serves_decided : (p : Plain) (σ : Selection) (N : ℕ) → ((n : ℕ) → N ≤ n → σ n ≡ None) → Decided (Serves p σ)
serves_decided p σ N out =
    let a = picked σ N out (λ n v. v < size_of p n) (λ n v. below_decided v (size_of p n)) in
    let b = all_members (λ (n : ℕ). (v : ℕ) × (σ n ≡ Some v)) (λ n. has_pick (σ n)) p.roots in
    let c = picked σ N out (λ n v. has v (barred_of p n) ≡ false) (λ n v. bool_decided (has v (barred_of p n)) false) in
    let d = picked σ N out (λ n v. (b : ℕ) → base_of p n ≡ Some b → σ b ≡ Some v) (based_decided p σ) in
    let e = picked σ N out (λ n v. (need : Need) → Contains (needs_of p n v) need → is_among (σ need.node) need.permitted ≡ true)
    (λ n v. all_members (λ (need : Need). is_among (σ need.node) need.permitted ≡ true) (λ need. bool_decided (is_among (σ need.node) need.permitted) true) (needs_of p n v)) in
    elim (both_decided a (both_decided b (both_decided c (both_decided d e)))) [
      | inl h ↦ inl (record { within = h.0; has_roots = h.1.0; fit = h.1.1.0; same_base = λ n v b i j. h.1.1.1.0 n v i b j; meets = λ n v i need j. h.1.1.1.1 n v i need j })
      | inr z ↦ inr (λ s. z (s.within, (s.has_roots, (s.fit, ((λ n v i b j. s.same_base n v b i j), (λ n v i need j. s.meets n v i need j))))))
    ]

agrees_decided : (σ : Selection) (d : Picks) → Decided (Agrees σ d)
agrees_decided σ [] = inl tt
agrees_decided σ (e ∷ d) = both_decided (some_decided (σ e.0) e.1) (agrees_decided σ d)

-- some list of options
abbrev pub AreOptions : List ℕ → List (Option ℕ) → Type 0
AreOptions [] os = os ≡ []
AreOptions (s ∷ ss) [] = ⊥
AreOptions (s ∷ ss) (o ∷ os) = IsOption s o × AreOptions ss os

option_decided : (s : ℕ) (P : Option ℕ → Type 0) → ((o : Option ℕ) → Decided (P o)) → Decided ((o : Option ℕ) × IsOption s o × P o)
option_decided s P d = step (d None) (some_below (λ (k : ℕ). P (Some k)) (λ k. d (Some k)) s)
  where
    step : Decided (P None) → Decided ((k : ℕ) × (k < s) × P (Some k)) → Decided ((o : Option ℕ) × IsOption s o × P o)
    step (inl a) r = inl (None, tt, a)
    step (inr z) (inl h) = inl (Some h.0, h.1, h.2)
    step (inr z) (inr x) = inr which
      where
        which : ((o : Option ℕ) × IsOption s o × P o) → ⊥
        which (None, i, h) = z h
        which (Some k, i, h) = x (k, i, h)

pub options_decided : (ss : List ℕ) (P : List (Option ℕ) → Type 0) → ((os : List (Option ℕ)) → Decided (P os)) → Decided ((os : List (Option ℕ)) × AreOptions ss os × P os)
options_decided [] P d = elim (d []) [ inl h ↦ inl ([], refl, h) | inr z ↦ inr (λ x. z (subst P x.1 x.2)) ]
options_decided (s ∷ ss) P d =
    elim (option_decided s (λ (o : Option ℕ). (os : List (Option ℕ)) × AreOptions ss os × P (o ∷ os)) (λ o. options_decided ss (λ (os : List (Option ℕ)). P (o ∷ os)) (λ os. d (o ∷ os)))) [
      | inl h ↦ inl (h.0 ∷ h.2.0, (h.1, h.2.1), h.2.2)
      | inr z ↦ inr (λ x. z (split x))
    ]
  where
    split : ((os : List (Option ℕ)) × AreOptions (s ∷ ss) os × P os) → (o : Option ℕ) × IsOption s o × ((os : List (Option ℕ)) × AreOptions ss os × P (o ∷ os))
    split ([], a, h) = absurd a
    split (o ∷ os, a, h) = (o, a.0, (os, a.1, h))

-- a selection as such a list
abbrev pub options_of : Selection → List ℕ → ℕ → List (Option ℕ)
options_of σ [] n = []
options_of σ (s ∷ ss) n = σ n ∷ options_of σ ss (suc n)

pub are_options : (σ : Selection) (ss : List ℕ) (n : ℕ) → ((k : ℕ) → IsOption (get_or ss k 0) (σ (n + k)) ⊎ (length ss ≤ k)) → AreOptions ss (options_of σ ss n)
are_options σ [] n h = refl
are_options σ (s ∷ ss) n h = (
  elim (h 0) [ inl i ↦ subst (λ (k : ℕ). IsOption s (σ k)) (omega arith) i | inr l ↦ absurd (omega arith) ],
  are_options σ ss (suc n) (λ k. elim (h (suc k)) [ inl i ↦ inl (subst (λ (j : ℕ). IsOption (get_or ss k 0) (σ j)) (omega arith) i) | inr l ↦ inr (omega arith) ]),
)

listed : (σ : Selection) (ss : List ℕ) (n k : ℕ) → k < length ss → σ (n + k) ≡ selection_of (options_of σ ss n) k
listed σ [] n k h = absurd (omega arith)
listed σ (s ∷ ss) n zero h = ap σ (omega arith)
listed σ (s ∷ ss) n (suc k) h = ap σ (omega arith) ∙ listed σ ss (suc n) k (omega arith)

options_length : (σ : Selection) (ss : List ℕ) (n : ℕ) → length (options_of σ ss n) ≡ length ss
options_length σ [] n = refl
options_length σ (s ∷ ss) n = ap suc (options_length σ ss (suc n))

-- equal selections serve and agree alike
pub serves_same : (p : Plain) (σ τ : Selection) → ((n : ℕ) → σ n ≡ τ n) → Serves p σ → Serves p τ
serves_same p σ τ same s = record {
  within = λ n v e. s.within n v (same n ∙ e);
  has_roots = λ n h. (let r = s.has_roots n h in (r.0, sym (same n) ∙ r.1));
  fit = λ n v e. s.fit n v (same n ∙ e);
  same_base = λ n v b e f. sym (same b) ∙ s.same_base n v b (same n ∙ e) f;
  meets = λ n v e need i. ap (λ (o : Option ℕ). is_among o need.permitted) (sym (same need.node)) ∙ s.meets n v (same n ∙ e) need i;
}

agrees_same : (σ τ : Selection) (d : Picks) → ((n : ℕ) → σ n ≡ τ n) → Agrees σ d → Agrees τ d
agrees_same σ τ [] same a = tt
agrees_same σ τ (e ∷ d) same a = (sym (same e.0) ∙ a.0, agrees_same σ τ d same a.1)

pub option_of : (p : Plain) (σ : Selection) (n : ℕ) (o : Option ℕ) → Serves p σ → σ n ≡ o → IsOption (size_of p n) o
option_of p σ n None s e = tt
option_of p σ n (Some v) s e = s.within n v e

pub from_zero : (n : ℕ) → 0 + n ≡ n
from_zero n = omega arith

pub same_listed : (p : Plain) (σ : Selection) → Serves p σ → (n : ℕ) → σ n ≡ selection_of (options_of σ (sizes_of p) 0) n
same_listed p σ s n = elim (cases_lt n (length (sizes_of p))) [
  | inl l ↦ subst (λ (j : ℕ). σ j ≡ selection_of (options_of σ (sizes_of p) 0) n) (from_zero n) (listed σ (sizes_of p) 0 n l)
  | inr g ↦ (none_here (σ n) refl g ∙ sym (outside (options_of σ (sizes_of p) 0) n (let e = options_length σ (sizes_of p) 0 in omega arith)))
]
  where
    none_here : (o : Option ℕ) → σ n ≡ o → length (sizes_of p) ≤ n → σ n ≡ None
    none_here None e g = e
    none_here (Some v) e g = absurd (let r = in_range p n v (s.within n v e) in let x = sizes_length p.nodes in omega arith)

extends_decided : (p : Plain) (d : Picks) → Decided (Extends p d)
extends_decided p d = elim (options_decided (sizes_of p) (λ (os : List (Option ℕ)). Serves p (selection_of os) × Agrees (selection_of os) d)
    (λ os. both_decided (serves_decided p (selection_of os) (length os) (outside os)) (agrees_decided (selection_of os) d))) [
      | inl h ↦ inl (selection_of h.0, h.2.0, h.2.1)
      | inr z ↦ inr (λ x. z (
        options_of x.0 (sizes_of p) 0,
        are_options x.0 (sizes_of p) 0 (λ k. inl (subst (λ (j : ℕ). IsOption (get_or (sizes_of p) k 0) (x.0 j)) (sym (from_zero k)) (subst (λ (m : ℕ). IsOption m (x.0 k)) (sym (sizes_at p k)) (option_of p x.0 k (x.0 k) x.1 refl)))),
        (serves_same p x.0 _ (same_listed p x.0 x.1) x.1, agrees_same x.0 _ d (same_listed p x.0 x.1) x.2),
      ))
    ]

-- a serving selection that agrees with decisions has what they ask for
among_some : (o : Option ℕ) (s : List Bool) → is_among o s ≡ true → (v : ℕ) × (o ≡ Some v)
among_some None s e = absurd (true≢false (sym e))
among_some (Some v) s e = (v, refl)

agreed : (σ : Selection) (d : Picks) (e : ℕ × ℕ) → Agrees σ d → Contains d e → σ e.0 ≡ Some e.1
agreed σ [] e a h = absurd (in_none e h)
agreed σ (x ∷ d) e a h = elim (head_or_rest x d e h) [
  | inl i ↦ subst (λ (y : ℕ × ℕ). σ y.0 ≡ Some y.1) i a.0
  | inr i ↦ agreed σ d e a.1 i
]

next_picked : (p : Plain) (d : Picks) (n : ℕ) (σ : Selection) → Serves p σ → Agrees σ d → next_of p d ≡ Some n → (v : ℕ) × (σ n ≡ Some v)
next_picked p d n σ s a e = elim (one_cases n p.roots (joined_needs p d) (open_one d (p.roots ++ joined_needs p d) n e)) [
  | inl i ↦ s.has_roots n i
  | inr i ↦ (let w = asked_by p d n i in
      let m = s.meets w.0.0 w.0.1 (agreed σ d w.0 a w.1) w.2.0 w.2.1 in
      subst (λ (k : ℕ). (v : ℕ) × (σ k ≡ Some v)) w.2.2 (among_some (σ w.2.0.node) w.2.0.permitted m))
]

agrees_more : (σ : Selection) (d : Picks) (e : ℕ × ℕ) → Agrees σ d → σ e.0 ≡ Some e.1 → Agrees σ (d ++ e ∷ [])
agrees_more σ [] e a h = (h, tt)
agrees_more σ (x ∷ d) e a h = (a.0, agrees_more σ d e a.1 h)

-- a version of a node stands in its order
order_place : (p : Plain) (n v : ℕ) → IsWellFormed p → n < length p.nodes → v < size_of p n → (k : ℕ) × (slice_get (order_of p n) k ≡ Some v)
order_place p n v wf l h =
    let f = at_node p n l in
    let w = node_whole p n f.0 wf f.1 in
    let es : size_of p n ≡ length f.0.versions = ap size_in f.1 in
    let c : Contains f.0.order v = w.is_order.2 v (omega arith) in
    (c.0, subst (λ (x : List ℕ). slice_get x c.0 ≡ Some v) (sym (ap order_in f.1)) (slice_get_read f.0.order (length f.0.order) c.0 v refl c.1 (sym c.2)))

abbrev pub CanTake : Plain → Picks → ℕ → ℕ → Type 0
CanTake p d n i = (w : ℕ) × (slice_get (order_of p n) i ≡ Some w) × Extends p (d ++ (n, w) ∷ [])

take_decided : (p : Plain) (d : Picks) (n i : ℕ) → Decided (CanTake p d n i)
take_decided p d n i = at (slice_get (order_of p n) i) refl
  where
    at : (o : Option ℕ) → slice_get (order_of p n) i ≡ o → Decided (CanTake p d n i)
    at None e = inr (λ h. none-some h.0 (sym e ∙ h.1))
    at (Some w) e = elim (extends_decided p (d ++ (n, w) ∷ [])) [
      | inl h ↦ inl (w, e, h)
      | inr z ↦ inr (λ h. z (subst (λ (u : ℕ). Extends p (d ++ (n, u) ∷ [])) (same_Some h.0 w (sym h.1 ∙ e)) h.2))
    ]

first_version : (p : Plain) (d : Picks) (n v : ℕ) → IsWellFormed p → n < length p.nodes → v < size_of p n → Extends p (d ++ (n, v) ∷ []) → (w : ℕ) × IsFirst p d n w
first_version p d n v wf l h x =
    let k = order_place p n v wf l h in
    let r = first_one (CanTake p d n) (take_decided p d n) k.0 (v, k.1, x) in
    (r.1.0, (r.0, r.1.1, r.1.2, (λ j u i e y. r.2 j i (u, e, y))))

chain_more : (p : Plain) (front d : Picks) (e : ℕ × ℕ) → IsChain p front d → next_of p (front ++ d) ≡ Some e.0 → IsChain p front (d ++ e ∷ [])
chain_more p front [] e c h = (subst (λ (x : Picks). next_of p x ≡ Some e.0) (append-nil front) h, tt)
chain_more p front (x ∷ d) e c h = (c.0, chain_more p (front ++ x ∷ []) d e c.1 (subst (λ (y : Picks). next_of p y ≡ Some e.0) (sym (append_assoc front (x ∷ []) d)) h))

best_room : (p : Plain) (d : Picks) (σ : Selection) (n : ℕ) → IsWellFormed p → Serves p σ → Agrees σ d → IsChain p [] d → next_of p d ≡ Some n → length d < length p.nodes
best_room p d σ n wf s a c e = chain_room p d n c (λ m v i. in_range p m v (s.within m v (agreed σ d (m, v) a i))) e (next_within p d n wf e)

best_step : (p : Plain) (d : Picks) (o : Option ℕ) → next_of p d ≡ o → ((n : ℕ) → next_of p d ≡ Some n → (rest : Picks) × IsBestFrom p d rest) → (rest : Picks) × IsBestFrom p d rest
best_step p d None e go = ([], e)
best_step p d (Some n) e go = go n e

best_from : (p : Plain) (k : ℕ) (d : Picks) (σ : Selection) → IsWellFormed p → Serves p σ → Agrees σ d → IsChain p [] d → length p.nodes ≤ k + length d → (rest : Picks) × IsBestFrom p d rest
best_from p zero d σ wf s a c h = best_step p d (next_of p d) refl (λ n e. absurd (let r = best_room p d σ n wf s a c e in omega arith))
best_from p (suc j) d σ wf s a c h = best_step p d (next_of p d) refl (λ n e.
    (let v = next_picked p d n σ s a e in
    let f = first_version p d n v.0 wf (next_within p d n wf e) (s.within n v.0 v.1) (σ, s, agrees_more σ d (n, v.0) a v.1) in
    let x = f.1.2 in
    let len : length (d ++ (n, f.0) ∷ []) ≡ length d + 1 = length-append d ((n, f.0) ∷ []) in
    let r = best_from p j (d ++ (n, f.0) ∷ []) x.0 wf x.1 x.2 (chain_more p [] d (n, f.0) c e) (omega arith) in
    ((n, f.0) ∷ r.0, (e, f.1, r.1))))

pub best_exists : (p : Plain) (σ : Selection) → IsWellFormed p → Serves p σ → (d : Picks) × IsBest p d
best_exists p σ wf s = best_from p (length p.nodes) [] σ wf s tt tt (omega arith)
