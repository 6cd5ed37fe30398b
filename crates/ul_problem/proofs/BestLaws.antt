use Rattle.std.proofs.Common.{◌≡◌, ℕ, List, [], ◌∷◌, ◌++◌, Bool, true, false, cond, Option, Some, None, inl, inr, refl, sym, ap, subst, ◌∙◌, nat_eq, eq-eqb, append_assoc}
use Rattle.std.proofs.lemmas.Bool.{eqb-true, true≢false}
use Rattle.std.proofs.lemmas.Option.{same_Some}
use Rattle.std.proofs.lemmas.List.{append-nil}
use Rattle.std.specs.List.{Contains}
use Rattle.ul_problem.specs.Terms.{Selection, is_among}
use Rattle.ul_problem.specs.Plain.{Plain, needs_of, base_of, order_of}
use Rattle.ul_problem.specs.Serving.{Serves}
use Rattle.ul_problem.specs.Problems.{IsWellFormed}
use Rattle.ul_problem.proofs.Decided.{best_list_once, first_taken_once, agreed_version, version_of_decided}
use Rattle.ul_problem.proofs.Members.{at_head, in_rest, head_or_rest, in_none, one_left, one_right, one_cases}
use Rattle.ul_problem.proofs.Rules.{some_root, root_base, need_base}
use Rattle.ul_problem.specs.declared.problem.Need.{Need}
use Rattle.ul_problem.specs.Best.{Picks, is_decided, first_open, targets, joined_needs, next_of, Agrees, Extends, IsFirst, IsBestFrom, IsBest, version_in, IsTrailed, IsChain}

pub best_one_from : (p : Plain) (d xs ys : Picks) → IsBestFrom p d xs → IsBestFrom p d ys → xs ≡ ys
best_one_from p d xs ys a b =
    best_list_once (λ e o. next_of p e ≡ o) (IsFirst p) (λ e o q f g. sym f ∙ g) (λ e k v w f g. first_taken_once (order_of p) (Extends p) e k v w f g) d xs ys a b

-- a trail's list is best
agrees_left : (σ : Selection) (xs ys : Picks) → Agrees σ (xs ++ ys) → Agrees σ xs
agrees_left σ [] ys h = tt
agrees_left σ (x ∷ xs) ys h = (h.0, agrees_left σ xs ys h.1)

pub trailed_best : (p : Plain) (d rest : Picks) (σ : Selection) → Serves p σ → Agrees σ (d ++ rest) → IsTrailed p d rest → IsBestFrom p d rest
trailed_best p d [] σ s a t = t
trailed_best p d (e ∷ rest) σ s a t =
    let more : Agrees σ ((d ++ e ∷ []) ++ rest) = subst (λ (xs : Picks). Agrees σ xs) (sym (append_assoc d (e ∷ []) rest)) a in
    (t.0, (t.1.0, t.1.1, (σ, s, agrees_left σ (d ++ e ∷ []) rest more), t.1.2), trailed_best p (d ++ e ∷ []) rest σ s more t.2)

-- a version that the list has is the selection's
agree_at : (σ : Selection) (d : Picks) (n v : ℕ) → Agrees σ d → version_in d n ≡ Some v → σ n ≡ Some v
agree_at σ d n v a h = agreed_version nat_eq eqb-true σ d n v a h

pub decided_version : (d : Picks) (n : ℕ) → is_decided n d ≡ true → (v : ℕ) × (version_in d n ≡ Some v)
decided_version d n h = version_of_decided nat_eq d n h

-- a node that has a version by the list is one of the list's
pick_here : (e : ℕ × ℕ) (d : Picks) (o : Option ℕ) (n v : ℕ) (b : Bool) → nat_eq e.0 n ≡ b → (o ≡ Some v → Contains d (n, v)) → cond b (Some e.1) o ≡ Some v → Contains (e ∷ d) (n, v)
pick_here (m, w) d o n v true f h k =
    let en : m ≡ n = eqb-true m n f in
    let ev : w ≡ v = same_Some w v k in
    at_head (m, w) d (n, v) (λ i. (en i, ev i))
pick_here e d o n v false f h k = in_rest e d (n, v) (h k)

pub pick_of : (d : Picks) (n v : ℕ) → version_in d n ≡ Some v → Contains d (n, v)
pick_of [] n v h = cc
pick_of (e ∷ d) n v h = pick_here e d (version_in d n) n v (nat_eq e.0 n) refl (pick_of d n v) h

-- where no node is open each is decided
open_here : (d : Picks) (m : ℕ) (r : Option ℕ) (b : Bool) → is_decided m d ≡ b → cond b r (Some m) ≡ None → (is_decided m d ≡ true) × (r ≡ None)
open_here d m r true e h = (e, h)
open_here d m r false e h = cc

pub none_open : (d : Picks) (ns : List ℕ) (n : ℕ) → first_open d ns ≡ None → Contains ns n → is_decided n d ≡ true
none_open d [] n h i = absurd (in_none n i)
none_open d (m ∷ ns) n h i = elim (head_or_rest m ns n i) [
  | inl e ↦ subst (λ (k : ℕ). is_decided k d ≡ true) e ((open_here d m (first_open d ns) (is_decided m d) refl h).0)
  | inr r ↦ none_open d ns n ((open_here d m (first_open d ns) (is_decided m d) refl h).1) r
]

-- the joined needs
target_of : (needs : List Need) (need : Need) → Contains needs need → Contains (targets needs) need.node
target_of [] need h = absurd (in_none need h)
target_of (x ∷ needs) need h = elim (head_or_rest x needs need h) [
  | inl e ↦ at_head x.node (targets needs) need.node (ap (λ (y : Need). y.node) e)
  | inr i ↦ in_rest x.node (targets needs) need.node (target_of needs need i)
]

need_of : (needs : List Need) (m : ℕ) → Contains (targets needs) m → (need : Need) × Contains needs need × (need.node ≡ m)
need_of [] m h = absurd (in_none m h)
need_of (x ∷ needs) m h = elim (head_or_rest x.node (targets needs) m h) [
  | inl e ↦ (x, at_head x needs x refl, e)
  | inr i ↦ (let r = need_of needs m i in (r.0, in_rest x needs r.0 r.1, r.2))
]

pub wanted_one : (p : Plain) (d : Picks) (n v : ℕ) (need : Need) → Contains d (n, v) → Contains (needs_of p n v) need → Contains (joined_needs p d) need.node
wanted_one p [] n v need h i = absurd (in_none (n, v) h)
wanted_one p (e ∷ d) n v need h i = elim (head_or_rest e d (n, v) h) [
  | inl f ↦ (
      let j : Contains (needs_of p e.0 e.1) need = subst (λ (x : ℕ × ℕ). Contains (needs_of p x.0 x.1) need) (sym f) i in
      one_left need.node (targets (needs_of p e.0 e.1)) (joined_needs p d) (target_of (needs_of p e.0 e.1) need j))
  | inr r ↦ one_right need.node (targets (needs_of p e.0 e.1)) (joined_needs p d) (wanted_one p d n v need r i)
]

wanted_from : (p : Plain) (d : Picks) (m : ℕ) → Contains (joined_needs p d) m → (e : ℕ × ℕ) × Contains d e × Contains (targets (needs_of p e.0 e.1)) m
wanted_from p [] m h = absurd (in_none m h)
wanted_from p (e ∷ d) m h = elim (one_cases m (targets (needs_of p e.0 e.1)) (joined_needs p d) h) [
  | inl i ↦ (e, at_head e d e refl, i)
  | inr i ↦ (let r = wanted_from p d m i in (r.0, in_rest e d r.0 r.1, r.2))
]

-- the base of a node that is asked for is asked for
abbrev pub IsAsked : Plain → Picks → ℕ → Type 0
IsAsked p d n = Contains (p.roots ++ joined_needs p d) n

pub asked_base : (p : Plain) (d : Picks) (n b : ℕ) → IsWellFormed p → IsAsked p d n → base_of p n ≡ Some b → IsAsked p d b
asked_base p d n b wf h e = elim (one_cases n p.roots (joined_needs p d) h) [
  | inl i ↦ one_left b p.roots (joined_needs p d) (root_base p n b wf i e)
  | inr i ↦ (let w = wanted_from p d n i in
      let r = need_of (needs_of p w.0.0 w.0.1) n w.2 in
      let eb : base_of p r.0.node ≡ Some b = ap (λ (k : ℕ). base_of p k) r.2 ∙ e in
      let o = need_base p w.0.0 w.0.1 b r.0 wf r.1 eb in
      one_right b p.roots (joined_needs p d) (subst (λ (k : ℕ). Contains (joined_needs p d) k) o.2 (wanted_one p d w.0.0 w.0.1 o.0 w.1 o.1)))
]

wanted_append : (p : Plain) (xs ys : Picks) → joined_needs p (xs ++ ys) ≡ joined_needs p xs ++ joined_needs p ys
wanted_append p [] ys = refl
wanted_append p (e ∷ xs) ys = ap (λ (l : List ℕ). targets (needs_of p e.0 e.1) ++ l) (wanted_append p xs ys) ∙ sym (append_assoc (targets (needs_of p e.0 e.1)) (joined_needs p xs) (joined_needs p ys))

asked_more : (p : Plain) (xs ys : Picks) (n : ℕ) → IsAsked p xs n → IsAsked p (xs ++ ys) n
asked_more p xs ys n h = elim (one_cases n p.roots (joined_needs p xs) h) [
  | inl i ↦ one_left n p.roots (joined_needs p (xs ++ ys)) i
  | inr i ↦ one_right n p.roots (joined_needs p (xs ++ ys)) (subst (λ (l : List ℕ). Contains l n) (sym (wanted_append p xs ys)) (one_left n (joined_needs p xs) (joined_needs p ys) i))
]

open_which : (d : Picks) (ns : List ℕ) (m n : ℕ) (b : Bool) → (first_open d ns ≡ Some n → Contains ns n) → cond b (first_open d ns) (Some m) ≡ Some n → Contains (m ∷ ns) n
open_which d ns m n true k h = in_rest m ns n (k h)
open_which d ns m n false k h = at_head m ns n (same_Some m n h)

pub open_one : (d : Picks) (ns : List ℕ) (n : ℕ) → first_open d ns ≡ Some n → Contains ns n
open_one d [] n h = cc
open_one d (m ∷ ns) n h = open_which d ns m n (is_decided m d) (open_one d ns n) h

-- each node of a chain is asked for
pub asked_all : (p : Plain) (d rest : Picks) (n v : ℕ) → IsChain p d rest → Contains rest (n, v) → IsAsked p (d ++ rest) n
asked_all p d [] n v b h = absurd (in_none (n, v) h)
asked_all p d (e ∷ rest) n v b h = elim (head_or_rest e rest (n, v) h) [
  | inl f ↦ (
      let o : next_of p d ≡ Some n = subst (λ (x : ℕ × ℕ). next_of p d ≡ Some x.0) f b.0 in
      asked_more p d (e ∷ rest) n (open_one d (p.roots ++ joined_needs p d) n o))
  | inr i ↦ (
      let r = asked_all p (d ++ e ∷ []) rest n v b.1 i in
      subst (λ (l : Picks). IsAsked p l n) (append_assoc d (e ∷ []) rest) r)
]

chain_best : (p : Plain) (d rest : Picks) → IsBestFrom p d rest → IsChain p d rest
chain_best p d [] b = tt
chain_best p d (e ∷ rest) b = (b.0, chain_best p (d ++ e ∷ []) rest b.2)

-- at the end all that is asked for is decided
end_of : (p : Plain) (d rest : Picks) → IsBestFrom p d rest → next_of p (d ++ rest) ≡ None
end_of p d [] b = subst (λ (l : Picks). next_of p l ≡ None) (sym (append-nil d)) b
end_of p d (e ∷ rest) b = subst (λ (l : Picks). next_of p l ≡ None) (append_assoc d (e ∷ []) rest) (end_of p (d ++ e ∷ []) rest b.2)

extends_all : (p : Plain) (d : Picks) (e : ℕ × ℕ) (rest : Picks) → IsBestFrom p d (e ∷ rest) → Extends p (d ++ e ∷ rest)
extends_all p d e [] b = b.1.2
extends_all p d e (f ∷ rest) b = subst (λ (l : Picks). Extends p l) (append_assoc d (e ∷ []) (f ∷ rest)) (extends_all p (d ++ e ∷ []) f rest b.2)

map_serves : (p : Plain) (d : Picks) → IsWellFormed p → IsBest p d → Extends p d → Serves p (version_in d)
map_serves p d wf b (σ, s, a) =
    let done : (n : ℕ) → IsAsked p d n → is_decided n d ≡ true = λ n h. none_open d (p.roots ++ joined_needs p d) n (end_of p [] d b) h in
    let has : (n v : ℕ) → version_in d n ≡ Some v → σ n ≡ Some v = λ n v h. agree_at σ d n v a h in
    let same : (n v : ℕ) → IsAsked p d n → σ n ≡ Some v → version_in d n ≡ Some v = λ n v h e. (let r = decided_version d n (done n h) in r.1 ∙ (sym (has n r.0 r.1) ∙ e)) in
    record {
      within = λ n v h. s.within n v (has n v h);
      has_roots = λ n h. decided_version d n (done n (one_left n p.roots (joined_needs p d) h));
      fit = λ n v h. s.fit n v (has n v h);
      same_base = λ n v b' h e. same b' v (asked_base p d n b' wf (asked_all p [] d n v (chain_best p [] d b) (pick_of d n v h)) e) (s.same_base n v b' (has n v h) e);
      meets = λ n v h need i. (let r = decided_version d need.node (done need.node (one_right need.node p.roots (joined_needs p d) (wanted_one p d n v need (pick_of d n v h) i))) in
          let both : version_in d need.node ≡ σ need.node = r.1 ∙ sym (has need.node r.0 r.1) in
          ap (λ (o : Option ℕ). is_among o need.permitted) both ∙ s.meets n v (has n v h) need i);
    }

pub best_serves : (p : Plain) (d : Picks) → IsWellFormed p → IsBest p d → Serves p (version_in d)
best_serves p [] wf b = absurd (true≢false (sym (none_open [] (p.roots ++ []) (some_root p wf).0 b (one_left (some_root p wf).0 p.roots [] (some_root p wf).1))))
best_serves p (e ∷ d) wf b = map_serves p (e ∷ d) wf b (extends_all p [] e d b)

-- the next node is undecided
open_which_not : (d : Picks) (ns : List ℕ) (m n : ℕ) (b : Bool) → is_decided m d ≡ b → (first_open d ns ≡ Some n → is_decided n d ≡ false) → cond b (first_open d ns) (Some m) ≡ Some n → is_decided n d ≡ false
open_which_not d ns m n true e k h = k h
open_which_not d ns m n false e k h = subst (λ (j : ℕ). is_decided j d ≡ false) (same_Some m n h) e

open_not : (d : Picks) (ns : List ℕ) (n : ℕ) → first_open d ns ≡ Some n → is_decided n d ≡ false
open_not d [] n h = cc
open_not d (m ∷ ns) n h = open_which_not d ns m n (is_decided m d) refl (open_not d ns n) h

pub not_decided : (p : Plain) (d : Picks) (n : ℕ) → next_of p d ≡ Some n → is_decided n d ≡ false
not_decided p d n h = open_not d (p.roots ++ joined_needs p d) n h

-- a further pick of an undecided node leaves the others
version_kept : (xs : Picks) (e : ℕ × ℕ) (n v : ℕ) → version_in xs n ≡ Some v → version_in (xs ++ e ∷ []) n ≡ Some v
version_kept [] e n v h = cc
version_kept (x ∷ xs) e n v h = which (nat_eq x.0 n) h (version_kept xs e n v)
  where
    which : (b : Bool) → cond b (Some x.1) (version_in xs n) ≡ Some v → (version_in xs n ≡ Some v → version_in (xs ++ e ∷ []) n ≡ Some v) → cond b (Some x.1) (version_in (xs ++ e ∷ []) n) ≡ Some v
    which true h k = h
    which false h k = k h

version_last : (xs : Picks) (n v : ℕ) → is_decided n xs ≡ false → version_in (xs ++ (n, v) ∷ []) n ≡ Some v
version_last [] n v h = which (nat_eq n n) (eq-eqb n n refl)
  where
    which : (b : Bool) → b ≡ true → cond b (Some v) None ≡ Some v
    which true e = refl
    which false e = cc
version_last (x ∷ xs) n v h = which (nat_eq x.0 n) h (version_last xs n v)
  where
    which : (b : Bool) → cond b true (is_decided n xs) ≡ false → (is_decided n xs ≡ false → version_in (xs ++ (n, v) ∷ []) n ≡ Some v) → cond b (Some x.1) (version_in (xs ++ (n, v) ∷ []) n) ≡ Some v
    which true e k = cc
    which false e k = k e

agrees_kept : (f g : Selection) (d : Picks) → ((n v : ℕ) → f n ≡ Some v → g n ≡ Some v) → Agrees f d → Agrees g d
agrees_kept f g [] k a = tt
agrees_kept f g (x ∷ d) k a = (k x.0 x.1 a.0, agrees_kept f g d k a.1)

agrees_join : (σ : Selection) (xs ys : Picks) → Agrees σ xs → Agrees σ ys → Agrees σ (xs ++ ys)
agrees_join σ [] ys a b = b
agrees_join σ (x ∷ xs) ys a b = (a.0, agrees_join σ xs ys a.1 b)

pub agrees_more : (d : Picks) (e : ℕ × ℕ) → is_decided e.0 d ≡ false → Agrees (version_in d) d → Agrees (version_in (d ++ e ∷ [])) (d ++ e ∷ [])
agrees_more d (n, v) h a = agrees_join (version_in (d ++ (n, v) ∷ [])) d ((n, v) ∷ [])
    (agrees_kept (version_in d) (version_in (d ++ (n, v) ∷ [])) d (version_kept d (n, v)) a)
    (version_last d n v h, tt)
