-- What is known of each node.
use Rattle.std.proofs.Common.{◌≡◌, ℕ, zero, suc, ◌+◌, List, [], ◌∷◌, ◌++◌, Bool, true, false, cond, not, Option, Some, None, refl, ap, ◌∙◌, sym, subst, ◌<◌, inl, inr, arith, nat_eq, slice_get, get_or, length, take, slice_set, replicate, eq-eqb, length-append}
use Rattle.std.proofs.lemmas.Bool.{ne_eqb}
use Rattle.std.proofs.lemmas.List.{length-set}
use Rattle.std.proofs.lemmas.Option.{slice_get_read, slice_get_within, same_Some}
use Rattle.ul_ranges.specs.Flags.{has, both, less, is_blank}
use Rattle.ul_ranges.proofs.ForCallers.{has-both, has-less, length-both, length-either, length-less, blank_some}
use Rattle.ul_problem.specs.Terms.{node_of, set_of, allows, meet_of, relation_of, relation_from_of, IsTold}
use Rattle.ul_problem.specs.declared.term.Term.{Term}
use Rattle.ul_problem.specs.declared.term.Term.TheVariants.{In, NotIn}
use Rattle.ul_problem.specs.declared.term.Relation.{Relation}
use Rattle.ul_problem.specs.declared.term.Relation.TheVariants.{Holds, Fails, Unknown}
use Rattle.ul_problem.proofs.ForCallers.{allows-meet, and_left', and_right', meet_node, relation_exact, has_within}
use Rattle.ul_trail.specs.declared.fact.Fact.{Fact}
use Rattle.ul_trail.specs.Facts.{is_open, IsMirror, IsAllowed}
use Rattle.ul_trail.specs.Propagation.{IsOption}
use Rattle.ul_trail.specs.Standing.{IsSized, IsStanding, IsToldBy, versions_in}
use Rattle.ul_trail.proofs.Places.{set_cases, last_cases, take_front, take_whole, get_last, get_more}

-- one more fact
pub open_append : (xs : List Fact) (f : Fact) (n : ℕ) (o : Option ℕ) → is_open (xs ++ f ∷ []) n o ≡ cond (is_open xs n o) (cond (nat_eq (node_of f.term) n) (allows f.term o) true) false
open_append [] f n o = base (nat_eq (node_of f.term) n) (allows f.term o)
  where
    base : (b a : Bool) → cond b (cond a true false) true ≡ cond b a true
    base true true = refl
    base true false = refl
    base false a = refl
open_append (g ∷ xs) f n o = step (nat_eq (node_of g.term) n) (allows g.term o) (is_open xs n o) (cond (nat_eq (node_of f.term) n) (allows f.term o) true) (is_open (xs ++ f ∷ []) n o) (open_append xs f n o)
  where
    step : (b a r x s : Bool) → s ≡ cond r x false → cond b (cond a s false) s ≡ cond (cond b (cond a r false) r) x false
    step true true r x s e = e
    step true false r x s e = refl
    step false a r x s e = e

pub open_past : (xs : List Fact) (f : Fact) (n : ℕ) (o : Option ℕ) → (node_of f.term ≡ n → ⊥) → is_open (xs ++ f ∷ []) n o ≡ is_open xs n o
open_past xs f n o h = open_append xs f n o ∙ past (is_open xs n o) (nat_eq (node_of f.term) n) (allows f.term o) (ne_eqb (node_of f.term) n h)
  where
    past : (r b a : Bool) → b ≡ false → cond r (cond b a true) false ≡ r
    past true b a e = rw e refl
    past false b a e = refl

open_here : (xs : List Fact) (f : Fact) (n : ℕ) (o : Option ℕ) → node_of f.term ≡ n → is_open (xs ++ f ∷ []) n o ≡ cond (is_open xs n o) (allows f.term o) false
open_here xs f n o h = open_append xs f n o ∙ ap (λ (b : Bool). cond (is_open xs n o) (cond b (allows f.term o) true) false) (eq-eqb (node_of f.term) n h)

meet_length : (t u : Term) → length (set_of t) ≡ length (set_of u) → length (set_of (meet_of t u)) ≡ length (set_of t)
meet_length (In n s) (In m t) e = length-both s t e
meet_length (In n s) (NotIn m t) e = length-less s t
meet_length (NotIn n s) (In m t) e = length-less t s ∙ sym e
meet_length (NotIn n s) (NotIn m t) e = length-either s t e

mirror_met : (facts : List Fact) (f : Fact) (n size : ℕ) (q : Term) → IsMirror facts n size q → node_of f.term ≡ n → length (set_of f.term) ≡ size → IsMirror (facts ++ f ∷ []) n size (meet_of q f.term)
mirror_met facts f n size q m e l = record {
  node = meet_node q f.term ∙ m.node;
  fits = meet_length q f.term (m.fits ∙ sym l) ∙ m.fits;
  same = λ o. allows-meet q f.term o ∙ (ap (λ (b : Bool). cond b (allows f.term o) false) (m.same o) ∙ sym (open_here facts f n o e));
}

mirror_past : (facts : List Fact) (f : Fact) (n size : ℕ) (q : Term) → IsMirror facts n size q → (node_of f.term ≡ n → ⊥) → IsMirror (facts ++ f ∷ []) n size q
mirror_past facts f n size q m h = record { node = m.node; fits = m.fits; same = λ o. m.same o ∙ sym (open_past facts f n o h) }

-- what is known of a node that is there
pub known_at : (sizes : List ℕ) (known before : List Term) (facts : List Fact) (n : ℕ) (q : Term) → IsStanding sizes known before facts → n < length sizes → q ≡ get_or known n q → IsMirror facts n (get_or sizes n 0) q
known_at sizes known before facts n q s h e = s.mirror n q (slice_get_read known (length sizes) n q (sym s.count) h e)

pub pushed : (sizes : List ℕ) (known before : List Term) (facts : List Fact) (f : Fact) (q : Term) → IsStanding sizes known before facts → IsSized sizes f.term → q ≡ get_or known (node_of f.term) q
    → IsStanding sizes (slice_set known (node_of f.term) (meet_of q f.term)) (before ++ q ∷ []) (facts ++ f ∷ [])
pushed sizes known before facts f q s z e =
    let m : ℕ = node_of f.term in
    let i : m < length known = subst (λ (l : ℕ). m < l) (sym s.count) z.0 in
    let here : IsMirror facts m (get_or sizes m 0) q = known_at sizes known before facts m q s z.0 e in
    record {
      count = length-set known m (meet_of q f.term) ∙ s.count;
      mirror = λ n x g. elim (set_cases known m n (meet_of q f.term) x i g) [
        | inl h ↦ subst (λ (k : ℕ). IsMirror (facts ++ f ∷ []) k (get_or sizes k 0) x) (sym h.0) (subst (λ (y : Term). IsMirror (facts ++ f ∷ []) m (get_or sizes m 0) y) (sym h.1) (mirror_met facts f m (get_or sizes m 0) q here refl z.1))
        | inr h ↦ mirror_past facts f n (get_or sizes n 0) x (s.mirror n x h.1) (λ r. h.0 (sym r))
      ];
      aligned = length-append before (q ∷ []) ∙ (ap (λ (k : ℕ). k + 1) s.aligned ∙ sym (length-append facts (f ∷ [])));
      undo = λ k g b eg eb. elim (last_cases facts f g k eg) [
        | inl h ↦ elim (last_cases before q b k eb) [
          | inl h' ↦ subst (λ (l : List Fact). IsMirror l (node_of g.term) (get_or sizes (node_of g.term) 0) b) (sym (take_front facts (f ∷ []) k (let a = h.0 in omega arith))) (s.undo k g b h.1 h'.1)
          | inr h' ↦ absurd (let a = h.0 in let c = h'.0 in let d = s.aligned in omega arith)
        ]
        | inr h ↦ elim (last_cases before q b k eb) [
          | inl h' ↦ absurd (let a = h.0 in let c = h'.0 in let d = s.aligned in omega arith)
          | inr h' ↦ subst (λ (l : List Fact). IsMirror l (node_of g.term) (get_or sizes (node_of g.term) 0) b) (sym (ap (λ (n : ℕ). take n (facts ++ f ∷ [])) h.0 ∙ (take_front facts (f ∷ []) (length facts) (omega arith) ∙ take_whole facts)))
              (subst (λ (y : Fact). IsMirror facts (node_of y.term) (get_or sizes (node_of y.term) 0) b) (sym h.1) (subst (λ (y : Term). IsMirror facts m (get_or sizes m 0) y) (sym h'.1) here))
        ]
      ];
      inside = λ k g eg. elim (last_cases facts f g k eg) [
        | inl h ↦ s.inside k g h.1
        | inr h ↦ subst (λ (y : Fact). IsSized sizes y.term) (sym h.1) z
      ];
    }

-- what the facts tell of a term
unknown_parts : (h f : Bool) → relation_from_of h f ≡ Unknown → (h ≡ false) × (f ≡ false)
unknown_parts true f e = cc
unknown_parts false true e = cc
unknown_parts false false e = (refl, refl)

less_parts : (x y : Bool) → cond y false x ≡ true → (x ≡ true) × (y ≡ false)
less_parts x true e = cc
less_parts x false e = (e, refl)

witness : (q t : Term) → relation_of q t ≡ Unknown → length (set_of q) ≡ length (set_of t) → (o : Option ℕ) × IsOption (length (set_of q)) o × (allows q o ≡ true) × (allows t o ≡ true)
witness (In n s) (In m t) e l =
    let k = blank_some (both s t) (unknown_parts (is_blank (less s t)) (is_blank (both s t)) e).1 in
    let h : cond (has k.0 s) (has k.0 t) false ≡ true = sym (has-both k.0 s t) ∙ k.1 in
    let a : has k.0 s ≡ true = and_left' (has k.0 s) (has k.0 t) h in
    (Some k.0, has_within s k.0 a, a, and_right' (has k.0 s) (has k.0 t) h)
witness (In n s) (NotIn m t) e l =
    let k = blank_some (less s t) (unknown_parts (is_blank (both s t)) (is_blank (less s t)) e).1 in
    let h = less_parts (has k.0 s) (has k.0 t) (sym (has-less k.0 s t) ∙ k.1) in
    (Some k.0, has_within s k.0 h.0, h.0, ap not h.1)
witness (NotIn n s) (In m t) e l =
    let k = blank_some (less t s) (unknown_parts false (is_blank (less t s)) e).1 in
    let h = less_parts (has k.0 t) (has k.0 s) (sym (has-less k.0 t s) ∙ k.1) in
    (Some k.0, subst (λ (z : ℕ). k.0 < z) (sym l) (has_within t k.0 h.0), ap not h.1, h.0)
witness (NotIn n s) (NotIn m t) e l = (None, tt, refl, refl)

leaving : (q t : Term) → relation_of q t ≡ Unknown → (o : Option ℕ) × (allows q o ≡ true) × (allows t o ≡ false)
leaving (In n s) (In m t) e =
    let k = blank_some (less s t) (unknown_parts (is_blank (less s t)) (is_blank (both s t)) e).0 in
    let h = less_parts (has k.0 s) (has k.0 t) (sym (has-less k.0 s t) ∙ k.1) in
    (Some k.0, h.0, h.1)
leaving (In n s) (NotIn m t) e =
    let k = blank_some (both s t) (unknown_parts (is_blank (both s t)) (is_blank (less s t)) e).0 in
    let h : cond (has k.0 s) (has k.0 t) false ≡ true = sym (has-both k.0 s t) ∙ k.1 in
    (Some k.0, and_left' (has k.0 s) (has k.0 t) h, ap not (and_right' (has k.0 s) (has k.0 t) h))
leaving (NotIn n s) (In m t) e = (None, refl, refl)
leaving (NotIn n s) (NotIn m t) e =
    let k = blank_some (less t s) (unknown_parts (is_blank (less t s)) false e).0 in
    let h = less_parts (has k.0 t) (has k.0 s) (sym (has-less k.0 t s) ∙ k.1) in
    (Some k.0, ap not h.1, ap not h.0)

told_by : (sizes : List ℕ) (facts : List Fact) (q t : Term) (r : Relation) → IsMirror facts (node_of t) (get_or sizes (node_of t) 0) q → length (set_of t) ≡ get_or sizes (node_of t) 0 → r ≡ relation_of q t → IsTold q t r → IsToldBy sizes facts t r
told_by sizes facts q t Holds m l e h = λ o x. h o (m.same o ∙ x)
told_by sizes facts q t Fails m l e h = ((λ o x. h.0 o (m.same o ∙ x)), (λ held. h.1 (λ o x. held o (sym (m.same o) ∙ x))))
told_by sizes facts q t Unknown m l e h =
    let w = witness q t (sym e) (m.fits ∙ sym l) in
    let v = leaving q t (sym e) in
    ((w.0, subst (λ (k : ℕ). IsOption k w.0) m.fits w.1, sym (m.same w.0) ∙ w.2, w.3), (λ held. h.0 (λ o x. held o (sym (m.same o) ∙ x))), (v.0, sym (m.same v.0) ∙ v.1, v.2))

pub told : (sizes : List ℕ) (known before : List Term) (facts : List Fact) (q t : Term) (r : Relation) → IsStanding sizes known before facts → IsSized sizes t → q ≡ get_or known (node_of t) q → r ≡ relation_of q t → IsToldBy sizes facts t r
told sizes known before facts q t r s z e f =
    told_by sizes facts q t r (known_at sizes known before facts (node_of t) q s z.0 e) z.1 f (subst (λ (x : Relation). IsTold q t x) (sym f) (relation_exact q t))

pub pushed_as : (sizes : List ℕ) (known before before' : List Term) (facts facts' : List Fact) (f : Fact) (n : ℕ) (q q' b met : Term) → IsStanding sizes known before facts → IsSized sizes f.term → n ≡ node_of f.term
    → q ≡ get_or known n q → q' ≡ get_or known n q' → met ≡ meet_of q f.term → b ≡ q' → before' ≡ before ++ b ∷ [] → facts' ≡ facts ++ f ∷ []
    → IsStanding sizes (slice_set known n met) before' facts'
pushed_as sizes known before before' facts facts' f n q q' b met s z en eq eq' em eb ebs efs =
    let i : n < length known = subst (λ (l : ℕ). n < l) (sym s.count) (subst (λ (k : ℕ). k < length sizes) (sym en) z.0) in
    let same' : q' ≡ q = same_Some q' q (sym (slice_get_read known (length known) n q' refl i eq') ∙ slice_get_read known (length known) n q refl i eq) in
    let r = pushed sizes known before facts f q s z (subst (λ (k : ℕ). q ≡ get_or known k q) en eq) in
    let r1 = subst (λ (k : ℕ). IsStanding sizes (slice_set known k (meet_of q f.term)) (before ++ q ∷ []) (facts ++ f ∷ [])) (sym en) r in
    let r2 = subst (λ (y : Term). IsStanding sizes (slice_set known n y) (before ++ q ∷ []) (facts ++ f ∷ [])) (sym em) r1 in
    let r3 = subst (λ (l : List Fact). IsStanding sizes (slice_set known n met) (before ++ q ∷ []) l) (sym efs) r2 in
    subst (λ (l : List Term). IsStanding sizes (slice_set known n met) l facts') (sym (ebs ∙ ap (λ (y : Term). before ++ y ∷ []) (eb ∙ same'))) r3

-- a fact is taken back
mirror_back : (facts : List Fact) (f : Fact) (n size : ℕ) (q : Term) → IsMirror (facts ++ f ∷ []) n size q → (node_of f.term ≡ n → ⊥) → IsMirror facts n size q
mirror_back facts f n size q m h = record { node = m.node; fits = m.fits; same = λ o. m.same o ∙ open_past facts f n o h }

pub popped : (sizes : List ℕ) (known before : List Term) (facts : List Fact) (f : Fact) (q : Term) → IsStanding sizes known (before ++ q ∷ []) (facts ++ f ∷ [])
    → IsStanding sizes (slice_set known (node_of f.term) q) before facts
popped sizes known before facts f q s =
    let m : ℕ = node_of f.term in
    let z = s.inside (length facts) f (get_last facts f) in
    let i : m < length known = subst (λ (l : ℕ). m < l) (sym s.count) z.0 in
    let al : length before ≡ length facts = (let a = s.aligned in let b = length-append before (q ∷ []) in let c = length-append facts (f ∷ []) in omega arith) in
    let last : slice_get (before ++ q ∷ []) (length facts) ≡ Some q = subst (λ (k : ℕ). slice_get (before ++ q ∷ []) k ≡ Some q) al (get_last before q) in
    let here : IsMirror facts m (get_or sizes m 0) q = subst (λ (l : List Fact). IsMirror l m (get_or sizes m 0) q) (take_front facts (f ∷ []) (length facts) (omega arith) ∙ take_whole facts) (s.undo (length facts) f q (get_last facts f) last) in
    record {
      count = length-set known m q ∙ s.count;
      mirror = λ n x g. elim (set_cases known m n q x i g) [
        | inl h ↦ subst (λ (k : ℕ). IsMirror facts k (get_or sizes k 0) x) (sym h.0) (subst (λ (y : Term). IsMirror facts m (get_or sizes m 0) y) (sym h.1) here)
        | inr h ↦ mirror_back facts f n (get_or sizes n 0) x (s.mirror n x h.1) (λ r. h.0 (sym r))
      ];
      aligned = al;
      undo = λ k g b eg eb. subst (λ (l : List Fact). IsMirror l (node_of g.term) (get_or sizes (node_of g.term) 0) b) (take_front facts (f ∷ []) k (let w = slice_get_within facts k g eg in omega arith)) (s.undo k g b (get_more facts (f ∷ []) g k eg) (get_more before (q ∷ []) b k eb));
      inside = λ k g eg. s.inside k g (get_more facts (f ∷ []) g k eg);
    }

pub popped_as : (sizes : List ℕ) (known before before' : List Term) (facts facts' : List Fact) (f : Fact) (n : ℕ) (q : Term) → IsStanding sizes known before facts → facts ≡ facts' ++ f ∷ [] → before ≡ before' ++ q ∷ [] → n ≡ node_of f.term
    → IsStanding sizes (slice_set known n q) before' facts'
popped_as sizes known before before' facts facts' f n q s ef eb en =
    let s1 = subst (λ (l : List Fact). IsStanding sizes known before l) ef s in
    let s2 = subst (λ (l : List Term). IsStanding sizes known l (facts' ++ f ∷ [])) eb s1 in
    subst (λ (k : ℕ). IsStanding sizes (slice_set known k q) before' facts') (sym en) (popped sizes known before' facts' f q s2)

pub before_at : (sizes : List ℕ) (known before : List Term) (facts : List Fact) (i : ℕ) (q : Term) → IsStanding sizes known before facts → i < length facts → q ≡ get_or before i q
    → (f : Fact) → slice_get facts i ≡ Some f → IsMirror (take i facts) (node_of f.term) (get_or sizes (node_of f.term) 0) q
before_at sizes known before facts i q s l e f g = s.undo i f q g (slice_get_read before (length facts) i q (sym s.aligned) l e)

-- the versions that are open
not_flip : (b : Bool) → cond b false true ≡ not b
not_flip true = refl
not_flip false = refl

all_has : (n v : ℕ) → v < n → has v (replicate n true) ≡ true
all_has zero v h = absurd (omega arith)
all_has (suc n) zero h = refl
all_has (suc n) (suc v) h = all_has n v (omega arith)

all_length : (n : ℕ) → length (replicate n true) ≡ n
all_length zero = refl
all_length (suc n) = ap suc (all_length n)

allowed_term : (q : Term) (size : ℕ) → length (set_of q) ≡ size → (length (versions_in q) ≡ size) × ((v : ℕ) → v < size → has v (versions_in q) ≡ allows q (Some v))
allowed_term (In n s) size e = (e, (λ v h. refl))
allowed_term (NotIn n s) size e = (
  length-less (replicate (length s) true) s ∙ (all_length (length s) ∙ e),
  (λ v h. has-less v (replicate (length s) true) s ∙ (ap (λ (b : Bool). cond (has v s) false b) (all_has (length s) v (omega arith)) ∙ not_flip (has v s))),
)

pub allowed_is : (sizes : List ℕ) (known before : List Term) (facts : List Fact) (n size : ℕ) (q : Term) (s : List Bool) → IsStanding sizes known before facts → n < length sizes → q ≡ get_or known n q → get_or sizes n 0 ≡ size → s ≡ versions_in q → IsAllowed facts n size s
allowed_is sizes known before facts n size q s st h e z g =
    let m = known_at sizes known before facts n q st h e in
    let a = allowed_term q size (m.fits ∙ z) in
    subst (IsAllowed facts n size) (sym g) (record { length_is = a.0; each = λ v l. a.1 v l ∙ m.same (Some v) })
