-- A trail at its beginning.
use Rattle.std.proofs.Common.{◌≡◌, ℕ, zero, suc, ◌+◌, List, [], ◌∷◌, ◌++◌, Bool, true, false, cond, not, Option, Some, None, refl, ap, ◌∙◌, sym, subst, ◌<◌, ◌⊎◌, inl, inr, arith, nat_eq, slice_get, get_or, length, take, replicate, append_assoc, length-append}
use Rattle.std.proofs.lemmas.Bool.{cases_eq, ne_eqb, eqb-true}
use Rattle.std.proofs.lemmas.List.{append-nil}
use Rattle.std.proofs.lemmas.Option.{none-some, same_Some, slice_get_within}
use Rattle.ul_ranges.specs.Flags.{has}
use Rattle.ul_problem.specs.Terms.{allows}
use Rattle.ul_problem.specs.Plain.{Plain, size_of, needs_of}
use Rattle.std.specs.List.{Contains}
use Rattle.ul_problem.specs.Problems.{IsWellFormed, Increases, IncreasesFrom, PlaceBefore}
use Rattle.ul_problem.specs.Best.{Picks, is_decided, joined_needs, targets}
use Rattle.ul_problem.specs.declared.term.Term.{Term}
use Rattle.ul_problem.specs.declared.term.Term.TheVariants.{In, NotIn}
use Rattle.ul_problem.specs.declared.problem.NodeFacts.{NodeFacts}
use Rattle.ul_problem.proofs.ForCallers.{root_single, node_of_size, node_whole, place_one, at_head, in_rest, head_or_rest, in_none}
use Rattle.ul_trail.specs.declared.fact.Fact.{Fact}
use Rattle.ul_trail.specs.Facts.{is_open, one_of, picks_of, level_of, IsMirror}
use Rattle.ul_trail.specs.Counts.{size_list, sizes_of}
use Rattle.ul_trail.specs.Propagation.{IsTrailOf, AreDerivedAfter, AreLevels, root_fact, root_facts}
use Rattle.ul_trail.specs.Kept.{AreMarks}
use Rattle.ul_trail.specs.Roots.{root_picks}
use Rattle.ul_trail.proofs.Places.{last_cases, take_next}
use Rattle.ul_trail.proofs.Following.{one_has, one_first}

-- sizes
size_append : (fs : List NodeFacts) (f : NodeFacts) → size_list (fs ++ f ∷ []) ≡ size_list fs ++ length f.versions ∷ []
size_append [] f = refl
size_append (g ∷ fs) f = ap (λ (l : List ℕ). length g.versions ∷ l) (size_append fs f)

pub sizes_next : (p : Plain) (nodes : List NodeFacts) (i size : ℕ) (f : NodeFacts) (sizes now : List ℕ) → IsWellFormed p → nodes ≡ p.nodes → slice_get nodes i ≡ Some f → sizes ≡ size_list (take i nodes) → size ≡ length f.barred → now ≡ sizes ++ size ∷ [] → now ≡ size_list (take (i + 1) nodes)
sizes_next p nodes i size f sizes now wf e g s b n =
    let w = node_whole p i f wf (subst (λ (x : List NodeFacts). slice_get x i ≡ Some f) e g) in
    n ∙ (ap (λ (x : List ℕ). x ++ size ∷ []) s ∙ (ap (λ (k : ℕ). size_list (take i nodes) ++ k ∷ []) (b ∙ w.barred_size) ∙ sym (ap size_list (take_next nodes f i g) ∙ size_append (take i nodes) f)))

-- what is known of each node before any fact
has_none : (n v : ℕ) → has v (replicate n false) ≡ false
has_none zero v = refl
has_none (suc n) zero = refl
has_none (suc n) (suc v) = has_none n v

replicate_length : (n : ℕ) → length (replicate n false) ≡ n
replicate_length zero = refl
replicate_length (suc n) = ap suc (replicate_length n)

blank_mirror : (n size : ℕ) (s : List Bool) → s ≡ replicate size false → IsMirror [] n size (NotIn n s)
blank_mirror n size s e = record { node = refl; fits = ap (λ (x : List Bool). length x) e ∙ replicate_length size; same = λ o. ap (λ (x : List Bool). allows (NotIn n x) o) e ∙ blank o }
  where
    blank : (o : Option ℕ) → allows (NotIn n (replicate size false)) o ≡ true
    blank None = refl
    blank (Some v) = ap not (has_none size v)

pub record AreBlank (sizes : List ℕ) (known : List Term) (k : ℕ) : Type 0 where
  pub count : length known ≡ k
  pub mirror : (n : ℕ) (q : Term) → slice_get known n ≡ Some q → IsMirror [] n (get_or sizes n 0) q

pub blank_next : (sizes : List ℕ) (known now : List Term) (k : ℕ) (s : List Bool) → AreBlank sizes known k → s ≡ replicate (get_or sizes k 0) false → now ≡ known ++ NotIn k s ∷ [] → AreBlank sizes now (k + 1)
blank_next sizes known now k s h e n = subst (λ (x : List Term). AreBlank sizes x (k + 1)) (sym n) (record {
  count = length-append known (NotIn k s ∷ []) ∙ ap (λ (j : ℕ). j + 1) h.count;
  mirror = λ m q g. elim (last_cases known (NotIn k s) q m g) [
    | inl y ↦ h.mirror m q y.1
    | inr y ↦ (let i : k ≡ m = sym (y.0 ∙ h.count) in
        subst (λ (z : Term). IsMirror [] m (get_or sizes m 0) z) (sym y.1) (subst (λ (j : ℕ). IsMirror [] j (get_or sizes j 0) (NotIn k s)) i (blank_mirror k (get_or sizes k 0) s e)))
  ];
})

pub record AreEmpty (rows : List (List ℕ)) (k : ℕ) : Type 0 where
  pub count : length rows ≡ k
  pub each : (m : ℕ) → get_or rows m [] ≡ []

-- roots
inc_from : (x : ℕ) (ns : List ℕ) (k r : ℕ) → IncreasesFrom PlaceBefore x ns → slice_get ns k ≡ Some r → (x < r) × (is_decided r (root_picks (take k ns)) ≡ false)
inc_from x [] k r h e = absurd (none-some r e)
inc_from x (y ∷ ys) zero r h e = (subst (λ (z : ℕ). x < z) (same_Some y r e) h.0, refl)
inc_from x (y ∷ ys) (suc k) r h e =
    let i = inc_from y ys k r h.1 e in let a = i.0 in let b = h.0 in
    (omega arith, ap (λ (c : Bool). cond c true (is_decided r (root_picks (take k ys)))) (ne_eqb y r (λ q. omega arith)) ∙ i.1)

pub root_undecided : (ns : List ℕ) (k r : ℕ) → Increases PlaceBefore ns → slice_get ns k ≡ Some r → is_decided r (root_picks (take k ns)) ≡ false
root_undecided [] k r h e = absurd (none-some r e)
root_undecided (y ∷ ys) zero r h e = refl
root_undecided (y ∷ ys) (suc k) r h e =
    let i = inc_from y ys k r h e in let a = i.0 in
    ap (λ (c : Bool). cond c true (is_decided r (root_picks (take k ys)))) (ne_eqb y r (λ q. omega arith)) ∙ i.1

pub root_there : (p : Plain) (k r : ℕ) → IsWellFormed p → slice_get p.roots k ≡ Some r → (r < length p.nodes) × (size_of p r ≡ 1)
root_there p k r wf e =
    let s = root_single p r wf (place_one p.roots k r e) in
    let f = node_of_size p r 0 (omega arith) in
    (slice_get_within p.nodes r f.0 f.1, s)

pub facts_snoc : (p : Plain) (ns : List ℕ) (n : ℕ) → root_facts p (ns ++ n ∷ []) ≡ root_facts p ns ++ root_fact p n ∷ []
facts_snoc p [] n = refl
facts_snoc p (x ∷ ns) n = ap (λ (l : List Fact). root_fact p x ∷ l) (facts_snoc p ns n)

pub picks_snoc : (ns : List ℕ) (n : ℕ) → root_picks (ns ++ n ∷ []) ≡ root_picks ns ++ (n, 0) ∷ []
picks_snoc [] n = refl
picks_snoc (x ∷ ns) n = ap (λ (l : Picks). (x, 0) ∷ l) (picks_snoc ns n)

wanted_snoc : (p : Plain) (d : Picks) (n v : ℕ) → joined_needs p (d ++ (n, v) ∷ []) ≡ joined_needs p d ++ targets (needs_of p n v)
wanted_snoc p [] n v = append-nil (targets (needs_of p n v))
wanted_snoc p (e ∷ d) n v = ap (λ (l : List ℕ). targets (needs_of p e.0 e.1) ++ l) (wanted_snoc p d n v) ∙ sym (append_assoc (targets (needs_of p e.0 e.1)) (joined_needs p d) (targets (needs_of p n v)))

pub facts_next : (p : Plain) (roots : List ℕ) (k r : ℕ) (facts now : List Fact) → slice_get roots k ≡ Some r → facts ≡ root_facts p (take k roots) → now ≡ facts ++ root_fact p r ∷ [] → now ≡ root_facts p (take (k + 1) roots)
facts_next p roots k r facts now e f n = n ∙ (ap (λ (x : List Fact). x ++ root_fact p r ∷ []) f ∙ sym (ap (root_facts p) (take_next roots r k e) ∙ facts_snoc p (take k roots) r))

pub picks_next : (roots : List ℕ) (k r : ℕ) (picks now : Picks) → slice_get roots k ≡ Some r → picks ≡ root_picks (take k roots) → now ≡ picks ++ (r, 0) ∷ [] → now ≡ root_picks (take (k + 1) roots)
picks_next roots k r picks now e f n = n ∙ (ap (λ (x : Picks). x ++ (r, 0) ∷ []) f ∙ sym (ap root_picks (take_next roots r k e) ∙ picks_snoc (take k roots) r))

pub queue_next : (p : Plain) (roots : List ℕ) (k r : ℕ) (queue now : List ℕ) → slice_get roots k ≡ Some r → queue ≡ p.roots ++ joined_needs p (root_picks (take k roots)) → now ≡ queue ++ targets (needs_of p r 0) → now ≡ p.roots ++ joined_needs p (root_picks (take (k + 1) roots))
queue_next p roots k r queue now e f n =
    n ∙ (ap (λ (x : List ℕ). x ++ targets (needs_of p r 0)) f ∙ (append_assoc p.roots (joined_needs p (root_picks (take k roots))) (targets (needs_of p r 0))
    ∙ ap (λ (x : List ℕ). p.roots ++ x) (sym (ap (λ (d : Picks). joined_needs p d) (ap root_picks (take_next roots r k e) ∙ picks_snoc (take k roots) r) ∙ wanted_snoc p (root_picks (take k roots)) r 0))))

-- the trail
has_one : (k : ℕ) (ns : List ℕ) → Contains ns k ⊎ (Contains ns k → ⊥)
has_one k [] = inr (λ h. in_none k h)
has_one k (n ∷ ns) = elim (cases_eq n k) [
  | inl e ↦ inl (at_head n ns k e)
  | inr d ↦ elim (has_one k ns) [ inl h ↦ inl (in_rest n ns k h) | inr h ↦ inr (λ x. neither d h x) ]
]
  where
    neither : (n ≡ k → ⊥) → (Contains ns k → ⊥) → Contains (n ∷ ns) k → ⊥
    neither d h x = elim (head_or_rest n ns k x) [ inl e ↦ d e | inr e ↦ h e ]

roots_open : (p : Plain) (ns : List ℕ) (k : ℕ) (o : Option ℕ) → (Contains ns k → ⊥) → is_open (root_facts p ns) k o ≡ true
roots_open p [] k o h = refl
roots_open p (n ∷ ns) k o h =
    ap (λ (b : Bool). cond b (cond (allows (In n (one_of (size_of p n) 0)) o) (is_open (root_facts p ns) k o) false) (is_open (root_facts p ns) k o)) (ne_eqb n k (λ e. h (at_head n ns k e)))
    ∙ roots_open p ns k o (λ x. h (in_rest n ns k x))

roots_first : (p : Plain) (ns : List ℕ) (k : ℕ) → 0 < size_of p k → is_open (root_facts p ns) k (Some 0) ≡ true
roots_first p [] k h = refl
roots_first p (n ∷ ns) k h = which (nat_eq n k) refl (roots_first p ns k h)
  where
    which : (b : Bool) → nat_eq n k ≡ b → is_open (root_facts p ns) k (Some 0) ≡ true → cond b (cond (has 0 (one_of (size_of p n) 0)) (is_open (root_facts p ns) k (Some 0)) false) (is_open (root_facts p ns) k (Some 0)) ≡ true
    which true e i = let z : has 0 (one_of (size_of p n) 0) ≡ true = one_has (size_of p n) 0 (subst (λ (j : ℕ). 0 < size_of p j) (sym (eqb-true n k e)) h) in rw (z, i) refl
    which false e i = i

roots_alive : (p : Plain) (k : ℕ) → IsWellFormed p → (o : Option ℕ) × (is_open (root_facts p p.roots) k o ≡ true)
roots_alive p k wf = elim (has_one k p.roots) [
  | inl h ↦ (let s = root_single p k wf h in (Some 0, roots_first p p.roots k (omega arith)))
  | inr h ↦ (None, roots_open p p.roots k None h)
]

roots_derived : (p : Plain) (earlier : List Fact) (ns : List ℕ) → ((n : ℕ) → Contains ns n → size_of p n ≡ 1) → AreDerivedAfter p [] earlier (root_facts p ns)
roots_derived p earlier [] h = tt
roots_derived p earlier (n ∷ ns) h = ((n, 0, (let s = h n (at_head n ns n refl) in omega arith), refl), roots_derived p (earlier ++ root_fact p n ∷ []) ns (λ m i. h m (in_rest n ns m i)))

roots_levels : (p : Plain) (ns : List ℕ) → AreLevels 0 (root_facts p ns)
roots_levels p [] = tt
roots_levels p (n ∷ ns) = (omega arith, roots_levels p ns)

roots_level : (p : Plain) (ns : List ℕ) → level_of (root_facts p ns) ≡ 0
roots_level p [] = refl
roots_level p (n ∷ ns) = let e = roots_level p ns in omega arith

pub root_level : (p : Plain) (ns : List ℕ) (i : ℕ) (f : Fact) → slice_get (root_facts p ns) i ≡ Some f → f.level ≡ 0
root_level p [] i f e = absurd (none-some f e)
root_level p (n ∷ ns) zero f e = sym (ap (λ (y : Fact). y.level) (same_Some (root_fact p n) f e))
root_level p (n ∷ ns) (suc i) f e = root_level p ns i f e

pub roots_picks : (p : Plain) (ns : List ℕ) → ((n : ℕ) → Contains ns n → size_of p n ≡ 1) → picks_of (root_facts p ns) ≡ root_picks ns
roots_picks p [] h = refl
roots_picks p (n ∷ ns) h =
    let s = h n (at_head n ns n refl) in
    ap (λ (v : ℕ). (n, v) ∷ picks_of (root_facts p ns)) (one_first (size_of p n) 0 (omega arith)) ∙ ap (λ (l : Picks). (n, 0) ∷ l) (roots_picks p ns (λ m i. h m (in_rest n ns m i)))

pub rooted_trail : (p : Plain) → IsWellFormed p → IsTrailOf p (record { steps = []; terms = []; facts = root_facts p p.roots; sizes = sizes_of p; width = length p.nodes; queue = p.roots ++ joined_needs p (root_picks p.roots); turns = []; whole = true })
rooted_trail p wf =
    let single : (n : ℕ) → Contains p.roots n → size_of p n ≡ 1 = (λ n i. root_single p n wf i) in
    record {
      whole = refl;
      follow = record { right = tt; forbidden = λ k s e. absurd (none-some s e); derived = roots_derived p [] p.roots single; levels = roots_levels p p.roots };
      said = refl;
      sizes = refl;
      width = refl;
      queue = ap (λ (d : Picks). p.roots ++ joined_needs p d) (sym (roots_picks p p.roots single));
      turns = λ l q e. absurd (none-some q e);
      levels = sym (roots_level p p.roots);
      raised = record { at = λ i f e c l. absurd (let z = root_level p p.roots i f e in omega arith) };
      alive = record { at = λ n. roots_alive p n wf };
      begun = record { rest = []; is = sym (append-nil (root_facts p p.roots)); later = tt };
    }

pub no_marks : (terms : List (List Term)) (facts : List Fact) (picks : Picks) (queue : List ℕ) → AreMarks terms facts picks queue []
no_marks terms facts picks queue = record { at = λ l m e. absurd (none-some m e); rise = λ l k m n h e f. absurd (none-some m e) }

pub rooted_level : (p : Plain) → level_of (root_facts p p.roots) ≡ 0
rooted_level p = roots_level p p.roots
