-- Opened versions, and what facts make certain.
use Rattle.std.proofs.Common.{◌≡◌, ℕ, zero, suc, ◌+◌, List, [], ◌∷◌, ◌++◌, Bool, true, false, cond, Option, Some, None, refl, ap, ◌∙◌, sym, subst, ◌<◌, ◌≤◌, inl, inr, arith, nat_le, nat_lt, length, slice_get, slice_set, get_or, take, drop, replicate}
use Rattle.std.specs.List.{Contains}
use Rattle.std.proofs.lemmas.Bool.{cases_eq, cases_lt, le-leb, lt-leb, true≢false}
use Rattle.std.proofs.lemmas.Option.{none-some, same_Some}
use Rattle.std.proofs.lemmas.List.{get_or-set_same, get_or-set_other, length-set, length-replicate, take-append-drop}
use Rattle.ul_ranges.specs.Flags.{has, either, set_of}
use Rattle.ul_ranges.proofs.ForCallers.{has-either, length-either, length-set_of}
use Rattle.ul_problem.specs.Terms.{node_of, allows, meet_of}
use Rattle.ul_problem.specs.Plain.{Plain, size_of, base_of, size_in}
use Rattle.ul_problem.specs.Steps.{says, pair_of, term_to_say, with_term, base_or}
use Rattle.ul_problem.specs.Best.{Picks}
use Rattle.ul_problem.specs.declared.term.Term.{Term}
use Rattle.ul_problem.specs.declared.term.Term.TheVariants.{In, NotIn}
use Rattle.ul_problem.specs.declared.problem.Need.{Need}
use Rattle.ul_problem.specs.declared.problem.NodeFacts.{NodeFacts}
use Rattle.ul_problem.specs.declared.step.Step.{Step}
use Rattle.ul_problem.specs.declared.step.Step.TheVariants.{Need as NeedStep, Base}
use Rattle.ul_problem.proofs.ForCallers.{allows-meet, node_of_size, one_cases, one_right, head_or_rest, in_none, place_one}
use Rattle.ul_trail.specs.Track.{Track}
use Rattle.ul_trail.specs.declared.fact.Fact.{Fact}
use Rattle.ul_trail.specs.Facts.{is_open, IsHeld, AreHeld, one_of, picks_of, up_to, level_of}
use Rattle.ul_trail.specs.Propagation.{IsTrailOf, IsAlive}
use Rattle.ul_trail.specs.Certain.{IsCertainAt}
use Rattle.ul_trail.specs.First.{steps_for, version_steps_in, version_steps, base_steps, need_steps}
use Rattle.ul_trail.specs.Moves.{HasSteps, HasVersionSteps}
use Rattle.ul_trail.proofs.ForCallers.{append_within, front_of, get_cases, open_past, take_next, version_has, version_more, pythons_more, one_has, one_only, one_set, one_length, pick_fact, held_in}
use Rattle.ul_solver.specs.Opened.{AreClosedTo, AreLooked, AreOpened, all_closed, closed_in, is_opened}
use Rattle.ul_solver.specs.State.{IsState, IsSteered}

-- ---- fronts of facts

longer : (c : Bool) (f : Fact) (xs ys : List Fact) → length xs ≤ length ys → length xs ≤ length (cond c (f ∷ ys) ys)
longer true f xs ys h = omega arith
longer false f xs ys h = h

pub up_to_length : (l m : ℕ) (fs : List Fact) → l ≤ m → length (up_to l fs) ≤ length (up_to m fs)
up_to_length l m [] h = omega arith
up_to_length l m (f ∷ fs) h = elim (cases_lt l f.level) [
  | inl high ↦ (let e : nat_le f.level l ≡ false = lt-leb f.level l high in rw e (longer (nat_le f.level m) f (up_to l fs) (up_to m fs) (up_to_length l m fs h)))
  | inr low ↦ (let e : nat_le f.level l ≡ true = le-leb f.level l low in let d : nat_le f.level m ≡ true = le-leb f.level m (omega arith) in let i = up_to_length l m fs h in rw (e, d) (omega (arith, i)))
]

front_within : (k : ℕ) (xs ys : List Fact) → length xs ≤ k → (rest : List Fact) × (take k (xs ++ ys) ≡ xs ++ rest)
front_within k [] ys h = (take k ys, refl)
front_within zero (x ∷ xs) ys h = absurd (omega arith)
front_within (suc k) (x ∷ xs) ys h = let r = front_within k xs ys (omega arith) in (r.0, ap (λ (l : List Fact). x ∷ l) r.1)

held_behind : (xs ys : List Fact) (t : Term) → IsHeld xs t → IsHeld (xs ++ ys) t
held_behind xs ys t h o e = h o (append_within xs ys (node_of t) o e)

held_front : (k : ℕ) (xs ys : List Fact) (t : Term) → length xs ≤ k → IsHeld xs t → IsHeld (take k (xs ++ ys)) t
held_front k xs ys t low h = let r = front_within k xs ys low in subst (λ (l : List Fact). IsHeld l t) (sym r.1) (held_behind xs r.0 t h)

held_whole : (k : ℕ) (fs : List Fact) (t : Term) → IsHeld (take k fs) t → IsHeld fs t
held_whole k fs t h = subst (λ (l : List Fact). IsHeld l t) (take-append-drop k fs) (held_behind (take k fs) (drop k fs) t h)

-- what is certain at a lower level is opened
pub below_opened : (p : Plain) (t : Track) (rows : List (List Bool)) (k l n v : ℕ) → IsTrailOf p t → AreLooked p t rows k → length (up_to l t.facts) ≤ k → v < size_of p n → IsHeld (up_to l t.facts) (In n (one_of (size_of p n) v)) → is_opened rows n v ≡ true
below_opened p t rows k l n v w looked low small h =
    let f = front_of l 0 t.facts w.follow.levels in
    looked.certain n v small (subst (λ (fs : List Fact). IsHeld (take k fs) (In n (one_of (size_of p n) v))) (sym f.1) (held_front k (up_to l t.facts) f.0 (In n (one_of (size_of p n) v)) low h))

-- ---- the steps of a version are held at no level below which it isn't opened

first_true : (b c : Bool) → cond b c false ≡ true → b ≡ true
first_true true c h = refl
first_true false c h = h

met_first : (facts : List Fact) (n : ℕ) (s : List Bool) (u : Term) → AreHeld facts (with_term (term_to_say (meet_of (In n s) u)) []) → IsHeld facts (In n s)
met_first facts n s (In m w) h o e = first_true (allows (In n s) o) (allows (In m w) o) (sym (allows-meet (In n s) (In m w) o) ∙ h.0 o e)
met_first facts n s (NotIn m w) h o e = first_true (allows (In n s) o) (allows (NotIn m w) o) (sym (allows-meet (In n s) (NotIn m w) o) ∙ h.0 o e)

behind_first : (facts : List Fact) (n : ℕ) (s : List Bool) (o : Option Term) → AreHeld facts (with_term o (In n s ∷ [])) → IsHeld facts (In n s)
behind_first facts n s None h = h.0
behind_first facts n s (Some x) h = h.1.0

pair_first : (facts : List Fact) (n : ℕ) (s : List Bool) (u : Term) → AreHeld facts (pair_of (In n s) u) → IsHeld facts (In n s)
pair_first facts n s u h = which (nat_lt n (node_of u)) (nat_lt (node_of u) n) h
  where
    which : (b c : Bool)
        → AreHeld facts (cond b (with_term (term_to_say (In n s)) (with_term (term_to_say u) [])) (cond c (with_term (term_to_say u) (with_term (term_to_say (In n s)) [])) (with_term (term_to_say (meet_of (In n s) u)) [])))
        → IsHeld facts (In n s)
    which true c i = i.0
    which false true i = behind_first facts n s (term_to_say u) i
    which false false i = met_first facts n s u i

base_first : (p : Plain) (facts : List Fact) (n : ℕ) (w : List Bool) (o : Option ℕ) (s : Step) → Contains (base_steps n w o) s → AreHeld facts (says p s) → IsHeld facts (In n w)
base_first p facts n w None s i h = absurd (in_none s i)
base_first p facts n w (Some b) s i h = elim (head_or_rest (Base n w) [] s i) [
  | inl e ↦ pair_first facts n w (NotIn (base_or (base_of p n) n) w) (subst (λ (y : Step). AreHeld facts (says p y)) (sym e) h)
  | inr r ↦ absurd (in_none s r)
]

need_first : (p : Plain) (facts : List Fact) (n : ℕ) (w : List Bool) (needs : List Need) (s : Step) → Contains (need_steps n w needs) s → AreHeld facts (says p s) → IsHeld facts (In n w)
need_first p facts n w [] s i h = absurd (in_none s i)
need_first p facts n w (x ∷ xs) s i h = elim (head_or_rest (NeedStep n w x.node x.permitted) (need_steps n w xs) s i) [
  | inl e ↦ pair_first facts n w (NotIn x.node x.permitted) (subst (λ (y : Step). AreHeld facts (says p y)) (sym e) h)
  | inr r ↦ need_first p facts n w xs s r h
]

pub step_first : (p : Plain) (facts : List Fact) (n v : ℕ) (s : Step) → v < size_of p n → Contains (steps_for p n v) s → AreHeld facts (says p s) → IsHeld facts (In n (one_of (size_of p n) v))
step_first p facts n v s small i h =
    let f = node_of_size p n v small in
    let es : size_of p n ≡ length f.0.versions = ap size_in f.1 in
    let ef : steps_for p n v ≡ version_steps f.0 n v = ap (λ (o : Option NodeFacts). version_steps_in o n v) f.1 in
    subst (λ (z : ℕ). IsHeld facts (In n (one_of z v))) (sym es)
    (elim (one_cases s (base_steps n (one_of (length f.0.versions) v) f.0.base) (need_steps n (one_of (length f.0.versions) v) (get_or f.0.needs v [])) (subst (λ (l : List Step). Contains l s) ef i)) [
      | inl b ↦ base_first p facts n (one_of (length f.0.versions) v) f.0.base s b h
      | inr r ↦ need_first p facts n (one_of (length f.0.versions) v) (get_or f.0.needs v []) s r h
    ])

-- ---- one version more

pub one_least : (x y : Bool) → cond (cond x true y) 0 1 ≤ cond x 0 1
one_least true y = omega arith
one_least false true = omega arith
one_least false false = omega arith

either_le : (s t : List Bool) → length s ≡ length t → closed_in (either s t) ≤ closed_in s
either_le [] [] e = omega arith
either_le [] (y ∷ t) e = absurd (omega (arith, e))
either_le (x ∷ s) [] e = omega arith
either_le (x ∷ s) (y ∷ t) e = let i = either_le s t (omega (arith, e)) in let o = one_least x y in omega (arith, i, o)

pub either_less : (s t : List Bool) (v : ℕ) → length s ≡ length t → has v s ≡ false → has v t ≡ true → closed_in (either s t) < closed_in s
either_less [] [] v e a b = absurd (true≢false (sym b))
either_less [] (y ∷ t) v e a b = absurd (omega (arith, e))
either_less (x ∷ s) [] v e a b = absurd (true≢false (sym b))
either_less (x ∷ s) (y ∷ t) zero e a b = let i = either_le s t (omega (arith, e)) in rw (a, b) (omega (arith, i))
either_less (x ∷ s) (y ∷ t) (suc v) e a b = let i = either_less s t v (omega (arith, e)) a b in let o = one_least x y in omega (arith, i, o)

pub set_closed : (rows : List (List Bool)) (n : ℕ) (row : List Bool) → n < length rows → closed_in row < closed_in (get_or rows n []) → all_closed (slice_set rows n row) < all_closed rows
set_closed [] n row low h = absurd (omega arith)
set_closed (r ∷ rs) zero row low h = omega (arith, h)
set_closed (r ∷ rs) (suc n) row low h = let i = set_closed rs n row (omega arith) h in omega (arith, i)

-- the rows with a version more
pub record IsRowWith (p : Plain) (rows : List (List Bool)) (n v : ℕ) (row : List Bool) : Type 0 where
  pub there : n < length p.nodes
  pub small : v < size_of p n
  pub is : row ≡ either (get_or rows n []) (set_of (size_of p n) (v ∷ []))

is_row : (p : Plain) (rows : List (List Bool)) (n v : ℕ) (row : List Bool) → IsRowWith p rows n v row → row ≡ either (get_or rows n []) (one_of (size_of p n) v)
is_row p rows n v row r = r.is ∙ ap (λ (t : List Bool). either (get_or rows n []) t) (one_set (size_of p n) v r.small)

same_length : (p : Plain) (steps : List Step) (rows : List (List Bool)) (n v : ℕ) (row : List Bool) → AreOpened p steps rows → IsRowWith p rows n v row → length (get_or rows n []) ≡ length (one_of (size_of p n) v)
same_length p steps rows n v row are r = are.sizes n r.there ∙ sym (one_length (size_of p n) v)

row_has : (p : Plain) (rows : List (List Bool)) (n v w : ℕ) (row : List Bool) → IsRowWith p rows n v row → has w row ≡ cond (has w (get_or rows n [])) true (has w (one_of (size_of p n) v))
row_has p rows n v w row r = ap (has w) (is_row p rows n v row r) ∙ has-either w (get_or rows n []) (one_of (size_of p n) v)

pub row_less : (p : Plain) (steps : List Step) (rows : List (List Bool)) (n v : ℕ) (row : List Bool) → AreOpened p steps rows → IsRowWith p rows n v row → is_opened rows n v ≡ false → all_closed (slice_set rows n row) < all_closed rows
row_less p steps rows n v row are r closed =
    let count = are.count in let there = r.there in
    set_closed rows n row (omega arith)
    (subst (λ (l : List Bool). closed_in l < closed_in (get_or rows n [])) (sym (is_row p rows n v row r))
    (either_less (get_or rows n []) (one_of (size_of p n) v) v (same_length p steps rows n v row are r) closed (one_has (size_of p n) v r.small)))

either_cases : (b c : Bool) → cond b true c ≡ true → (b ≡ true → ⊥) → c ≡ true
either_cases true c h z = absurd (z refl)
either_cases false c h z = h

true_cond : (b c : Bool) → b ≡ true → cond b true c ≡ true
true_cond true c e = refl
true_cond false c e = absurd (true≢false (sym e))

cond_same : (b : Bool) → cond b true true ≡ true
cond_same true = refl
cond_same false = refl

-- what is opened stays so, and the version is
pub row_more : (p : Plain) (steps : List Step) (rows : List (List Bool)) (n v : ℕ) (row : List Bool) → AreOpened p steps rows → IsRowWith p rows n v row → (m w : ℕ) → is_opened rows m w ≡ true → is_opened (slice_set rows n row) m w ≡ true
row_more p steps rows n v row are r m w h = elim (cases_eq m n) [
  | inl e ↦ (let count = are.count in let there = r.there in let low : n < length rows = omega arith in
      subst (λ (k : ℕ). is_opened (slice_set rows n row) k w ≡ true) (sym e) (ap (has w) (get_or-set_same rows n row [] low) ∙ (row_has p rows n v w row r ∙ true_cond (has w (get_or rows n [])) (has w (one_of (size_of p n) v)) (subst (λ (k : ℕ). is_opened rows k w ≡ true) e h))))
  | inr d ↦ ap (has w) (get_or-set_other rows n m row [] d) ∙ h
]

pub row_there : (p : Plain) (steps : List Step) (rows : List (List Bool)) (n v : ℕ) (row : List Bool) → AreOpened p steps rows → IsRowWith p rows n v row → is_opened (slice_set rows n row) n v ≡ true
row_there p steps rows n v row are r =
    let count = are.count in let there = r.there in let low : n < length rows = omega arith in
    ap (has v) (get_or-set_same rows n row [] low) ∙ (row_has p rows n v v row r ∙ (ap (λ (b : Bool). cond (has v (get_or rows n [])) true b) (one_has (size_of p n) v r.small) ∙ cond_same (has v (get_or rows n []))))

opened_either : (p : Plain) (steps : List Step) (rows : List (List Bool)) (n v w : ℕ) (row : List Bool) (b : Bool) → AreOpened p steps rows → IsRowWith p rows n v row → has w (get_or rows n []) ≡ b → has w row ≡ true → HasVersionSteps p (steps ++ steps_for p n v) n w
opened_either p steps rows n v w row true are r e h = version_more p n w steps (steps_for p n v) (are.held n w e)
opened_either p steps rows n v w row false are r e h =
    let one : has w (one_of (size_of p n) v) ≡ true = either_cases (has w (get_or rows n [])) (has w (one_of (size_of p n) v)) (sym (row_has p rows n v w row r) ∙ h) (λ z. true≢false (sym z ∙ e)) in
    let same : w ≡ v = one_only (size_of p n) v w one in
    subst (λ (k : ℕ). HasVersionSteps p (steps ++ steps_for p n v) n k) (sym same) (version_has p n v (steps ++ steps_for p n v) r.small (λ s i. one_right s steps (steps_for p n v) i))

pub rows_opened : (p : Plain) (steps now : List Step) (rows : List (List Bool)) (n v : ℕ) (row : List Bool) → AreOpened p steps rows → IsRowWith p rows n v row → now ≡ steps ++ steps_for p n v → AreOpened p now (slice_set rows n row)
rows_opened p steps now rows n v row are r e =
    let count = are.count in let there = r.there in let low : n < length rows = omega arith in
    record {
      count = length-set rows n row ∙ count;
      sizes = λ m l. elim (cases_eq m n) [
        | inl s ↦ subst (λ (k : ℕ). length (get_or (slice_set rows n row) k []) ≡ size_of p k) (sym s) (ap (λ (x : List Bool). length x) (get_or-set_same rows n row [] low ∙ is_row p rows n v row r) ∙ (length-either (get_or rows n []) (one_of (size_of p n) v) (same_length p steps rows n v row are r) ∙ are.sizes n there))
        | inr d ↦ ap (λ (x : List Bool). length x) (get_or-set_other rows n m row [] d) ∙ are.sizes m l
      ];
      held = λ m w h. subst (λ (ss : List Step). HasVersionSteps p ss m w) (sym e) (elim (cases_eq m n) [
        | inl s ↦ (let here : is_opened (slice_set rows n row) n w ≡ true = subst (λ (k : ℕ). is_opened (slice_set rows n row) k w ≡ true) s h in
            subst (λ (k : ℕ). HasVersionSteps p (steps ++ steps_for p n v) k w) (sym s) (opened_either p steps rows n v w row (has w (get_or rows n [])) are r refl (sym (ap (has w) (get_or-set_same rows n row [] low)) ∙ here)))
        | inr d ↦ version_more p m w steps (steps_for p n v) (are.held m w (sym (ap (has w) (get_or-set_other rows n m row [] d)) ∙ h))
      ]);
    }

-- more steps
pub opened_more : (p : Plain) (steps more now : List Step) (rows : List (List Bool)) → AreOpened p steps rows → now ≡ steps ++ more → AreOpened p now rows
opened_more p steps more now rows are e = record {
  count = are.count;
  sizes = are.sizes;
  held = λ n v h. subst (λ (ss : List Step). HasVersionSteps p ss n v) (sym e) (version_more p n v steps more (are.held n v h));
}

-- a row as it is read
other_default : (xs : List (List Bool)) (n : ℕ) (d : List Bool) → n < length xs → get_or xs n d ≡ get_or xs n []
other_default [] n d h = absurd (omega arith)
other_default (x ∷ xs) zero d h = refl
other_default (x ∷ xs) (suc n) d h = other_default xs n d (omega arith)

row_read : (p : Plain) (steps : List Step) (rows : List (List Bool)) (n : ℕ) (old : List Bool) → AreOpened p steps rows → n < length p.nodes → old ≡ get_or rows n old → old ≡ get_or rows n []
row_read p steps rows n old are there e = let count = are.count in e ∙ other_default rows n old (omega arith)

pub row_opened : (p : Plain) (steps : List Step) (rows : List (List Bool)) (n v : ℕ) (old : List Bool) (b c : Bool) → AreOpened p steps rows → n < length p.nodes → old ≡ get_or rows n old → b ≡ has v old → b ≡ c → is_opened rows n v ≡ c
row_opened p steps rows n v old b c are there e h i = ap (has v) (sym (row_read p steps rows n old are there e)) ∙ (sym h ∙ i)

pub row_lengths : (p : Plain) (steps : List Step) (rows : List (List Bool)) (n v size : ℕ) (old one : List Bool) → AreOpened p steps rows → n < length p.nodes → old ≡ get_or rows n old → size ≡ size_of p n → one ≡ set_of size (v ∷ []) → length old ≡ length one
row_lengths p steps rows n v size old one are there e s o =
    ap (λ (x : List Bool). length x) (row_read p steps rows n old are there e) ∙ (are.sizes n there ∙ (sym s ∙ (sym (length-set_of size (v ∷ [])) ∙ ap (λ (x : List Bool). length x) (sym o))))

pub row_with : (p : Plain) (steps : List Step) (rows : List (List Bool)) (n v size : ℕ) (old one row : List Bool) → AreOpened p steps rows → n < length p.nodes → v < size_of p n → old ≡ get_or rows n old → size ≡ size_of p n → one ≡ set_of size (v ∷ []) → row ≡ either old one → IsRowWith p rows n v row
row_with p steps rows n v size old one row are there small e s o r = record {
  there = there;
  small = small;
  is = r ∙ (ap (λ (x : List Bool). either x one) (row_read p steps rows n old are there e) ∙ (ap (λ (x : List Bool). either (get_or rows n []) x) o ∙ ap (λ (z : ℕ). either (get_or rows n []) (set_of z (v ∷ []))) s));
}

-- ---- facts that are looked at

pub fact_at : (fs : List Fact) (k : ℕ) → k < length fs → (f : Fact) × (slice_get fs k ≡ Some f)
fact_at [] k h = absurd (omega arith)
fact_at (f ∷ fs) zero h = (f, refl)
fact_at (f ∷ fs) (suc k) h = fact_at fs k (omega arith)

-- where more is opened, and no fact is new
pub looked_more : (p : Plain) (t u : Track) (rows now : List (List Bool)) (k : ℕ) → AreLooked p t rows k → u.facts ≡ t.facts → ((m w : ℕ) → is_opened rows m w ≡ true → is_opened now m w ≡ true) → AreLooked p u now k
looked_more p t u rows now k looked same more = record {
  within = subst (λ (fs : List Fact). k ≤ length fs) (sym same) looked.within;
  certain = λ n v small h. more n v (looked.certain n v small (subst (λ (fs : List Fact). IsHeld (take k fs) (In n (one_of (size_of p n) v))) same h));
  lower = subst (λ (fs : List Fact). (l : ℕ) → l < level_of fs → length (up_to l fs) ≤ k) (sym same) looked.lower;
}

-- of one fact more
pub looked_next : (p : Plain) (t : Track) (rows : List (List Bool)) (k : ℕ) (f : Fact) → AreLooked p t rows k → slice_get t.facts k ≡ Some f → k < length t.facts
    → ((w : ℕ) → w < size_of p (node_of f.term) → IsHeld t.facts (In (node_of f.term) (one_of (size_of p (node_of f.term)) w)) → is_opened rows (node_of f.term) w ≡ true) → AreLooked p t rows (k + 1)
looked_next p t rows k f looked at low each = record {
  within = omega arith;
  certain = λ n v small h. elim (cases_eq (node_of f.term) n) [
    | inl e ↦ subst (λ (m : ℕ). is_opened rows m v ≡ true) e (each v (subst (λ (m : ℕ). v < size_of p m) (sym e) small) (subst (λ (m : ℕ). IsHeld t.facts (In m (one_of (size_of p m) v))) (sym e) (held_whole (k + 1) t.facts (In n (one_of (size_of p n) v)) h)))
    | inr d ↦ looked.certain n v small (λ o i. h o (ap (λ (fs : List Fact). is_open fs n o) (take_next t.facts f k at) ∙ (open_past (take k t.facts) f n o d ∙ i)))
  ];
  lower = λ l i. (let a = looked.lower l i in omega arith);
}

no_version : (n : ℕ) (s : List Bool) → allows (In n s) None ≡ true → ⊥
no_version n s h = true≢false (sym h)

held_version : (facts : List Fact) (n size v : ℕ) (o : Option ℕ) → IsHeld facts (In n (one_of size v)) → is_open facts n o ≡ true → o ≡ Some v
held_version facts n size v None h e = absurd (no_version n (one_of size v) (h None e))
held_version facts n size v (Some k) h e = ap Some (one_only size v k (h (Some k) e))

one_certain : (facts : List Fact) (n size v w : ℕ) → IsAlive facts → IsHeld facts (In n (one_of size v)) → IsHeld facts (In n (one_of size w)) → w ≡ v
one_certain facts n size v w alive h i = let a = alive.at n in same_Some w v (sym (held_version facts n size w a.0 i a.1) ∙ held_version facts n size v a.0 h a.1)

-- a fact of whose node nothing is certain, and one of whose node an opened version is
pub looked_none : (p : Plain) (t : Track) (rows : List (List Bool)) (k : ℕ) (f : Fact) → AreLooked p t rows k → slice_get t.facts k ≡ Some f → k < length t.facts → IsCertainAt p t.facts k None → AreLooked p t rows (k + 1)
looked_none p t rows k f looked at low none = looked_next p t rows k f looked at low (λ w small h. absurd (none f w at h))

pub looked_one : (p : Plain) (t : Track) (rows : List (List Bool)) (k n v : ℕ) (f : Fact) → AreLooked p t rows k → slice_get t.facts k ≡ Some f → k < length t.facts → IsAlive t.facts → IsCertainAt p t.facts k (Some (n, v)) → is_opened rows n v ≡ true
    → AreLooked p t rows (k + 1)
looked_one p t rows k n v f looked at low alive one opened =
    let node : node_of f.term ≡ n = one.0 f at in
    looked_next p t rows k f looked at low
    (λ w small h. (let held : IsHeld t.facts (In n (one_of (size_of p n) w)) = subst (λ (m : ℕ). IsHeld t.facts (In m (one_of (size_of p m) w))) node h in
    let same : w ≡ v = one_certain t.facts n (size_of p n) v w alive one.3 held in
    subst (λ (m : ℕ). is_opened rows m w ≡ true) (sym node) (subst (λ (x : ℕ). is_opened rows n x ≡ true) (sym same) opened)))

-- where all facts are looked at, the steps of each decided version are held
pub picks_held : (p : Plain) (t : Track) (rows : List (List Bool)) (k : ℕ) → IsState p t → AreOpened p t.steps rows → AreLooked p t rows k → k ≡ length t.facts → HasSteps p (picks_of t.facts) t.steps
picks_held p t rows k st are looked all = record {
  versions = λ n v i. (let f = pick_fact p t.steps [] t.facts n v st.right.follow.derived i in
      let held : IsHeld t.facts (In n (one_of (size_of p n) v)) = held_in p t.facts n v (one_of (size_of p n) v) f (one_has (size_of p n) v f.0) in
      are.held n v (looked.certain n v f.0 (subst (λ (fs : List Fact). IsHeld fs (In n (one_of (size_of p n) v))) (sym (whole k t.facts all)) held)));
  pythons = st.pythons;
}
  where
    whole : (j : ℕ) (fs : List Fact) → j ≡ length fs → take j fs ≡ fs
    whole j [] e = rw e refl
    whole zero (x ∷ fs) e = absurd (omega (arith, e))
    whole (suc j) (x ∷ fs) e = ap (λ (l : List Fact). x ∷ l) (whole j fs (omega (arith, e)))

-- ---- none is opened

has_false : (n v : ℕ) → has v (replicate n false) ≡ false
has_false zero v = refl
has_false (suc n) zero = refl
has_false (suc n) (suc v) = has_false n v

left_at : (xs ys : List (List Bool)) (i : ℕ) → i < length xs → get_or (xs ++ ys) i [] ≡ get_or xs i []
left_at [] ys i h = absurd (omega arith)
left_at (x ∷ xs) ys zero h = refl
left_at (x ∷ xs) ys (suc i) h = left_at xs ys i (omega arith)

last_at : (xs : List (List Bool)) (x : List Bool) (i : ℕ) → length xs ≡ i → get_or (xs ++ x ∷ []) i [] ≡ x
last_at [] x zero h = refl
last_at [] x (suc i) h = absurd (omega (arith, h))
last_at (y ∷ xs) x zero h = absurd (omega (arith, h))
last_at (y ∷ xs) x (suc i) h = last_at xs x i (omega (arith, h))

closed_has : (p : Plain) (k n v : ℕ) (rows : List (List Bool)) → AreClosedTo p k rows → is_opened rows n v ≡ false
closed_has p k n v rows c = elim (cases_lt n k) [
  | inl low ↦ ap (has v) (c.each n low) ∙ has_false (size_of p n) v
  | inr high ↦ ap (has v) (past rows n (let count = c.count in omega arith))
]
  where
    past : (rs : List (List Bool)) (m : ℕ) → length rs ≤ m → get_or rs m [] ≡ []
    past [] m l = refl
    past (r ∷ rs) zero l = absurd (omega arith)
    past (r ∷ rs) (suc m) l = past rs m (omega arith)

pub closed_opened : (p : Plain) (steps : List Step) (rows : List (List Bool)) → AreClosedTo p (length p.nodes) rows → AreOpened p steps rows
closed_opened p steps rows c = record {
  count = c.count;
  sizes = λ n low. ap (λ (l : List Bool). length l) (c.each n low) ∙ length-replicate (size_of p n) false;
  held = λ n v h. absurd (true≢false (sym h ∙ closed_has p (length p.nodes) n v rows c));
}

pub none_looked : (p : Plain) (t : Track) (rows : List (List Bool)) (k : ℕ) → k ≡ 0 → level_of t.facts ≡ 0 → AreLooked p t rows k
none_looked p t rows k e z = subst (AreLooked p t rows) (sym e) (record {
  within = omega arith;
  certain = λ n v small h. absurd (no_version n (one_of (size_of p n) v) (h None refl));
  lower = λ l i. absurd (omega (arith, z));
})
