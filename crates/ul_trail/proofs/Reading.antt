-- Held steps, read beside what they say.
use Rattle.std.proofs.Common.{◌≡◌, ℕ, zero, suc, ◌+◌, List, [], ◌∷◌, ◌++◌, Bool, true, false, cond, not, Some, refl, ap, ◌∙◌, sym, subst, ◌<◌, ◌≤◌, inl, inr, arith, nat_lt, slice_get, get_or, length, append_assoc, length-append}
use Rattle.std.proofs.lemmas.Bool.{cases_eq, cases_lt, ne_eqb, eq-eqb, lt-ltb, le-ltb, true≢false}
use Rattle.std.proofs.lemmas.List.{append-nil}
use Rattle.std.proofs.lemmas.Option.{none-some, same_Some, slice_get-get_or, get_or_from_slice_get}
use Rattle.ul_ranges.specs.Flags.{is_blank}
use Rattle.ul_problem.specs.Plain.{Plain}
use Rattle.ul_problem.specs.Steps.{says, said_by}
use Rattle.ul_problem.specs.declared.term.Term.{Term}
use Rattle.ul_problem.specs.declared.step.Step.{Step}
use Rattle.ul_problem.specs.declared.step.Step.TheVariants.{Need as NeedStep, Python, Base, Cut}
use Rattle.ul_problem.proofs.ForCallers.{said_append}
use Rattle.ul_trail.specs.declared.held_steps.HeldSteps.{HeldSteps}
use Rattle.ul_trail.specs.HeldSteps.{need_of, is_read_off, step_read, steps_read, steps_in, ArePlaced, IsNumbered, HoldsAlso}
use Rattle.ul_trail.proofs.Places.{last_cases, get_last}

-- a need that says two terms is read off them
not_blank : (b : Bool) → not b ≡ true → b ≡ false
not_blank true h = absurd (true≢false (sym h))
not_blank false h = refl

pub need_read : (p : Plain) (s : Step) → is_read_off s ≡ true → need_of (says p s) ≡ s
need_read p (NeedStep n s m w) h = elim (cases_eq n m) [
  | inl e ↦ absurd (true≢false (sym (subst (λ (b : Bool). cond b false (not (is_blank w)) ≡ true) (eq-eqb n m e) h)))
  | inr d ↦ (let b : is_blank w ≡ false = not_blank (is_blank w) (subst (λ (x : Bool). cond x false (not (is_blank w)) ≡ true) (ne_eqb n m d) h) in
      elim (cases_lt n m) [
        | inl l ↦ (let e : nat_lt n m ≡ true = lt-ltb n m l in rw (e, b) refl)
        | inr l ↦ (let e : nat_lt n m ≡ false = le-ltb n m l in let f : nat_lt m n ≡ true = lt-ltb m n (omega arith) in rw (e, f, b) refl)
      ])
]
need_read p (Python n s) h = absurd (true≢false (sym h))
need_read p (Base n s) h = absurd (true≢false (sym h))
need_read p (Cut i j m ts) h = absurd (true≢false (sym h))

-- how many steps are read
pub read_length : (ks : List ℕ) (others : List Step) (terms : List (List Term)) → length (steps_read ks others terms) ≡ length ks
read_length [] others terms = refl
read_length (k ∷ ks) others [] = ap suc (read_length ks others [])
read_length (k ∷ ks) others (ts ∷ terms) = ap suc (read_length ks others terms)

-- the step at a place
pub read_at : (ks : List ℕ) (others : List Step) (terms : List (List Term)) (i k : ℕ) → slice_get ks i ≡ Some k → slice_get (steps_read ks others terms) i ≡ Some (step_read others (get_or terms i []) k)
read_at [] others terms i k e = absurd (none-some k e)
read_at (x ∷ ks) others [] zero k e = ap (λ (j : ℕ). Some (step_read others [] j)) (same_Some x k e)
read_at (x ∷ ks) others (ts ∷ terms) zero k e = ap (λ (j : ℕ). Some (step_read others ts j)) (same_Some x k e)
read_at (x ∷ ks) others [] (suc i) k e = read_at ks others [] i k e
read_at (x ∷ ks) others (ts ∷ terms) (suc i) k e = read_at ks others terms i k e

-- one step more
read_last : (ks : List ℕ) (k : ℕ) (others : List Step) (terms : List (List Term)) (ts : List Term) → length ks ≡ length terms → steps_read (ks ++ k ∷ []) others (terms ++ ts ∷ []) ≡ steps_read ks others terms ++ step_read others ts k ∷ []
read_last [] k others [] ts h = refl
read_last [] k others (us ∷ terms) ts h = absurd (omega arith)
read_last (x ∷ ks) k others [] ts h = absurd (omega arith)
read_last (x ∷ ks) k others (us ∷ terms) ts h = ap (λ (l : List Step). step_read others us x ∷ l) (read_last ks k others terms ts (omega arith))

-- other steps behind those that are read
get_or_front : {A : Type 0} (xs ys : List A) (i : ℕ) (d : A) → i < length xs → get_or (xs ++ ys) i d ≡ get_or xs i d
get_or_front [] ys i d h = absurd (omega arith)
get_or_front (x ∷ xs) ys zero d h = refl
get_or_front (x ∷ xs) ys (suc i) d h = get_or_front xs ys i d (omega arith)

step_more : (others more : List Step) (ts : List Term) (k : ℕ) → k ≤ length others → step_read (others ++ more) ts k ≡ step_read others ts k
step_more others more ts zero h = refl
step_more others more ts (suc k) h = get_or_front others more k (need_of ts) (omega arith)

read_more : (ks : List ℕ) (others more : List Step) (terms : List (List Term)) → ((i k : ℕ) → slice_get ks i ≡ Some k → k ≤ length others) → steps_read ks (others ++ more) terms ≡ steps_read ks others terms
read_more [] others more terms h = refl
read_more (x ∷ ks) others more [] h =
    ap (λ (s : Step). s ∷ steps_read ks (others ++ more) []) (step_more others more [] x (h 0 x refl)) ∙ ap (λ (l : List Step). step_read others [] x ∷ l) (read_more ks others more [] (λ i k e. h (suc i) k e))
read_more (x ∷ ks) others more (ts ∷ terms) h =
    ap (λ (s : Step). s ∷ steps_read ks (others ++ more) terms) (step_more others more ts x (h 0 x refl)) ∙ ap (λ (l : List Step). step_read others ts x ∷ l) (read_more ks others more terms (λ i k e. h (suc i) k e))

placed_last : (ks : List ℕ) (k : ℕ) (others more : List Step) (terms : List (List Term)) (ts : List Term) → k ≤ length (others ++ more) → ArePlaced ks others terms → ArePlaced (ks ++ k ∷ []) (others ++ more) (terms ++ ts ∷ [])
placed_last ks k others more terms ts l h = record {
  count = length-append ks (k ∷ []) ∙ (ap (λ (j : ℕ). j + 1) h.count ∙ sym (length-append terms (ts ∷ [])));
  within = λ i j e. elim (last_cases ks k j i e) [
    | inl x ↦ (let a = h.within i j x.1 in let b = length-append others more in omega arith)
    | inr x ↦ subst (λ (z : ℕ). z ≤ length (others ++ more)) (sym x.1) l
  ];
}

-- a step that is read off
pub off_held : (s : Step) (old now : HeldSteps) (k : ℕ) → is_read_off s ≡ true → k ≡ 0 → now.places.items ≡ old.places.items ++ k ∷ [] → now.others.items ≡ old.others.items → HoldsAlso (s ∷ []) old now
off_held s old now k r z e f p terms h =
    let ks : List ℕ = old.places.items in
    let os : List Step = old.others.items in
    let ep : now.places.items ≡ ks ++ 0 ∷ [] = e ∙ ap (λ (j : ℕ). ks ++ j ∷ []) z in
    let eo : now.others.items ≡ os ++ [] = f ∙ sym (append-nil os) in (
      subst (λ (x : List ℕ). ArePlaced x now.others.items (terms ++ says p s ∷ [])) (sym ep)
          (subst (λ (x : List Step). ArePlaced (ks ++ 0 ∷ []) x (terms ++ says p s ∷ [])) (sym eo) (placed_last ks 0 os [] terms (says p s) (omega arith) h)),
      ap (λ (x : List ℕ). steps_read x now.others.items (terms ++ says p s ∷ [])) ep
          ∙ (ap (λ (x : List Step). steps_read (ks ++ 0 ∷ []) x (terms ++ says p s ∷ [])) f
          ∙ (read_last ks 0 os terms (says p s) h.count ∙ ap (λ (x : Step). steps_read ks os terms ++ x ∷ []) (need_read p s r))),
    )

-- a step that is kept among the others
last_read : (others : List Step) (s : Step) (ts : List Term) → step_read (others ++ s ∷ []) ts (suc (length others)) ≡ s
last_read others s ts = get_or_from_slice_get (others ++ s ∷ []) (length others) s (need_of ts) (get_last others s)

pub other_held : (s : Step) (old now : HeldSteps) (k : ℕ) → k ≡ length old.others.items + 1 → now.places.items ≡ old.places.items ++ k ∷ [] → now.others.items ≡ old.others.items ++ s ∷ [] → HoldsAlso (s ∷ []) old now
other_held s old now k z e f p terms h =
    let ks : List ℕ = old.places.items in
    let os : List Step = old.others.items in
    let number : k ≡ suc (length os) = omega arith in
    let ep : now.places.items ≡ ks ++ suc (length os) ∷ [] = e ∙ ap (λ (j : ℕ). ks ++ j ∷ []) number in
    let l = length-append os (s ∷ []) in (
      subst (λ (x : List ℕ). ArePlaced x now.others.items (terms ++ says p s ∷ [])) (sym ep)
          (subst (λ (x : List Step). ArePlaced (ks ++ suc (length os) ∷ []) x (terms ++ says p s ∷ [])) (sym f) (placed_last ks (suc (length os)) os (s ∷ []) terms (says p s) (omega arith) h)),
      ap (λ (x : List ℕ). steps_read x now.others.items (terms ++ says p s ∷ [])) ep
          ∙ (ap (λ (x : List Step). steps_read (ks ++ suc (length os) ∷ []) x (terms ++ says p s ∷ [])) f
          ∙ (read_last ks (suc (length os)) (os ++ s ∷ []) terms (says p s) h.count
          ∙ (ap (λ (x : Step). steps_read ks (os ++ s ∷ []) terms ++ x ∷ []) (last_read os s (says p s))
          ∙ ap (λ (x : List Step). x ++ s ∷ []) (read_more ks os (s ∷ []) terms h.within)))),
    )

-- a step that has a number, which stands at the end
pub numbered_held : (s : Step) (old now : HeldSteps) (k : ℕ) → IsNumbered s old.others.items now.others.items k → now.places.items ≡ old.places.items ++ k ∷ [] → HoldsAlso (s ∷ []) old now
numbered_held s old now k n e = elim n [
  | inl h ↦ off_held s old now k h.0 h.1 e h.2
  | inr h ↦ other_held s old now k h.0 e h.1
]

pub held_join : (xs ys : List Step) (a b c : HeldSteps) → HoldsAlso xs a b → HoldsAlso ys b c → HoldsAlso (xs ++ ys) a c
held_join xs ys a b c g h p terms w =
    let first = g p terms w in
    let second = h p (terms ++ said_by p xs) first.0 in
    let e : (terms ++ said_by p xs) ++ said_by p ys ≡ terms ++ said_by p (xs ++ ys) = append_assoc terms (said_by p xs) (said_by p ys) ∙ ap (λ (l : List (List Term)). terms ++ l) (sym (said_append p xs ys)) in (
      subst (ArePlaced c.places.items c.others.items) e second.0,
      ap (steps_in c) (sym e) ∙ (second.1 ∙ (ap (λ (l : List Step). l ++ ys) first.1 ∙ append_assoc (steps_in a terms) xs ys)),
    )

-- the step at a place, as it is read
pub step_is : (ks : List ℕ) (others : List Step) (terms : List (List Term)) (i k : ℕ) (ts : List Term) (s : Step) → i < length ks → k ≡ get_or ks i 0 → ts ≡ get_or terms i [] → s ≡ step_read others ts k → slice_get (steps_read ks others terms) i ≡ Some s
step_is ks others terms i k ts s l e t g =
    read_at ks others terms i (get_or ks i 0) (slice_get-get_or ks i 0 l)
    ∙ ap Some (sym (g ∙ (ap (λ (x : List Term). step_read others x k) t ∙ ap (step_read others (get_or terms i [])) e)))

-- none is held
pub none_placed : (ks : List ℕ) (others : List Step) (terms : List (List Term)) → ks ≡ [] → terms ≡ [] → ArePlaced ks others terms
none_placed ks others terms e f = record { count = ap (λ (x : List ℕ). length x) e ∙ sym (ap (λ (x : List (List Term)). length x) f); within = λ i k g. absurd (none-some k (subst (λ (x : List ℕ). slice_get x i ≡ Some k) e g)) }

pub none_read : (ks : List ℕ) (others : List Step) (terms : List (List Term)) → ks ≡ [] → steps_read ks others terms ≡ []
none_read ks others terms e = ap (λ (x : List ℕ). steps_read x others terms) e
