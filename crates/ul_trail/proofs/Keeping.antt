-- A trail stays one of the problem's.
use Rattle.std.proofs.Common.{◌≡◌, ℕ, zero, suc, List, [], ◌∷◌, ◌++◌, true, false, Option, Some, None, refl, ap, sym, subst, ◌<◌, ◌≤◌, ◌⊎◌, inl, inr, arith, nat_le, slice_get, append_assoc}
use Rattle.std.proofs.lemmas.List.{append-nil}
use Rattle.std.proofs.lemmas.Bool.{le-leb, lt-leb, cases_lt}
use Rattle.ul_problem.specs.Plain.{Plain}
use Rattle.ul_problem.specs.Steps.{AreRightAfter}
use Rattle.ul_problem.specs.declared.term.Term.{Term}
use Rattle.ul_problem.specs.declared.step.Step.{Step}
use Rattle.ul_trail.specs.Track.{Track}
use Rattle.ul_trail.specs.declared.fact.Fact.{Fact}
use Rattle.ul_trail.specs.Facts.{up_to, level_of}
use Rattle.ul_trail.specs.Propagation.{IsDerived, AreDerivedAfter, AreLevels, AreForbidden, Follow}
use Rattle.ul_trail.proofs.Following.{derived_left}

-- places of two lists
pub get_cases : {A : Type 0} (xs ys : List A) (x : A) (k : ℕ) → slice_get (xs ++ ys) k ≡ Some x → (slice_get xs k ≡ Some x) ⊎ ((j : ℕ) × (slice_get ys j ≡ Some x))
get_cases [] ys x k h = inr (k, h)
get_cases (z ∷ xs) ys x zero h = inl h
get_cases (z ∷ xs) ys x (suc k) h = get_cases xs ys x k h

-- the facts up to a level are the first ones
pub none_up_to : (l low : ℕ) (fs : List Fact) → AreLevels low fs → l < low → up_to l fs ≡ []
none_up_to l low [] h i = refl
none_up_to l low (f ∷ fs) h i = let e : nat_le f.level l ≡ false = lt-leb f.level l (omega (arith, h.0)) in rw e (none_up_to l f.level fs h.1 (omega (arith, h.0)))

pub front_of : (l low : ℕ) (fs : List Fact) → AreLevels low fs → (rest : List Fact) × (fs ≡ up_to l fs ++ rest)
front_of l low [] h = ([], refl)
front_of l low (f ∷ fs) h = elim (cases_lt l f.level) [
  | inl high ↦ (let e : nat_le f.level l ≡ false = lt-leb f.level l high in let g = none_up_to l f.level fs h.1 high in (f ∷ fs, rw (e, g) refl))
  | inr low' ↦ (let e : nat_le f.level l ≡ true = le-leb f.level l low' in let r = front_of l f.level fs h.1 in (r.0, rw e (ap (λ (z : List Fact). f ∷ z) r.1)))
]

-- more steps
pub right_join : (p : Plain) (earlier xs ys : List Step) → AreRightAfter p earlier xs → AreRightAfter p (earlier ++ xs) ys → AreRightAfter p earlier (xs ++ ys)
right_join p earlier [] ys h i = subst (λ (l : List Step). AreRightAfter p l ys) (append-nil earlier) i
right_join p earlier (x ∷ xs) ys h i = (h.0, right_join p (earlier ++ x ∷ []) xs ys h.1 (subst (λ (l : List Step). AreRightAfter p l ys) (sym (append_assoc earlier (x ∷ []) xs)) i))

get_left : {A : Type 0} (xs ys : List A) (x : A) (k : ℕ) → slice_get xs k ≡ Some x → slice_get (xs ++ ys) k ≡ Some x
get_left [] ys x k h = cc
get_left (z ∷ xs) ys x zero h = h
get_left (z ∷ xs) ys x (suc k) h = get_left xs ys x k h

derived_steps : (p : Plain) (steps learned : List Step) (earlier : List Fact) (t : Term) (c : Option ℕ) → IsDerived p steps earlier t c → IsDerived p (steps ++ learned) earlier t c
derived_steps p steps learned earlier t None h = h
derived_steps p steps learned earlier t (Some c) h = (h.0, h.1, get_left steps learned h.0 c h.2, h.3, h.4)

all_derived_steps : (p : Plain) (steps learned : List Step) (earlier fs : List Fact) → AreDerivedAfter p steps earlier fs → AreDerivedAfter p (steps ++ learned) earlier fs
all_derived_steps p steps learned earlier [] h = tt
all_derived_steps p steps learned earlier (f ∷ fs) h = (derived_steps p steps learned earlier f.term f.cause h.0, all_derived_steps p steps learned (earlier ++ f ∷ []) fs h.1)

pub levels_left : (low : ℕ) (xs ys : List Fact) → AreLevels low (xs ++ ys) → AreLevels low xs
levels_left low [] ys h = tt
levels_left low (x ∷ xs) ys h = (h.0, levels_left x.level xs ys h.1)

levels_push : (low : ℕ) (fs : List Fact) (f : Fact) → AreLevels low fs → low ≤ f.level → level_of fs ≤ f.level → AreLevels low (fs ++ f ∷ [])
levels_push low [] f h i j = (i, tt)
levels_push low (x ∷ fs) f h i j = (h.0, levels_push x.level fs f h.1 (omega arith) (omega arith))

derived_push : (p : Plain) (steps : List Step) (earlier fs : List Fact) (f : Fact) → AreDerivedAfter p steps earlier fs → IsDerived p steps (earlier ++ fs) f.term f.cause → AreDerivedAfter p steps earlier (fs ++ f ∷ [])
derived_push p steps earlier [] f h i = (subst (λ (l : List Fact). IsDerived p steps l f.term f.cause) (append-nil earlier) i, tt)
derived_push p steps earlier (x ∷ fs) f h i = (h.0, derived_push p steps (earlier ++ x ∷ []) fs f h.1 (subst (λ (l : List Fact). IsDerived p steps l f.term f.cause) (sym (append_assoc earlier (x ∷ []) fs)) i))

pub follow_push : (p : Plain) (steps : List Step) (facts : List Fact) (f : Fact) → Follow p steps facts → IsDerived p steps facts f.term f.cause → level_of facts ≤ f.level → Follow p steps (facts ++ f ∷ [])
follow_push p steps facts f w d l = record {
  right = w.right;
  forbidden = w.forbidden;
  derived = derived_push p steps [] facts f w.derived d;
  levels = levels_push 0 facts f w.levels (omega arith) l;
}

pub trail_push : (p : Plain) (t : Track) (f : Fact) → Follow p t.steps t.facts → IsDerived p t.steps t.facts f.term f.cause → level_of t.facts ≤ f.level → Follow p t.steps (t.facts ++ f ∷ [])
trail_push p t f = follow_push p t.steps t.facts f

pub follow_back : (p : Plain) (steps learned : List Step) (facts : List Fact) (level : ℕ) → Follow p steps facts → AreRightAfter p steps learned → AreForbidden p learned → Follow p (steps ++ learned) (up_to level facts)
follow_back p steps learned facts level w r f =
    let first = front_of level 0 facts w.levels in
    record {
      right = right_join p [] steps learned w.right r;
      forbidden = λ k s e. elim (get_cases steps learned s k e) [ inl i ↦ w.forbidden k s i | inr i ↦ f i.0 s i.1 ];
      derived = all_derived_steps p steps learned [] (up_to level facts) (derived_left p steps [] (up_to level facts) first.0 (subst (λ (l : List Fact). AreDerivedAfter p steps [] l) first.1 w.derived));
      levels = levels_left 0 (up_to level facts) first.0 (subst (AreLevels 0) first.1 w.levels);
    }

pub trail_back : (p : Plain) (t : Track) (level : ℕ) (learned : List Step) → Follow p t.steps t.facts → AreRightAfter p t.steps learned → AreForbidden p learned → Follow p (t.steps ++ learned) (up_to level t.facts)
trail_back p t level learned = follow_back p t.steps learned t.facts level
