-- A walk over the row of a fact's node.
use Rattle.std.proofs.Common.{◌≡◌, ℕ, suc, ◌+◌, ◌-◌, ◌*◌, List, [], ◌∷◌, ◌++◌, Bool, true, false, not, Option, Some, refl, ap, ◌∙◌, sym, subst, ◌<◌, ◌≤◌, ◌⊎◌, inl, inr, arith, slice_get, get_or, length, drop, append_assoc, length-append, zero}
use Rattle.std.proofs.lemmas.Bool.{cases_eq}
use Rattle.std.proofs.lemmas.List.{append-nil}
use Rattle.std.proofs.lemmas.Option.{same_Some, slice_get_read, slice_get-get_or, get_or_from_slice_get, slice_get_within}
use Rattle.std.specs.List.{Contains}
use Rattle.ul_problem.proofs.ForCallers.{place_one, head_or_rest, in_none}
use Rattle.ul_problem.specs.Terms.{node_of, allows, is_among, negation}
use Rattle.ul_problem.specs.declared.term.Term.TheVariants.{In, NotIn}
use Rattle.ul_problem.specs.declared.term.Term.{Term}
use Rattle.ul_trail.specs.declared.fact.Fact.{Fact}
use Rattle.ul_trail.specs.Counts.{open_in}
use Rattle.ul_trail.specs.Facts.{is_open}
use Rattle.ul_trail.specs.Propagation.{IsOption}
use Rattle.ul_trail.specs.Standing.{IsCalm, IsPending, IsSettled, IsForced, AreForced, HasForced, IsFresh, IsStanding, HasConflict}
use Rattle.ul_trail.specs.Watched.{IsWatched, has_term, places_on}
use Rattle.ul_trail.specs.Findings.{IsCalmAt, HasForcedOne, IsSettlement, IsWalked}
use Rattle.ul_trail.proofs.Places.{drop_get}
use Rattle.ul_trail.proofs.Settling.{IsStill, still_push, settled_push, forced_pending, places_has, places_within, settled_next, negation_node}
use Rattle.ul_trail.proofs.Levels.{new_lowers}

-- facts that have grown
pub forced_none : (sizes : List ℕ) (terms : List (List Term)) (level : ℕ) (facts : List Fact) → HasForced sizes terms level facts facts
forced_none sizes terms level facts = record { more = []; is = sym (append-nil facts); forced = tt }

forced_last : (sizes : List ℕ) (terms : List (List Term)) (level : ℕ) (earlier more : List Fact) (f : Fact) → AreForced sizes terms level earlier more → IsForced sizes terms level (earlier ++ more) f → AreForced sizes terms level earlier (more ++ f ∷ [])
forced_last sizes terms level earlier [] f h i = (subst (λ (l : List Fact). IsForced sizes terms level l f) (append-nil earlier) i, tt)
forced_last sizes terms level earlier (x ∷ xs) f h i = (h.0, forced_last sizes terms level (earlier ++ x ∷ []) xs f h.1 (subst (λ (l : List Fact). IsForced sizes terms level l f) (sym (append_assoc earlier (x ∷ []) xs)) i))

pub forced_more : (sizes : List ℕ) (terms : List (List Term)) (level k : ℕ) (start old now : List Fact) → HasForced sizes terms level start old → HasForcedOne sizes terms level k old now → HasForced sizes terms level start now
forced_more sizes terms level k start old now g h = record {
  more = g.more ++ h.fact ∷ [];
  is = h.is ∙ (ap (λ (l : List Fact). l ++ h.fact ∷ []) g.is ∙ append_assoc start g.more (h.fact ∷ []));
  forced = forced_last sizes terms level start g.more h.fact g.forced (subst (λ (l : List Fact). IsForced sizes terms level l h.fact) g.is h.forced);
}

all_join : (sizes : List ℕ) (terms : List (List Term)) (level : ℕ) (earlier xs ys : List Fact) → AreForced sizes terms level earlier xs → AreForced sizes terms level (earlier ++ xs) ys → AreForced sizes terms level earlier (xs ++ ys)
all_join sizes terms level earlier [] ys h i = subst (λ (l : List Fact). AreForced sizes terms level l ys) (append-nil earlier) i
all_join sizes terms level earlier (x ∷ xs) ys h i = (h.0, all_join sizes terms level (earlier ++ x ∷ []) xs ys h.1 (subst (λ (l : List Fact). AreForced sizes terms level l ys) (sym (append_assoc earlier (x ∷ []) xs)) i))

pub forced_join : (sizes : List ℕ) (terms : List (List Term)) (level : ℕ) (a b c : List Fact) → HasForced sizes terms level a b → HasForced sizes terms level b c → HasForced sizes terms level a c
forced_join sizes terms level a b c g h = record {
  more = g.more ++ h.more;
  is = h.is ∙ (ap (λ (l : List Fact). l ++ h.more) g.is ∙ append_assoc a g.more h.more);
  forced = all_join sizes terms level a g.more h.more g.forced (subst (λ (l : List Fact). AreForced sizes terms level l h.more) g.is h.forced);
}

-- what a walk has still to look at
pub record IsWalking (facts : List Fact) (terms : List (List Term)) (seen checked : ℕ) (row : List ℕ) : Type 0 where
  pub at : (k : ℕ) (ts : List Term) → k < checked → slice_get terms k ≡ Some ts → IsStill facts (suc seen) ts ⊎ Contains row k

later : (facts : List Fact) (f : Fact) (terms : List (List Term)) (seen k : ℕ) (ts : List Term) → slice_get facts seen ≡ Some f → slice_get terms k ≡ Some ts → IsStill facts seen ts → IsStill facts (suc seen) ts ⊎ Contains (places_on (node_of f.term) terms) k
later facts f terms seen k ts e g (inl h) = inl (inl h)
later facts f terms seen k ts e g (inr h) = elim (cases_eq h.place seen) [
  | inl s ↦ (let same : f ≡ h.fact = same_Some f h.fact (sym e ∙ subst (λ (i : ℕ). slice_get facts i ≡ Some h.fact) s h.is) in
      inr (places_has (node_of f.term) 0 k k terms ts g (subst (λ (x : Fact). has_term (node_of x.term) ts ≡ true) (sym same) h.on) (omega arith)))
  | inr n ↦ inl (inr (record { place = h.place; fact = h.fact; is = h.is; late = let a = h.late in omega arith; on = h.on }))
]

pub walking_start : (facts : List Fact) (f : Fact) (terms : List (List Term)) (seen checked : ℕ) (row : List ℕ) → slice_get facts seen ≡ Some f → row ≡ places_on (node_of f.term) terms → IsSettled facts terms seen checked → IsWalking facts terms seen checked row
walking_start facts f terms seen checked row e r h = record { at = λ k ts c g. subst (λ (l : List ℕ). IsStill facts (suc seen) ts ⊎ Contains l k) (sym r) (later facts f terms seen k ts e g (h.at k ts c g)) }

next_calm : (facts : List Fact) (terms : List (List Term)) (seen k k' : ℕ) (row : List ℕ) (ts : List Term) → IsCalmAt terms facts k → slice_get terms k' ≡ Some ts → IsStill facts (suc seen) ts ⊎ Contains (k ∷ row) k' → IsStill facts (suc seen) ts ⊎ Contains row k'
next_calm facts terms seen k k' row ts c e (inl h) = inl h
next_calm facts terms seen k k' row ts c e (inr i) = elim (head_or_rest k row k' i) [
  | inl s ↦ inl (inl (subst (IsCalm facts) (same_Some c.list ts (sym c.is ∙ subst (λ (j : ℕ). slice_get terms j ≡ Some ts) (sym s) e)) c.calm))
  | inr h ↦ inr h
]

next_forced : (sizes : List ℕ) (facts now : List Fact) (terms : List (List Term)) (level seen k k' : ℕ) (row : List ℕ) (ts : List Term) → HasForcedOne sizes terms level k facts now → seen < length facts → slice_get terms k' ≡ Some ts
    → IsStill facts (suc seen) ts ⊎ Contains (k ∷ row) k' → IsStill now (suc seen) ts ⊎ Contains row k'
next_forced sizes facts now terms level seen k k' row ts c l e (inl h) = inl (subst (λ (x : List Fact). IsStill x (suc seen) ts) (sym c.is) (still_push facts c.fact (suc seen) ts (omega arith) h))
next_forced sizes facts now terms level seen k k' row ts c l e (inr i) = elim (head_or_rest k row k' i) [
  | inl s ↦ (
      let same : c.forced.list ≡ ts = same_Some c.forced.list ts (sym c.forced.is ∙ subst (λ (j : ℕ). slice_get terms j ≡ Some ts) (sym (c.place ∙ s)) e) in
      inl (inr (subst (λ (x : List Fact). IsPending x (suc seen) ts) (sym c.is) (subst (IsPending (facts ++ c.fact ∷ []) (suc seen)) same (forced_pending sizes terms level facts c.fact (suc seen) c.forced (omega arith))))))
  | inr h ↦ inr h
]

-- what the loop of a walk keeps
pub record Walks (sizes : List ℕ) (known before : List Term) (terms : List (List Term)) (level seen checked : ℕ) (start facts : List Fact) (row : List ℕ) (i : ℕ) : Type 0 where
  pub standing : IsStanding sizes known before facts
  pub grown : HasForced sizes terms level start facts
  pub more : seen < length facts
  pub kept : IsSettled facts terms seen checked
  pub walking : IsWalking facts terms seen checked (drop i row)

pub walks_next : (sizes : List ℕ) (known before known' before' : List Term) (terms : List (List Term)) (level seen checked : ℕ) (start old now : List Fact) (row : List ℕ) (i k : ℕ) → Walks sizes known before terms level seen checked start old row i
    → IsStanding sizes known' before' now → slice_get row i ≡ Some k → IsSettlement sizes terms level k old now false → Walks sizes known' before' terms level seen checked start now row (i + 1)
walks_next sizes known before known' before' terms level seen checked start old now row i k w s e (inl h) = record {
  standing = s;
  grown = subst (HasForced sizes terms level start) (sym h.0) w.grown;
  more = subst (λ (l : List Fact). seen < length l) (sym h.0) w.more;
  kept = subst (λ (l : List Fact). IsSettled l terms seen checked) (sym h.0) w.kept;
  walking = subst (λ (l : List Fact). IsWalking l terms seen checked (drop (i + 1) row)) (sym h.0)
      (record { at = λ k' ts c g. next_calm old terms seen k k' (drop (i + 1) row) ts h.1 g (subst (λ (l : List ℕ). IsStill old (suc seen) ts ⊎ Contains l k') (drop_get row k i e) (w.walking.at k' ts c g)) });
}
walks_next sizes known before known' before' terms level seen checked start old now row i k w s e (inr h) = record {
  standing = s;
  grown = forced_more sizes terms level k start old now w.grown h;
  more = subst (λ (l : List Fact). seen < length l) (sym h.is) (let a = length-append old (h.fact ∷ []) in let b = w.more in omega arith);
  kept = subst (λ (l : List Fact). IsSettled l terms seen checked) (sym h.is) (settled_push old h.fact terms seen checked (let b = w.more in omega arith) w.kept);
  walking = record { at = λ k' ts c g. next_forced sizes old now terms level seen k k' (drop (i + 1) row) ts h w.more g (subst (λ (l : List ℕ). IsStill old (suc seen) ts ⊎ Contains l k') (drop_get row k i e) (w.walking.at k' ts c g)) };
}

ended : (facts : List Fact) (seen k : ℕ) (ts : List Term) → IsStill facts (suc seen) ts ⊎ Contains [] k → IsStill facts (suc seen) ts
ended facts seen k ts (inl h) = h
ended facts seen k ts (inr h) = absurd (in_none k h)

pub walks_end : (facts : List Fact) (terms : List (List Term)) (seen checked : ℕ) (row : List ℕ) → IsWalking facts terms seen checked row → row ≡ [] → IsSettled facts terms (suc seen) checked
walks_end facts terms seen checked row h e = record { at = λ k ts c g. ended facts seen k ts (subst (λ (l : List ℕ). IsStill facts (suc seen) ts ⊎ Contains l k) e (h.at k ts c g)) }

-- a row's places
pub row_within : (n k i : ℕ) (row : List ℕ) (terms : List (List Term)) → row ≡ places_on n terms → slice_get row i ≡ Some k → k < length terms
row_within n k i row terms e g = let a = places_within n 0 k terms (place_one (places_on n terms) i k (subst (λ (l : List ℕ). slice_get l i ≡ Some k) e g)) in omega arith

pub row_is : (sizes : List ℕ) (known before : List Term) (facts : List Fact) (terms : List (List Term)) (rows : List (List ℕ)) (seen n : ℕ) (f : Fact) (x v w : List ℕ) → IsStanding sizes known before facts → IsWatched terms rows → length rows ≡ length sizes
    → seen < length facts → f ≡ get_or facts seen f → n ≡ node_of f.term → x ≡ get_or rows n x → v ≡ x → w ≡ v → w ≡ places_on n terms
row_is sizes known before facts terms rows seen n f x v w s h e l g m r p q =
    let z = s.inside seen f (slice_get_read facts (length facts) seen f refl l g) in
    let b : n < length rows = subst (λ (k : ℕ). n < k) (sym e) (subst (λ (k : ℕ). k < length sizes) (sym m) z.0) in
    q ∙ (p ∙ (sym (get_or_from_slice_get rows n x [] (slice_get_read rows (length rows) n x refl b r)) ∙ h.row n b))

pub walks_start : (sizes : List ℕ) (known before : List Term) (facts : List Fact) (terms : List (List Term)) (level seen checked n : ℕ) (f : Fact) (row : List ℕ) → IsStanding sizes known before facts → seen < length facts → f ≡ get_or facts seen f → n ≡ node_of f.term
    → IsSettled facts terms seen checked → row ≡ places_on n terms → Walks sizes known before terms level seen checked facts facts row 0
walks_start sizes known before facts terms level seen checked n f row s l g m h r = record {
  standing = s;
  grown = forced_none sizes terms level facts;
  more = l;
  kept = h;
  walking = walking_start facts f terms seen checked row (slice_get_read facts (length facts) seen f refl l g) (subst (λ (k : ℕ). row ≡ places_on k terms) m r) h;
}

pub walks_next_as : (s0 s1 s2 : List ℕ) (known before known' before' : List Term) (terms : List (List Term)) (level seen checked : ℕ) (start old now : List Fact) (row : List ℕ) (i : ℕ) (b : Bool) → s1 ≡ s0 → s2 ≡ s1 → Walks s0 known before terms level seen checked start old row i
    → IsStanding s2 known' before' now → i < length row → b ≡ false → IsSettlement s1 terms level (get_or row i 0) old now b → Walks s0 known' before' terms level seen checked start now row (i + 1)
walks_next_as s0 s1 s2 known before known' before' terms level seen checked start old now row i b e f w s l g h =
    walks_next s0 known before known' before' terms level seen checked start old now row i (get_or row i 0) w
    (subst (λ (z : List ℕ). IsStanding z known' before' now) (f ∙ e) s) (slice_get-get_or row i 0 l)
    (subst (λ (z : List ℕ). IsSettlement z terms level (get_or row i 0) old now false) e (subst (IsSettlement s1 terms level (get_or row i 0) old now) g h))

pub row_place : (n i : ℕ) (row : List ℕ) (terms read : List (List Term)) → row ≡ places_on n terms → i < length row → read ≡ terms → get_or row i 0 < length read
row_place n i row terms read e l r = subst (λ (x : List (List Term)). get_or row i 0 < length x) (sym r) (row_within n (get_or row i 0) i row terms e (slice_get-get_or row i 0 l))

pub row_there : (sizes : List ℕ) (known before : List Term) (facts : List Fact) (rows : List (List ℕ)) (seen n : ℕ) (f : Fact) → IsStanding sizes known before facts → length rows ≡ length sizes
    → seen < length facts → f ≡ get_or facts seen f → n ≡ node_of f.term → n < length rows
row_there sizes known before facts rows seen n f s e l g m =
    let z = s.inside seen f (slice_get_read facts (length facts) seen f refl l g) in
    subst (λ (k : ℕ). n < k) (sym e) (subst (λ (k : ℕ). k < length sizes) (sym m) z.0)

-- a list that is held is a conflict
pub held_conflict : (sizes : List ℕ) (terms read : List (List Term)) (level k : ℕ) (old now : List Fact) (b : Bool) → read ≡ terms → b ≡ true → IsSettlement sizes read level k old now b → (now ≡ old) × HasConflict terms now k
held_conflict sizes terms read level k old now b r e h =
    let held = subst (IsSettlement sizes read level k old now) e h in
    (held.0, subst (λ (t : List (List Term)). HasConflict t now k) r (subst (λ (fs : List Fact). HasConflict read fs k) (sym held.0) held.1))

-- a walk ends at a list that is held, or after the last place of the row
pub walks_held : (s0 s1 : List ℕ) (known before : List Term) (terms read : List (List Term)) (level seen checked k : ℕ) (start old now : List Fact) (row : List ℕ) (i : ℕ) (b : Bool) → Walks s0 known before terms level seen checked start old row i
    → read ≡ terms → b ≡ true → IsSettlement s1 read level k old now b → IsWalked terms seen checked now (Some k) × HasForced s0 terms level start now
walks_held s0 s1 known before terms read level seen checked k start old now row i b w r e h =
    let held = held_conflict s1 terms read level k old now b r e h in (
      (held.1, subst (λ (fs : List Fact). IsSettled fs terms seen checked) (sym held.0) w.kept),
      subst (HasForced s0 terms level start) (sym held.0) w.grown,
    )

none_dropped : (row : List ℕ) (i : ℕ) → length row ≤ i → drop i row ≡ []
none_dropped [] zero h = refl
none_dropped [] (suc i) h = refl
none_dropped (x ∷ row) zero h = absurd (omega arith)
none_dropped (x ∷ row) (suc i) h = none_dropped row i (omega arith)

pub walks_done : (sizes : List ℕ) (known before : List Term) (terms : List (List Term)) (level seen checked : ℕ) (start facts : List Fact) (row : List ℕ) (i : ℕ) → Walks sizes known before terms level seen checked start facts row i → length row ≤ i
    → IsSettled facts terms (suc seen) checked
walks_done sizes known before terms level seen checked start facts row i w h = walks_end facts terms seen checked (drop i row) w.walking (none_dropped row i h)

-- how much is left
negation_denies : (u : Term) (o : Option ℕ) → allows u o ≡ true → allows (negation u) o ≡ false
negation_denies (In n s) o h = ap not h
negation_denies (NotIn n s) o h = flip (is_among o s) h
  where
    flip : (b : Bool) → not b ≡ true → b ≡ false
    flip true e = sym e
    flip false e = refl

pub fresh_of : (sizes : List ℕ) (terms : List (List Term)) (level : ℕ) (old : List Fact) (f : Fact) → IsForced sizes terms level old f → IsFresh sizes old f.term
fresh_of sizes terms level old f h = subst (λ (x : Fact). IsFresh sizes old x.term) (sym h.fact)
    (subst (λ (n : ℕ). (n < length sizes) × ((o : Option ℕ) × IsOption (get_or sizes n 0) o × (is_open old n o ≡ true) × (allows (negation h.term) o ≡ false))) (sym (negation_node h.term))
    (h.sized.0, (h.possible.0, h.possible.1, h.possible.2, negation_denies h.term h.possible.0 h.possible.3)))

pub record HasRoom (sizes : List ℕ) (old now : List Fact) : Type 0 where
  pub room : open_in sizes now + length now ≤ open_in sizes old + length old
  pub more : length old ≤ length now

forced_room : (sizes : List ℕ) (terms : List (List Term)) (level : ℕ) (old more : List Fact) → AreForced sizes terms level old more → HasRoom sizes old (old ++ more)
forced_room sizes terms level old [] h = record { room = rw (append-nil old) (omega arith); more = rw (append-nil old) (omega arith) }
forced_room sizes terms level old (f ∷ fs) h =
    let r : HasRoom sizes (old ++ f ∷ []) (old ++ f ∷ fs) = subst (HasRoom sizes (old ++ f ∷ [])) (append_assoc old (f ∷ []) fs) (forced_room sizes terms level (old ++ f ∷ []) fs h.1) in
    let a : open_in sizes (old ++ f ∷ []) < open_in sizes old = new_lowers sizes old f [] (fresh_of sizes terms level old f h.0) in
    let b = length-append old (f ∷ []) in
    let x = r.room in let y = r.more in
    record { room = omega arith; more = omega arith }

pub grown_room : (sizes : List ℕ) (terms : List (List Term)) (level : ℕ) (old now : List Fact) → HasForced sizes terms level old now → HasRoom sizes old now
grown_room sizes terms level old now h = subst (HasRoom sizes old) (sym h.is) (forced_room sizes terms level old h.more h.forced)

pub settlement_forced : (sizes : List ℕ) (terms : List (List Term)) (level k : ℕ) (old now : List Fact) → IsSettlement sizes terms level k old now false → HasForced sizes terms level old now
settlement_forced sizes terms level k old now (inl h) = subst (HasForced sizes terms level old) (sym h.0) (forced_none sizes terms level old)
settlement_forced sizes terms level k old now (inr h) = forced_more sizes terms level k old old now (forced_none sizes terms level old) h

pub settlement_settled : (sizes : List ℕ) (terms : List (List Term)) (level checked seen : ℕ) (old now : List Fact) → IsSettled old terms seen checked → seen ≤ length old → IsSettlement sizes terms level checked old now false → IsSettled now terms seen (checked + 1)
settlement_settled sizes terms level checked seen old now s l (inl h) =
    settled_next now terms seen checked (subst (λ (x : List Fact). IsSettled x terms seen checked) (sym h.0) s)
    (λ ts e. inl (subst (λ (x : List Fact). IsCalm x ts) (sym h.0) (subst (IsCalm old) (same_Some h.1.list ts (sym h.1.is ∙ e)) h.1.calm)))
settlement_settled sizes terms level checked seen old now s l (inr h) =
    subst (λ (x : List Fact). IsSettled x terms seen (checked + 1)) (sym h.is)
    (settled_next (old ++ h.fact ∷ []) terms seen checked (settled_push old h.fact terms seen checked l s)
    (λ ts e. inr (subst (IsPending (old ++ h.fact ∷ []) seen) (same_Some h.forced.list ts (sym h.forced.is ∙ subst (λ (j : ℕ). slice_get terms j ≡ Some ts) (sym h.place) e)) (forced_pending sizes terms level old h.fact seen h.forced l))))

pub all_calm : (facts : List Fact) (terms : List (List Term)) (seen checked : ℕ) → IsSettled facts terms seen checked → length facts ≤ seen → length terms ≤ checked → (k : ℕ) (ts : List Term) → slice_get terms k ≡ Some ts → IsCalm facts ts
all_calm facts terms seen checked h l m k ts e = which (h.at k ts (let w = slice_get_within terms k ts e in omega arith) e)
  where
    which : IsStill facts seen ts → IsCalm facts ts
    which (inl i) = i
    which (inr i) = absurd (let w = slice_get_within facts i.place i.fact i.is in let v = i.late in omega arith)

-- the measure of propagation
pub walk_less : (sizes : List ℕ) (old now : List Fact) (seen checked count : ℕ) → HasRoom sizes old now → seen < length old
    → 2 * open_in sizes now + (length now - (seen + 1)) + (count - checked) < 2 * open_in sizes old + (length old - seen) + (count - checked)
walk_less sizes old now seen checked count r l = let a = r.room in let b = r.more in omega arith

pub settle_less : (sizes : List ℕ) (old now : List Fact) (seen checked count : ℕ) → HasRoom sizes old now → seen ≤ length old → checked < count
    → 2 * open_in sizes now + (length now - seen) + (count - (checked + 1)) < 2 * open_in sizes old + (length old - seen) + (count - checked)
settle_less sizes old now seen checked count r l c = let a = r.room in let b = r.more in omega arith
