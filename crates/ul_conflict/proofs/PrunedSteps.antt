-- Marks of the steps that a derivation rests on, and their new numbers.
use Rattle.std.proofs.Common.{◌≡◌, ℕ, zero, suc, ◌+◌, ◌-◌, List, [], ◌∷◌, ◌++◌, Bool, true, false, Some, refl, ap, ◌∙◌, sym, subst, ◌<◌, inl, inr, arith, slice_get, slice_set, get_or, length, take, append_assoc, length-append}
use Rattle.std.proofs.lemmas.Bool.{cases_lt, true≢false}
use Rattle.std.proofs.lemmas.List.{append-nil, get_or-set_other, length-set}
use Rattle.std.proofs.lemmas.Grind.{get_or-set_at}
use Rattle.std.proofs.lemmas.Option.{none-some, same_Some, slice_get_within, slice_get_read, slice_get-get_or, get_or_from_slice_get}
use Rattle.ul_problem.specs.Plain.{Plain}
use Rattle.ul_problem.specs.Steps.{says, step_of, HasTermOn, IsRight, IsResolvent, AreRightAfter, AreRootTerms, ClosesWith, Accepts}
use Rattle.ul_problem.specs.declared.term.Term.{Term}
use Rattle.ul_problem.specs.declared.step.Step.{Step}
use Rattle.ul_problem.specs.declared.step.Step.TheVariants.{Need as NeedStep, Python, Base, Cut}
use Rattle.ul_trail.proofs.ForCallers.{get_more, get_last, take_whole}
use Rattle.ul_conflict.specs.Needed.{IsMarked, HaveGrown, IsMarkedFor, AreMarkedFor, ArePartsMarked, AreNeeded, ClosesAt, new_number, renumbered_step}
use Rattle.ul_conflict.specs.Pruned.{IsKeptAs, IsPruned, IsPrunedTo, IsKept}
use Rattle.ul_conflict.specs.declared.pruning.Pruned.{Pruned}
use Rattle.ul_conflict.proofs.Turning.{right_last, closes_front}

-- one element of a list replaced
set_here : {A : Type 0} (xs : List A) (i : ℕ) (v : A) → i < length xs → slice_get (slice_set xs i v) i ≡ Some v
set_here xs i v h = slice_get_read (slice_set xs i v) (length (slice_set xs i v)) i v refl (subst (λ (n : ℕ). i < n) (sym (length-set xs i v)) h) (sym (get_or-set_at xs i i v v refl h))

set_past : {A : Type 0} (xs : List A) (i j : ℕ) (v q : A) → (j ≡ i → ⊥) → slice_get xs j ≡ Some q → slice_get (slice_set xs i v) j ≡ Some q
set_past xs i j v q n e = slice_get_read (slice_set xs i v) (length (slice_set xs i v)) j q refl (subst (λ (k : ℕ). j < k) (sym (length-set xs i v)) (slice_get_within xs j q e)) (sym (get_or-set_other xs i j v q n ∙ get_or_from_slice_get xs j q q e))

pub grown_join : (place : ℕ) (a b c : List Bool) → HaveGrown place a b → HaveGrown place b c → HaveGrown place a c
grown_join place a b c g h = record { count = h.count ∙ g.count; more = λ k m. h.more k (g.more k m); late = λ k l m. g.late k l (h.late k l m) }

pub marked_none : (place number : ℕ) (xs : List Bool) → number ≡ 0 → IsMarkedFor place number xs
marked_none place number xs z k e h = absurd (omega arith)

pub marked_read : (marks : List Bool) (k : ℕ) → k < length marks → get_or marks k false ≡ true → slice_get marks k ≡ Some true
marked_read marks k l e = slice_get-get_or marks k false l ∙ ap Some e

-- a step is right after those before it
pub right_here : (p : Plain) (earlier xs : List Step) (k : ℕ) (s : Step) → AreRightAfter p earlier xs → slice_get xs k ≡ Some s → IsRight p (earlier ++ take k xs) s
right_here p earlier [] k s h e = absurd (none-some s e)
right_here p earlier (x ∷ xs) zero s h e = subst (λ (l : List Step). IsRight p l s) (sym (append-nil earlier)) (subst (IsRight p earlier) (same_Some x s e) h.0)
right_here p earlier (x ∷ xs) (suc k) s h e = subst (λ (l : List Step). IsRight p l s) (append_assoc earlier (x ∷ []) (take k xs)) (right_here p (earlier ++ x ∷ []) xs k s h.1 e)

front_step : (xs : List Step) (k j : ℕ) (s : Step) → slice_get (take k xs) j ≡ Some s → (j < k) × (slice_get xs j ≡ Some s)
front_step xs zero j s e = absurd (none-some s e)
front_step [] (suc k) j s e = absurd (none-some s e)
front_step (x ∷ xs) (suc k) zero s e = (omega arith, e)
front_step (x ∷ xs) (suc k) (suc j) s e = let r = front_step xs k j s e in (let l = r.0 in omega arith, r.1)

place_in : (steps : List Step) (n : ℕ) (s : Step) → step_of steps n ≡ Some s → (k : ℕ) × (n ≡ suc k) × (slice_get steps k ≡ Some s)
place_in steps zero s e = absurd (none-some s e)
place_in steps (suc k) s e = (k, refl, e)

-- the new number of a part
pub record IsPart (p : Plain) (kept : List Step) (number : ℕ) (s : Step) : Type 0 where
  pub again : Step
  pub at : step_of kept number ≡ Some again
  pub said : says p again ≡ says p s

part_kept : (p : Plain) (steps : List Step) (marks : List Bool) (kept : List Step) (numbers : List ℕ) (n : ℕ) (s : Step) → IsPruned p steps marks kept numbers → step_of (take (length numbers) steps) n ≡ Some s → IsMarkedFor (length numbers) n marks → IsPart p kept (new_number numbers n) s
part_kept p steps marks kept numbers n s h e m =
    let k = place_in (take (length numbers) steps) n s e in
    let f = front_step steps (length numbers) k.0 s k.2 in
    let r = h.same k.0 f.0 (m k.0 k.1 f.0) in
    let same : r.step ≡ s = same_Some r.step s (sym r.is ∙ f.1) in
    record {
      again = r.again;
      at = subst (λ (j : ℕ). step_of kept (new_number numbers j) ≡ Some r.again) (sym k.1) r.at;
      said = r.said ∙ ap (says p) same;
    }

kept_right : (p : Plain) (steps : List Step) (marks : List Bool) (kept : List Step) (numbers : List ℕ) (s : Step) → IsPruned p steps marks kept numbers → IsRight p (take (length numbers) steps) s → AreMarkedFor (length numbers) s marks → IsRight p kept (renumbered_step numbers s)
kept_right p steps marks kept numbers (NeedStep n v m w) h r k = r
kept_right p steps marks kept numbers (Python n v) h r k = r
kept_right p steps marks kept numbers (Base n v) h r k = r
kept_right p steps marks kept numbers (Cut i j m ts) h r k =
    let c = r.1 in
    let a = part_kept p steps marks kept numbers i c.0 h c.2 k.0 in
    let b = part_kept p steps marks kept numbers j c.1 h c.3 k.1 in (
      r.0,
      (
        a.again,
        b.again,
        a.at,
        b.at,
        subst (HasTermOn m) (sym a.said) c.4,
        subst (HasTermOn m) (sym b.said) c.5,
        subst (λ (x : List Term). IsResolvent m x (says p b.again) ts) (sym a.said) (subst (λ (x : List Term). IsResolvent m (says p c.0) x ts) (sym b.said) c.6),
      ),
    )

says_same : (p : Plain) (numbers : List ℕ) (s : Step) → says p (renumbered_step numbers s) ≡ says p s
says_same p numbers (NeedStep n v m w) = refl
says_same p numbers (Python n v) = refl
says_same p numbers (Base n v) = refl
says_same p numbers (Cut i j m ts) = refl

-- what is kept stays
kept_more : (p : Plain) (steps kept more : List Step) (number place : ℕ) → IsKeptAs p steps kept number place → IsKeptAs p steps (kept ++ more) number place
kept_more p steps kept more number place h = record { step = h.step; again = h.again; is = h.is; at = step_more number h.at; said = h.said }
  where
    step_more : (n : ℕ) → step_of kept n ≡ Some h.again → step_of (kept ++ more) n ≡ Some h.again
    step_more zero e = absurd (none-some h.again e)
    step_more (suc k) e = get_more kept more h.again k e

get_front : (numbers : List ℕ) (n k : ℕ) → k < length numbers → get_or (numbers ++ n ∷ []) k 0 ≡ get_or numbers k 0
get_front [] n k l = absurd (omega arith)
get_front (x ∷ xs) n zero l = refl
get_front (x ∷ xs) n (suc k) l = get_front xs n k (omega arith)

get_end : (numbers : List ℕ) (n : ℕ) → get_or (numbers ++ n ∷ []) (length numbers) 0 ≡ n
get_end [] n = refl
get_end (x ∷ xs) n = get_end xs n

pub pruned_none : (p : Plain) (steps : List Step) (marks : List Bool) → IsPruned p steps marks [] []
pruned_none p steps marks = record { right = tt; same = λ k l m. absurd (omega arith); end = λ k e m. absurd (omega arith) }

pub pruned_keep : (p : Plain) (steps : List Step) (marks : List Bool) (old now : Pruned) (s : Step) → AreRightAfter p [] steps → ArePartsMarked steps 0 marks → IsPrunedTo p steps marks old → slice_get steps (length old.numbers.items) ≡ Some s → IsMarked marks (length old.numbers.items) → IsKept s old now → IsPrunedTo p steps marks now
pruned_keep p steps marks old now s right parts h at m k =
    let numbers : List ℕ = old.numbers.items in
    let kept : List Step = old.kept.items in
    let again : Step = renumbered_step numbers s in
    let ra = right_here p [] steps (length numbers) s right at in
    let rk : IsRight p kept again = kept_right p steps marks kept numbers s h ra (parts (length numbers) s (omega arith) m at) in
    let longer : length (kept ++ again ∷ []) ≡ length kept + 1 = length-append kept (again ∷ []) in
    let count : length now.kept.items ≡ suc (length kept) = (let e = ap (λ (l : List Step). length l) k.kept in omega arith) in
    let es : now.numbers.items ≡ numbers ++ suc (length kept) ∷ [] = k.numbers ∙ ap (λ (n : ℕ). numbers ++ n ∷ []) count in
    let len : length (numbers ++ suc (length kept) ∷ []) ≡ length numbers + 1 = length-append numbers (suc (length kept) ∷ []) in
    subst (λ (l : List Step). IsPruned p steps marks l now.numbers.items) (sym k.kept) (subst (IsPruned p steps marks (kept ++ again ∷ [])) (sym es) (record {
      right = right_last p [] kept again h.right rk;
      same = λ j l q. elim (cases_lt j (length numbers)) [
        | inl a ↦ subst (λ (n : ℕ). IsKeptAs p steps (kept ++ again ∷ []) n j) (sym (get_front numbers (suc (length kept)) j a)) (kept_more p steps kept (again ∷ []) (get_or numbers j 0) j (h.same j a q))
        | inr a ↦ (let ej : length numbers ≡ j = omega arith in
            subst (λ (i : ℕ). IsKeptAs p steps (kept ++ again ∷ []) (get_or (numbers ++ suc (length kept) ∷ []) i 0) i) ej
            (subst (λ (n : ℕ). IsKeptAs p steps (kept ++ again ∷ []) n (length numbers)) (sym (get_end numbers (suc (length kept))))
            (record { step = s; again = again; is = at; at = get_last kept again; said = says_same p numbers s })))
      ];
      end = λ j e q. (let ej : length numbers ≡ j = omega arith in
          subst (λ (i : ℕ). get_or (numbers ++ suc (length kept) ∷ []) i 0 ≡ length (kept ++ again ∷ [])) ej (get_end numbers (suc (length kept)) ∙ omega arith));
    }))

-- the end
pub pruned_accepted : (p : Plain) (steps : List Step) (marks : List Bool) (kept : List Step) (numbers : List ℕ) (count : ℕ) → AreNeeded steps count marks → IsPruned p steps marks kept numbers → length numbers ≡ count → ClosesAt p steps count → Accepts p kept
pruned_accepted p steps marks kept numbers count need h c closes =
    let k = place_in steps count closes.0 closes.1 in
    let e = k.1 in
    let m = need.last k.0 e in
    let r = h.same k.0 (omega arith) m in
    let n : get_or numbers k.0 0 ≡ length kept = h.end k.0 (c ∙ e) m in
    let same : r.step ≡ closes.0 = same_Some r.step closes.0 (sym r.is ∙ k.2) in
    let at : step_of kept (length kept) ≡ Some r.again = subst (λ (j : ℕ). step_of kept j ≡ Some r.again) n r.at in
    let q = place_in kept (length kept) r.again at in
    let roots : AreRootTerms p (says p r.again) = subst (AreRootTerms p) (sym (r.said ∙ ap (says p) same)) closes.2 in
    (h.right, subst (ClosesWith p) (ap (λ (j : ℕ). take j kept) (sym q.1) ∙ take_whole kept) (closes_front p kept q.0 r.again q.2 roots))
