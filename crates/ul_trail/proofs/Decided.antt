-- Which nodes are asked for and decided.
use Rattle.std.proofs.Common.{◌≡◌, ℕ, zero, suc, ◌+◌, List, [], ◌∷◌, ◌++◌, Bool, true, false, cond, Some, None, refl, ap, ◌∙◌, sym, subst, ◌<◌, ◌≤◌, inl, inr, arith, nat_eq, eq-eqb, slice_get, get_or, length, take, append_assoc}
use Rattle.std.proofs.lemmas.Bool.{cases_eq, ne_eqb, eqb-true}
use Rattle.std.proofs.lemmas.Option.{none-some, same_Some, slice_get_within, slice_get-get_or, slice_get_past, get_or_from_slice_get}
use Rattle.ul_problem.specs.Best.{Picks, is_decided, first_open, targets}
use Rattle.ul_problem.specs.declared.problem.Need.{Need}
use Rattle.ul_trail.specs.Kept.{IsIndexed, HasPassed}
use Rattle.ul_trail.proofs.Places.{take_next}

-- a decided node's pick
pub pick_place : (n : ℕ) (d : Picks) → is_decided n d ≡ true → (i : ℕ) × (e : ℕ × ℕ) × (slice_get d i ≡ Some e) × (e.0 ≡ n)
pick_place n [] h = cc
pick_place n (x ∷ d) h = which (nat_eq x.0 n) refl (pick_place n d) h
  where
    which : (b : Bool) → nat_eq x.0 n ≡ b → (is_decided n d ≡ true → (i : ℕ) × (e : ℕ × ℕ) × (slice_get d i ≡ Some e) × (e.0 ≡ n)) → cond b true (is_decided n d) ≡ true → (i : ℕ) × (e : ℕ × ℕ) × (slice_get (x ∷ d) i ≡ Some e) × (e.0 ≡ n)
    which true g r k = (0, x, refl, eqb-true x.0 n g)
    which false g r k = let s = r k in (suc s.0, s.1, s.2, s.3)

pub place_decided : (n : ℕ) (d : Picks) (i : ℕ) (e : ℕ × ℕ) → slice_get d i ≡ Some e → e.0 ≡ n → is_decided n d ≡ true
place_decided n [] i e g h = absurd (none-some e g)
place_decided n (x ∷ d) zero e g h = ap (λ (b : Bool). cond b true (is_decided n d)) (eq-eqb x.0 n (ap (λ (y : ℕ × ℕ). y.0) (same_Some x e g) ∙ h))
place_decided n (x ∷ d) (suc i) e g h = which (nat_eq x.0 n) (place_decided n d i e g h)
  where
    which : (b : Bool) → is_decided n d ≡ true → cond b true (is_decided n d) ≡ true
    which true k = refl
    which false k = k

undecided : (n : ℕ) (d : Picks) → (is_decided n d ≡ true → ⊥) → false ≡ is_decided n d
undecided n d h = which (is_decided n d) refl
  where
    which : (b : Bool) → is_decided n d ≡ b → false ≡ b
    which true e = absurd (h e)
    which false e = refl

pub decided_missing : (n : ℕ) (d : Picks) (positions : List ℕ) → IsIndexed d positions → length positions ≤ n → false ≡ is_decided n d
decided_missing n d positions x e = undecided n d (λ h. (let s = pick_place n d h in
    let l : n < length positions = subst (λ (k : ℕ). k < length positions) s.3 (x.inside s.0 s.1 s.2) in
    omega arith))

pub decided_unplaced : (n : ℕ) (d : Picks) (positions : List ℕ) → IsIndexed d positions → length d ≤ get_or positions n 0 → false ≡ is_decided n d
decided_unplaced n d positions x g = undecided n d (λ h. (let s = pick_place n d h in
    let a : s.0 ≡ get_or positions n 0 = sym (x.at s.0 s.1 s.2) ∙ ap (λ (j : ℕ). get_or positions j 0) s.3 in
    let w = slice_get_within d s.0 s.1 s.2 in omega arith))

pub decided_placed : (n : ℕ) (d : Picks) (positions : List ℕ) (m : ℕ) (z : ℕ × ℕ) → IsIndexed d positions → get_or positions n 0 < length d → m ≡ (get_or d (get_or positions n 0) z).0 → nat_eq m n ≡ is_decided n d
decided_placed n d positions m z x l g =
    let k : ℕ = get_or positions n 0 in
    let e : ℕ × ℕ = get_or d k z in
    let p : slice_get d k ≡ Some e = slice_get-get_or d k z l in
    elim (cases_eq m n) [
      | inl s ↦ eq-eqb m n s ∙ sym (place_decided n d k e p (sym g ∙ s))
      | inr y ↦ ne_eqb m n y ∙ undecided n d (λ h. (let s = pick_place n d h in
          let a : s.0 ≡ k = sym (x.at s.0 s.1 s.2) ∙ ap (λ (j : ℕ). get_or positions j 0) s.3 in
          y (g ∙ (ap (λ (w : ℕ × ℕ). w.0) (same_Some e s.1 (sym p ∙ subst (λ (j : ℕ). slice_get d j ≡ Some s.1) a s.2)) ∙ s.3))))
    ]

-- the walk along the queue
pub passed_next : (queue : List ℕ) (d : Picks) (i n : ℕ) → i < length queue → n ≡ get_or queue i 0 → is_decided n d ≡ true → HasPassed queue d i → HasPassed queue d (i + 1)
passed_next queue d i n l e h p = record {
  at = λ k m q g. elim (cases_eq k i) [
    | inl s ↦ subst (λ (j : ℕ). is_decided j d ≡ true) (e ∙ get_or_from_slice_get queue i m 0 (subst (λ (j : ℕ). slice_get queue j ≡ Some m) s g)) h
    | inr z ↦ p.at k m (omega arith) g
  ];
}

pub passed_all : (queue : List ℕ) (d : Picks) (i j : ℕ) → length queue ≤ i → HasPassed queue d i → HasPassed queue d j
passed_all queue d i j l p = record { at = λ k m q g. p.at k m (let w = slice_get_within queue k m g in omega arith) g }

pub found_here : (queue : List ℕ) (d : Picks) (i n m : ℕ) → i < length queue → n ≡ get_or queue i 0 → is_decided n d ≡ false → slice_get queue i ≡ Some m → is_decided m d ≡ false
found_here queue d i n m l e h g = subst (λ (j : ℕ). is_decided j d ≡ false) (e ∙ get_or_from_slice_get queue i m 0 g) h

pub first_is : (queue : List ℕ) (d : Picks) (place : ℕ) → ((i n : ℕ) → i < place → slice_get queue i ≡ Some n → is_decided n d ≡ true) → ((n : ℕ) → slice_get queue place ≡ Some n → is_decided n d ≡ false) → slice_get queue place ≡ first_open d queue
first_is [] d place h g = refl
first_is (n ∷ ns) d zero h g = sym (ap (λ (b : Bool). cond b (first_open d ns) (Some n)) (g n refl))
first_is (n ∷ ns) d (suc place) h g = first_is ns d place (λ i m l e. h (suc i) m (omega arith) e) g ∙ sym (ap (λ (b : Bool). cond b (first_open d ns) (Some n)) (h 0 n (omega arith) refl))

pub next_here : (queue : List ℕ) (d : Picks) (place : ℕ) → HasPassed queue d place → ((n : ℕ) → slice_get queue place ≡ Some n → is_decided n d ≡ false) → place < length queue → Some (get_or queue place 0) ≡ first_open d queue
next_here queue d place p g l = sym (slice_get-get_or queue place 0 l) ∙ first_is queue d place p.at g

pub next_none : (queue : List ℕ) (d : Picks) (place : ℕ) → HasPassed queue d place → ((n : ℕ) → slice_get queue place ≡ Some n → is_decided n d ≡ false) → length queue ≤ place → None ≡ first_open d queue
next_none queue d place p g l = sym (slice_get_past queue place l) ∙ first_is queue d place p.at g

-- targets
targets_append : (xs : List Need) (x : Need) → targets (xs ++ x ∷ []) ≡ targets xs ++ x.node ∷ []
targets_append [] x = refl
targets_append (y ∷ xs) x = ap (λ (l : List ℕ). y.node ∷ l) (targets_append xs x)

pub asked_next : (start queue now : List ℕ) (needs : List Need) (i : ℕ) (x : Need) → slice_get needs i ≡ Some x → queue ≡ start ++ targets (take i needs) → now ≡ queue ++ x.node ∷ [] → now ≡ start ++ targets (take (i + 1) needs)
asked_next start queue now needs i x e q n =
    n ∙ (ap (λ (l : List ℕ). l ++ x.node ∷ []) q ∙ (append_assoc start (targets (take i needs)) (x.node ∷ []) ∙ ap (λ (l : List ℕ). start ++ l) (sym (ap targets (take_next needs x i e) ∙ targets_append (take i needs) x))))
