-- What workers drew, and the seats that are taken in.
use Rattle.std.proofs.Common.{◌≡◌, ℕ, ◌+◌, ◌<◌, ◌≤◌, ◌⊎◌, Bool, true, false, not, List, [], ◌∷◌, ◌++◌, All, get_or, sym, refl, subst, ⊎_elim, inl, inr, arith}
use Rattle.std.specs.Prelude.{Any, Contains}
use Rattle.std.proofs.lemmas.List.Elements.{All-append, All-cons, All-nil, Contains-push_cases}
use Rattle.std.proofs.lemmas.List.Quantifiers.{Any-push}
use Rattle.ul_claims.specs.Seats.{SeatView, ClaimsView, IsDrawn, HadNone}
use Rattle.ul_interner.specs.Known.{Held}

pub all_push : {X : Type 0} (F : X → Type 0) (xs ys : List X) (x : X) → ys ≡ xs ++ x ∷ [] → All F xs → F x → All F ys
all_push F xs ys x e a f = subst (All F) (sym e) (All-append F xs (x ∷ []) a (All-cons F x [] f (All-nil F)))

-- what is known stays known of each result
pub good_on : {L O : Type 0} (fits : ℕ → O → Type 0) (known : Held L → O → Type 0) (p q : Held L) → ((o : O) → known p o → known q o) → (xs : List (ℕ × O))
    → All (λ r. fits r.0 r.1 × known p r.1) xs → All (λ r. fits r.0 r.1 × known q r.1) xs
good_on fits known p q on xs a k d l = let t = a k d l in (t.0, on (get_or xs k d).1 t.1)

pub not_failed : (b : Bool) → not b ≡ true → b ≡ false
not_failed true e = sym e
not_failed false e = refl

any_push_cases : {X : Type 0} (P : X → Type 0) (xs : List X) (y : X) → Any P (xs ++ y ∷ []) → Any P xs ⊎ P y
any_push_cases P xs y h = ⊎_elim (λ c. inl (c.0, h.1, c.1, c.2, h.4)) (λ e. inr (subst P (sym e) h.4)) (Contains-push_cases xs y h.1 (h.0, h.2, h.3))

-- a number below the limit that was drawn was drawn before, or is one of the results of the seat that is new
pub drawn_push : (limit l k : ℕ) (xs ys : List SeatView) (s : SeatView) (nums : List ℕ) → ys ≡ xs ++ s ∷ [] → s.drawn ≡ nums ++ l ∷ [] → limit ≤ l → k < limit → IsDrawn ys k → IsDrawn xs k ⊎ Contains nums k
drawn_push limit l k xs ys s nums e f high low h =
    ⊎_elim (λ before. inl before)
    (λ here. ⊎_elim (λ c. inr c) (λ (is : l ≡ k). absurd (omega arith)) (Contains-push_cases nums l k (subst (λ z. Contains z k) f here)))
    (any_push_cases (λ (t : SeatView). Contains t.drawn k) xs s (subst (λ z. IsDrawn z k) e h))

-- a seat that drew the limit or more
pub none_push : (claims : ClaimsView) (l : ℕ) (xs ys : List SeatView) (s : SeatView) (nums : List ℕ) → ys ≡ xs ++ s ∷ [] → s.claims ≡ claims → s.drawn ≡ nums ++ l ∷ [] → claims.limit ≤ l → HadNone ys
none_push claims l xs ys s nums e own f high =
    subst HadNone (sym e) (Any-push (λ (t : SeatView). Any (λ n. t.claims.limit ≤ n) t.drawn) xs s
    (subst (λ z. Any (λ n. s.claims.limit ≤ n) z) (sym f) (Any-push (λ n. s.claims.limit ≤ n) nums l (subst (λ (c : ClaimsView). c.limit ≤ l) (sym own) high))))
