-- A text has at most one fault, and none where it is right.
use Rattle.std.proofs.Common.{◌≡◌, ℕ, ◌+◌, length, List, [], ◌∷◌, ◌++◌, refl, sym, ap, subst, ◌∙◌, append_assoc}
use Rattle.std.proofs.lemmas.List.{append-nil}
use Rattle.ul_lines.specs.Faults.{IsFront, IsWrong, IsFault}

-- a front of a front is one
front_shorter : (Right : List (List ℕ) → Type 0) (xs ys : List (List ℕ)) → IsFront Right (xs ++ ys) → IsFront Right xs
front_shorter Right xs ys h = (ys ++ h.0, subst Right (append_assoc xs ys h.0) h.1)

-- one of two ways to cut the same lines is the longer
data Cut (a b c d : List (List ℕ)) : Type 0 where
  same : a ≡ c → b ≡ d → Cut a b c d
  longer : (l : List ℕ) (more : List (List ℕ)) → c ≡ a ++ l ∷ more → b ≡ (l ∷ more) ++ d → Cut a b c d
  shorter : (l : List ℕ) (more : List (List ℕ)) → a ≡ c ++ l ∷ more → d ≡ (l ∷ more) ++ b → Cut a b c d

heads : (x y : List ℕ) (xs ys : List (List ℕ)) → x ∷ xs ≡ y ∷ ys → (x ≡ y) × (xs ≡ ys)
heads x y xs ys e = let p : x ≡ y = cc in let q : xs ≡ ys = cc in (p, q)

cut_more : (x y : List ℕ) (a b c d : List (List ℕ)) → x ≡ y → Cut a b c d → Cut (x ∷ a) b (y ∷ c) d
cut_more x y a b c d e (same p q) = same (λ i. e i ∷ p i) q
cut_more x y a b c d e (longer l more p q) = longer l more (λ i. sym e i ∷ p i) q
cut_more x y a b c d e (shorter l more p q) = shorter l more (λ i. e i ∷ p i) q

cuts : (a b c d : List (List ℕ)) → a ++ b ≡ c ++ d → Cut a b c d
cuts [] b [] d e = same refl e
cuts [] b (y ∷ c) d e = longer y c refl e
cuts (x ∷ a) b [] d e = shorter x a refl (sym e)
cuts (x ∷ a) b (y ∷ c) d e = let h = heads x y (a ++ b) (c ++ d) e in cut_more x y a b c d h.0 (cuts a b c d h.1)

-- where lines go on after a wrong one, they are no front
not_further : (Right : List (List ℕ) → Type 0) (a b c d more : List (List ℕ)) (l : List ℕ) → IsWrong Right a b → b ≡ (l ∷ more) ++ d → c ≡ a ++ l ∷ more → IsFront Right c → ⊥
not_further Right a [] c d more l w e f g = absurd cc
not_further Right a (x ∷ b) c d more l w e f g =
    let h = heads x l b (more ++ d) e in
    let p : c ≡ (a ++ l ∷ []) ++ more = f ∙ sym (append_assoc a (l ∷ []) more) in
    w (subst (λ z. IsFront Right (a ++ z ∷ [])) (sym h.0) (front_shorter Right (a ++ l ∷ []) more (subst (IsFront Right) p g)))

-- the line of a fault is determined
pub one_fault : (Right : List (List ℕ) → Type 0) (ls : List (List ℕ)) (m n : ℕ) → IsFault Right ls m → IsFault Right ls n → m ≡ n
one_fault Right ls m n f g =
    elim (cuts f.before f.rest g.before g.rest (sym f.whole ∙ g.whole)) [
      | same p q ↦ f.count ∙ (ap (λ z. length z + 1) p ∙ sym g.count)
      | longer l more p q ↦ absurd (not_further Right f.before f.rest g.before g.rest more l f.wrong q p g.good)
      | shorter l more p q ↦ absurd (not_further Right g.before g.rest f.before f.rest more l g.wrong q p f.good)
    ]

-- what is right has no fault
pub right_has_none : (Right : List (List ℕ) → Type 0) (ls : List (List ℕ)) (n : ℕ) → Right ls → IsFault Right ls n → ⊥
right_has_none Right ls n h f = by_rest f.rest f.wrong (subst Right f.whole h)
  where
    by_rest : (rest : List (List ℕ)) → IsWrong Right f.before rest → Right (f.before ++ rest) → ⊥
    by_rest [] w r = w (subst Right (append-nil f.before) r)
    by_rest (l ∷ ls) w r = w (ls, subst Right (sym (append_assoc f.before (l ∷ []) ls)) r)
