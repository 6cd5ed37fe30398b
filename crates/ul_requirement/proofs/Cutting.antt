-- Texts that are cut at a byte, and at the end of a run.
use Rattle.std.proofs.Common.{◌≡◌, ◌+◌, ◌<◌, ◌||◌, ℕ, zero, suc, List, [], ◌∷◌, ◌++◌, length, drop, take, get_or, refl, ap, arith, Bool, true, false, true≢false, Option, Some, None, is_some, inl, inr}
use Rattle.std.specs.Prelude.{◌==◌}
use Rattle.std.proofs.lemmas.Bool.{and_parts, cases_Bool, eq-eqb, eqb-true, ne_eqb}
use Rattle.std.specs.List.{list_all, list_any}
use Rattle.ul_version.specs.Ascii.{begins, run_length}
use Rattle.ul_version.specs.Reading.{◌>>=◌}
use Rattle.ul_version.proofs.ForCallers.{bind_some}
use Rattle.ul_requirement.specs.Reading.{cut_at}

-- ---- by the place of the byte

pub cut-some : (byte : ℕ) (xs : List ℕ) (n : ℕ) → n < length xs → ((k : ℕ) → k < n → get_or xs k 0 ≡ byte → ⊥) → get_or xs n 0 ≡ byte
    → cut_at byte xs ≡ Some (take n xs, drop (n + 1) xs)
cut-some byte [] n lt none here = absurd (omega arith)
cut-some byte (x ∷ xs) zero lt none here = rw (eq-eqb x byte here) refl
cut-some byte (x ∷ xs) (suc n) lt none here =
    let up : suc n + 1 ≡ suc (n + 1) = omega arith in
    let first : (x == byte) ≡ false = ne_eqb x byte (none 0 (omega arith)) in
    rw (up, first, cut-some byte xs n (omega arith) (λ k below. none (suc k) (omega arith)) here) refl

pub cut-none : (byte : ℕ) (xs : List ℕ) → ((k : ℕ) → k < length xs → get_or xs k 0 ≡ byte → ⊥) → cut_at byte xs ≡ None
cut-none byte [] none = refl
cut-none byte (x ∷ xs) none =
    let first : (x == byte) ≡ false = ne_eqb x byte (none 0 (omega arith)) in
    rw (first, cut-none byte xs (λ k below. none (suc k) (omega arith))) refl

-- ---- by what stands before it

-- the text has the byte
abbrev pub has : ℕ → List ℕ → Bool
has byte text = list_any (λ b. b == byte) text

pub cut-of : (byte : ℕ) (xs ys : List ℕ) → has byte xs ≡ false → cut_at byte (xs ++ byte ∷ ys) ≡ Some (xs, ys)
cut-of byte [] ys h = rw (eq-eqb byte byte refl) refl
cut-of byte (x ∷ xs) ys h =
    let p = or_parts (x == byte) (has byte xs) h in rw (p.0, cut-of byte xs ys p.1) refl
  where
    or_parts : (a b : Bool) → (a || b) ≡ false → (a ≡ false) × (b ≡ false)
    or_parts true b e = absurd (true≢false e)
    or_parts false b e = (refl, e)

pub cut-without : (byte : ℕ) (xs : List ℕ) → has byte xs ≡ false → cut_at byte xs ≡ None
cut-without byte [] h = refl
cut-without byte (x ∷ xs) h =
    let p = or_parts (x == byte) (has byte xs) h in rw (p.0, cut-without byte xs p.1) refl
  where
    or_parts : (a b : Bool) → (a || b) ≡ false → (a ≡ false) × (b ≡ false)
    or_parts true b e = absurd (true≢false e)
    or_parts false b e = (refl, e)

-- what was cut is the text, and the byte is the first
pub cut-is : (byte : ℕ) (xs : List ℕ) (p : List ℕ × List ℕ) → cut_at byte xs ≡ Some p → (xs ≡ p.0 ++ byte ∷ p.1) × (has byte p.0 ≡ false)
cut-is byte [] p e = cc
cut-is byte (x ∷ xs) p e = elim (cases_Bool (x == byte)) [
  | inl here ↦
      let some : Some ([], xs) ≡ Some p = rw here at e in
      let same : ([], xs) ≡ p = cc some in
      rw (← same) (ap (λ b. b ∷ xs) (eqb-true x byte here), refl)
  | inr later ↦
      let rest : (cut_at byte xs >>= λ q. Some (x ∷ q.0, q.1)) ≡ Some p = rw later at e in
      let (q, found, some) = bind_some (cut_at byte xs) _ _ rest in
      let same : (x ∷ q.0, q.1) ≡ p = cc some in
      let t = cut-is byte xs q found in
      rw (← same) (ap (λ l. x ∷ l) t.0, rw later t.1)
]

-- a byte before what stands before the cut
abbrev behind_byte : ℕ → Option (List ℕ × List ℕ) → Option (List ℕ × List ℕ)
behind_byte x o = o >>= λ q. Some (x ∷ q.0, q.1)

none_behind : (x : ℕ) (o : Option (List ℕ × List ℕ)) → behind_byte x o ≡ None → o ≡ None
none_behind x None h = refl
none_behind x (Some q) h = cc h

pub cut-not : (byte : ℕ) (xs : List ℕ) → cut_at byte xs ≡ None → has byte xs ≡ false
cut-not byte [] e = refl
cut-not byte (x ∷ xs) e = elim (cases_Bool (x == byte)) [
  | inl here ↦
      let found : Option (List ℕ × List ℕ) = Some ([], xs) in
      let some : found ≡ None = rw here at e in
      absurd (true≢false (ap is_some some))
  | inr later ↦
      let rest : behind_byte x (cut_at byte xs) ≡ None = rw later at e in
      rw later (cut-not byte xs (none_behind x (cut_at byte xs) rest))
]

-- ---- runs in front

-- a run that ends is cut off whole
pub run-of : (test : ℕ → Bool) (xs ys : List ℕ) → list_all test xs ≡ true → begins test ys ≡ false → (take (run_length test (xs ++ ys)) (xs ++ ys) ≡ xs) × (drop (run_length test (xs ++ ys)) (xs ++ ys) ≡ ys)
run-of test [] [] h e = (refl, refl)
run-of test [] (y ∷ ys) h e = (rw e refl, rw e refl)
run-of test (x ∷ xs) ys h e =
    let p = and_parts (test x) (list_all test xs) h in
    let t = run-of test xs ys p.1 e in
    let n : ℕ = run_length test (xs ++ ys) in
    let up : n + 1 ≡ suc n = omega arith in
    (rw (p.0, up) (ap (λ l. x ∷ l) t.0), rw (p.0, up) t.1)

pub run-ends : (test : ℕ → Bool) (xs : List ℕ) → begins test (drop (run_length test xs) xs) ≡ false
run-ends test [] = refl
run-ends test (x ∷ xs) = elim (cases_Bool (test x)) [
  | inl passes ↦
      let n : ℕ = run_length test xs in
      let up : n + 1 ≡ suc n = omega arith in
      rw (passes, up) (run-ends test xs)
  | inr fails ↦ rw fails fails
]
