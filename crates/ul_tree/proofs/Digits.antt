-- What decides whether a version with a release alone meets a clause: how each of its numbers compares with the
-- number of the clause's release, as long as those before are equal.
use Rattle.std.proofs.Common.{◌≡◌, ℕ, suc, ◌-◌, List, [], ◌∷◌, ◌++◌, length, take, drop, max, Bool, true, false, refl, sym, ap, ◌∙◌, arith, subst, inl, inr}
use Rattle.std.specs.Prelude.{◌&&◌, nat_eq}
use Rattle.std.specs.Ordering.{nat_cmp, ordering_then, is_eq}
use Rattle.std.specs.Cmp.{unsigned_tied}
use Rattle.std.proofs.lemmas.Bool.{eqb-true, eq-eqb}
use Rattle.std.proofs.lemmas.Bool.Decides.{eqb_tells}
use Rattle.std.proofs.lemmas.Cmp.{nat_cmp_total, tied_itself}
use Rattle.std.proofs.lemmas.List.{append-nil, take-append-drop}
use Rattle.std.specs.declared.cmp.Ordering.{Ordering}
use Rattle.std.specs.declared.cmp.Ordering.TheVariants as Answer
use Rattle.ul_version.specs.Fields.{Fields, plain}
use Rattle.ul_version.specs.Order.{padded_release, release_cmp, has_release_front, version_cmp}
use Rattle.ul_specifier.specs.Clauses.{ClauseFields}
use Rattle.ul_specifier.specs.Meaning.{meets_clause, meets_op}
use Rattle.ul_specifier.specs.declared.clause.Op.{Op}
use Rattle.ul_specifier.specs.declared.clause.Op.TheVariants.{Equal, Unequal, AtLeast, AtMost, More, Less, Compatible, Distinct}

-- the first number of a release, which is 0 if it has none, and the others
abbrev pub first_of_release : List ℕ → ℕ
first_of_release [] = 0
first_of_release (r ∷ rs) = r

abbrev pub later_of_release : List ℕ → List ℕ
later_of_release [] = []
later_of_release (r ∷ rs) = rs

-- two releases of one length compare alike with another, number by number
abbrev pub Alike : List ℕ → List ℕ → List ℕ → Type 0
Alike R [] [] = Unit {0}
Alike R [] (y ∷ ys) = ⊥
Alike R (x ∷ xs) [] = ⊥
Alike R (x ∷ xs) (y ∷ ys) =
    (nat_cmp x (first_of_release R) ≡ nat_cmp y (first_of_release R))
    × (nat_cmp x (first_of_release R) ≡ Answer.Equal → Alike (later_of_release R) xs ys)

padded_next : (size : ℕ) (x : ℕ) (xs : List ℕ) → padded_release (suc size) (x ∷ xs) ≡ x ∷ padded_release size xs
unfolding padded_release
padded_next size x xs = let e : suc size - length (x ∷ xs) ≡ size - length xs = omega arith in rw e refl

padded_none : (size : ℕ) → padded_release (suc size) [] ≡ 0 ∷ padded_release size []
unfolding padded_release
padded_none size = let e : suc size - 0 ≡ suc (size - 0) = omega arith in rw e refl

release_next : (x : ℕ) (xs R : List ℕ) → release_cmp (x ∷ xs) R ≡ ordering_then (nat_cmp x (first_of_release R)) (release_cmp xs (later_of_release R))
unfolding release_cmp
release_next x xs [] =
    let e : max (length (x ∷ xs)) 0 ≡ suc (max (length xs) 0) = omega arith in
    rw (e, padded_next (max (length xs) 0) x xs, padded_none (max (length xs) 0)) refl
release_next x xs (r ∷ rs) =
    let e : max (length (x ∷ xs)) (length (r ∷ rs)) ≡ suc (max (length xs) (length rs)) = omega arith in
    rw (e, padded_next (max (length xs) (length rs)) x xs, padded_next (max (length xs) (length rs)) r rs) refl

front_next : (f : ℕ) (fs : List ℕ) (x : ℕ) (xs : List ℕ) → has_release_front (f ∷ fs) (x ∷ xs) ≡ (nat_eq f x && has_release_front fs xs)
unfolding has_release_front
front_next f fs x xs = rw (padded_next (length fs) x xs) refl

then_alike : (a b c d : Ordering) → a ≡ b → (a ≡ Answer.Equal → c ≡ d) → ordering_then a c ≡ ordering_then b d
then_alike Answer.Less b c d e h = rw (← e) refl
then_alike Answer.Greater b c d e h = rw (← e) refl
then_alike Answer.Equal b c d e h = rw (← e) (h refl)

-- such releases come before, with or after the other alike
pub alike_cmp : (R xs ys : List ℕ) → Alike R xs ys → release_cmp xs R ≡ release_cmp ys R
alike_cmp R [] [] h = refl
alike_cmp R [] (y ∷ ys) h = absurd h
alike_cmp R (x ∷ xs) [] h = absurd h
alike_cmp R (x ∷ xs) (y ∷ ys) h =
    release_next x xs R
    ∙ then_alike _ _ _ _ h.0 (λ e. alike_cmp (later_of_release R) xs ys (h.1 e))
    ∙ sym (release_next y ys R)

pub cmp_equal : (x f : ℕ) → nat_cmp x f ≡ Answer.Equal → x ≡ f
cmp_equal x f h = eqb-true x f (sym (unsigned_tied x f) ∙ ap is_eq h)

pub equal_alike : (f x y : ℕ) → nat_cmp x f ≡ nat_cmp y f → f ≡ x → f ≡ y
equal_alike f x y h e = sym (cmp_equal y f (sym h ∙ rw (← e) (tied_itself nat_cmp_total f)))

eq_alike : (f x y : ℕ) → nat_cmp x f ≡ nat_cmp y f → nat_eq f x ≡ nat_eq f y
eq_alike f x y h = elim (eqb_tells f x) [
  | inl a ↦ a.0 ∙ sym (eq-eqb f y (equal_alike f x y h a.1))
  | inr a ↦ (elim (eqb_tells f y) [
    | inl b ↦ absurd (a.1 (equal_alike f y x (sym h) b.1))
    | inr b ↦ a.0 ∙ sym b.0
  ])
]

and_alike : (a b c d : Bool) → a ≡ b → (a ≡ true → c ≡ d) → (a && c) ≡ (b && d)
and_alike true b c d e h = rw (← e) (h refl)
and_alike false b c d e h = rw (← e) refl

-- and begin with a front of the other alike
pub alike_front : (F more xs ys : List ℕ) → Alike (F ++ more) xs ys → has_release_front F xs ≡ has_release_front F ys
unfolding has_release_front
alike_front [] more xs ys h = refl
alike_front (f ∷ fs) more [] [] h = refl
alike_front (f ∷ fs) more [] (y ∷ ys) h = absurd h
alike_front (f ∷ fs) more (x ∷ xs) [] h = absurd h
alike_front (f ∷ fs) more (x ∷ xs) (y ∷ ys) h =
    front_next f fs x xs
    ∙ and_alike _ _ _ _ (eq_alike f x y h.0) (λ e. alike_front fs more xs ys (h.1 (rw (← eqb-true f x e) (tied_itself nat_cmp_total f))))
    ∙ sym (front_next f fs y ys)

alike_version : (V : Fields) (xs ys : List ℕ) → release_cmp xs V.release ≡ release_cmp ys V.release → version_cmp (plain xs) V ≡ version_cmp (plain ys) V
unfolding version_cmp
alike_version V xs ys e = rw e refl

alike_op : (op : Op) (V : Fields) (prefix : Bool) (xs ys : List ℕ) → version_cmp (plain xs) V ≡ version_cmp (plain ys) V
    → has_release_front V.release xs ≡ has_release_front V.release ys
    → has_release_front (take (length V.release - 1) V.release) xs ≡ has_release_front (take (length V.release - 1) V.release) ys
    → meets_op op V prefix (plain xs) ≡ meets_op op V prefix (plain ys)
alike_op Equal V true xs ys e f g = rw f refl
alike_op Equal V false xs ys e f g = rw e refl
alike_op Unequal V true xs ys e f g = rw f refl
alike_op Unequal V false xs ys e f g = rw e refl
alike_op AtLeast V prefix xs ys e f g = rw e refl
alike_op AtMost V prefix xs ys e f g = rw e refl
alike_op More V prefix xs ys e f g = rw e refl
alike_op Less V prefix xs ys e f g = rw e refl
alike_op Compatible V prefix xs ys e f g = rw (e, g) refl
alike_op Distinct V prefix xs ys e f g = rw e refl

-- a clause is met alike where the version compares alike and begins alike
pub alike_meets : (s : ClauseFields) (xs ys : List ℕ) → Alike s.version.release xs ys → meets_clause s (plain xs) ≡ meets_clause s (plain ys)
unfolding meets_clause
alike_meets s xs ys h =
    let R = s.version.release in
    let k = length R - 1 in
    let whole : Alike (R ++ []) xs ys = subst (λ (r : List ℕ). Alike r xs ys) (sym (append-nil R)) h in
    let parted : Alike (take k R ++ drop k R) xs ys = subst (λ (r : List ℕ). Alike r xs ys) (sym (take-append-drop k R)) h in
    alike_op s.op s.version s.prefix xs ys (alike_version s.version xs ys (alike_cmp R xs ys h)) (alike_front R [] xs ys whole) (alike_front (take k R) (drop k R) xs ys parted)
