-- Pieces of a line: what is cut is what stood there, and what stands there is cut.
use Rattle.std.proofs.Common.{◌≡◌, ℕ, ◌-◌, ◌<◌, take, drop, drop-cons, length, List, [], ◌∷◌, ◌++◌, Bool, true, false, cond, ◌||◌, eqb, refl, sym, ap, subst, ◌∙◌, append_assoc, arith, Option, Some, None}
use Rattle.std.specs.Prelude.{option_and_then, option_map, bytes_eq, nat_lt}
use Rattle.std.specs.Cmp.{first_so, second_so}
use Rattle.std.specs.List.{list_all}
use Rattle.std.proofs.lemmas.Bool.{eqb-true}
use Rattle.std.proofs.lemmas.Bool.Decides.{nat_tests}
use Rattle.std.proofs.lemmas.Grind.{common_steps}
use Rattle.std.proofs.lemmas.List.{length-append, take_at, drop_at, take-append-drop}
use Rattle.std.proofs.lemmas.Slice.Eq.{bytes_eq-Decides}
use Rattle.ul_lines.specs.Pieces.{has, strip, onto, until, cut_end, inside, inner_and_rest}

-- ---- tools

pub some_is : {A : Type 0} (x y : A) → Some x ≡ Some y → x ≡ y
some_is x y e = cc

pub bind_some : {A B : Type 0} (o : Option A) (f : A → Option B) (y : B) → option_and_then f o ≡ Some y → (x : A) × (o ≡ Some x) × (f x ≡ Some y)
bind_some None f y e = absurd cc
bind_some (Some x) f y e = (x, refl, e)

pub map_some : {A B : Type 0} (o : Option A) (f : A → B) (y : B) → option_map f o ≡ Some y → (x : A) × (o ≡ Some x) × (f x ≡ y)
map_some None f y e = absurd cc
map_some (Some x) f y e = (x, refl, some_is (f x) y e)

pub same_text : (a b : List ℕ) → bytes_eq a b ≡ true → a ≡ b
same_text a b h = (bytes_eq-Decides a b).0 h

pub eqb_self : (x : ℕ) → eqb x x ≡ true
eqb_self x = grind (arith, common_steps)

strip_by : (x y : ℕ) (p b r : List ℕ) → (strip p b ≡ Some r → p ++ r ≡ b) → (t : Bool) → eqb x y ≡ t → cond t (strip p b) None ≡ Some r → x ∷ (p ++ r) ≡ y ∷ b
strip_by x y p b r again true q f = let h : x ≡ y = eqb-true x y q in let k : p ++ r ≡ b = again f in cc
strip_by x y p b r again false q f = absurd cc

pub strip_is : (p b r : List ℕ) → strip p b ≡ Some r → p ++ r ≡ b
strip_is [] b r e = sym (some_is b r e)
strip_is (x ∷ p) [] r e = absurd cc
strip_is (x ∷ p) (y ∷ b) r e = strip_by x y p b r (strip_is p b r) (eqb x y) refl e

until_by : (c x : ℕ) (xs t r : List ℕ) → ((u v : List ℕ) → until c xs ≡ Some (u, v) → (u ++ c ∷ v ≡ xs) × (has c u ≡ false)) → (b : Bool) → eqb x c ≡ b → cond b (Some ([], xs)) (option_map (onto x) (until c xs)) ≡ Some (t, r) → (t ++ c ∷ r ≡ x ∷ xs) × (has c t ≡ false)
until_by c x xs t r again true q e =
    let h = some_is ([], xs) (t, r) e in
    let k : x ≡ c = eqb-true x c q in
    subst (λ (p : List ℕ × List ℕ). (p.0 ++ c ∷ p.1 ≡ x ∷ xs) × (has c p.0 ≡ false)) h (ap (λ z. z ∷ xs) (sym k), refl)
until_by c x xs t r again false q e =
    let m = map_some (until c xs) (onto x) (t, r) e in
    let a = again m.0.0 m.0.1 m.1 in
    subst (λ (p : List ℕ × List ℕ). (p.0 ++ c ∷ p.1 ≡ x ∷ xs) × (has c p.0 ≡ false)) m.2 (ap (λ z. x ∷ z) a.0, rw q a.1)

pub until_is : (c : ℕ) (b t r : List ℕ) → until c b ≡ Some (t, r) → (t ++ c ∷ r ≡ b) × (has c t ≡ false)
until_is c [] t r e = absurd cc
until_is c (x ∷ xs) t r e = until_by c x xs t r (λ u v f. until_is c xs u v f) (eqb x c) refl e

pub strip_again : (p r : List ℕ) → strip p (p ++ r) ≡ Some r
strip_again [] r = refl
strip_again (x ∷ p) r = rw (eqb_self x) (strip_again p r)

has_by : (b y : Bool) → (b || y) ≡ false → (b ≡ false) × (y ≡ false)
has_by true y e = absurd cc
has_by false y e = (refl, e)

pub until_again : (c : ℕ) (t r : List ℕ) → has c t ≡ false → until c (t ++ c ∷ r) ≡ Some (t, r)
until_again c [] r h = rw (eqb_self c) refl
until_again c (x ∷ t) r h = let k = has_by (eqb x c) (has c t) h in rw k.0 (ap (option_map (onto x)) (until_again c t r k.1))

pub bytes_eq_self : (t : List ℕ) → bytes_eq t t ≡ true
bytes_eq_self [] = refl
bytes_eq_self (x ∷ t) = rw (eqb_self x) (bytes_eq_self t)

-- what is cut off is what stood there
pub cut_is : (end b t : List ℕ) → cut_end end b ≡ Some t → t ++ end ≡ b
unfolding cut_end
cut_is end b t e = long (nat_lt (length b) (length end)) e
  where
    same : (q : Bool) → bytes_eq (drop (length b - length end) b) end ≡ q → cond q (Some (take (length b - length end) b)) None ≡ Some t → t ++ end ≡ b
    same true q f = ap (λ z. z ++ end) (sym (some_is (take (length b - length end) b) t f)) ∙ (ap (λ z. take (length b - length end) b ++ z) (sym (same_text (drop (length b - length end) b) end q)) ∙ take-append-drop (length b - length end) b)
    same false q f = absurd cc

    long : (p : Bool) → cond p None (cond (bytes_eq (drop (length b - length end) b) end) (Some (take (length b - length end) b)) None) ≡ Some t → t ++ end ≡ b
    long true f = absurd cc
    long false f = same (bytes_eq (drop (length b - length end) b) end) refl f

not_shorter : (t end : List ℕ) → nat_lt (length (t ++ end)) (length end) ≡ false
not_shorter t end = rw (length-append t end) (grind (arith, nat_tests))

left_over : (t end : List ℕ) → length (t ++ end) - length end ≡ length t
left_over t end = omega (arith, length-append t end)

pub cut_again : (end t : List ℕ) → cut_end end (t ++ end) ≡ Some t
unfolding cut_end
cut_again end t = rw (not_shorter t end, left_over t end, drop_at t end (length t) refl, take_at t end (length t) refl, bytes_eq_self end) refl

pub inside_is : (front end b t : List ℕ) → inside front end b ≡ Some t → front ++ (t ++ end) ≡ b
inside_is front end b t e =
    let r = bind_some (strip front b) (cut_end end) t e in
    ap (λ z. front ++ z) (cut_is end r.0 t r.2) ∙ strip_is front b r.0 r.1

pub inside_again : (front end t : List ℕ) → inside front end (front ++ (t ++ end)) ≡ Some t
inside_again front end t = ap (option_and_then (cut_end end)) (strip_again front (t ++ end)) ∙ cut_again end t

-- a front, a text, the byte and the rest
pub enclosed_is : (front : List ℕ) (c : ℕ) (b : List ℕ) (p : List ℕ × List ℕ) → inner_and_rest front c b ≡ Some p → (front ++ (p.0 ++ c ∷ p.1) ≡ b) × (has c p.0 ≡ false)
enclosed_is front c b p e =
    let r = bind_some (strip front b) (until c) p e in
    let u = until_is c r.0 p.0 p.1 r.2 in
    (ap (λ z. front ++ z) u.0 ∙ strip_is front b r.0 r.1, u.1)

pub enclosed_again : (front : List ℕ) (c : ℕ) (t r : List ℕ) → has c t ≡ false → inner_and_rest front c (front ++ (t ++ c ∷ r)) ≡ Some (t, r)
enclosed_again front c t r h = ap (option_and_then (until c)) (strip_again front (t ++ c ∷ r)) ∙ until_again c t r h

-- a byte that doesn't pass the test stands in no text of which each byte does
pub has_none : (p : ℕ → Bool) (c : ℕ) (t : List ℕ) → p c ≡ false → list_all p t ≡ true → has c t ≡ false
has_none p c [] k h = refl
has_none p c (x ∷ t) k h = by_test (eqb x c) refl (has_none p c t k (second_so _ _ h))
  where
    by_test : (b : Bool) → eqb x c ≡ b → has c t ≡ false → (b || has c t) ≡ false
    by_test true q more = let e : x ≡ c = eqb-true x c q in let f : p c ≡ true = ap p (sym e) ∙ first_so _ _ h in absurd cc
    by_test false q more = more

-- ---- going over a text byte by byte

abbrev pub put_front : List ℕ → Option (List ℕ × List ℕ) → Option (List ℕ × List ℕ)
put_front front o = option_map (λ p. (front ++ p.0, p.1)) o

pub put_more : (front : List ℕ) (x : ℕ) (o : Option (List ℕ × List ℕ)) → put_front front (option_map (onto x) o) ≡ put_front (front ++ x ∷ []) o
put_more front x None = refl
put_more front x (Some p) = ap (λ (z : List ℕ). Some (z, p.1)) (sym (append_assoc front (x ∷ []) p.0))

pub strip_empty : (front : List ℕ) (i : ℕ) (rest : List ℕ) (o : Option (List ℕ)) → i < length front → length rest < 1 → strip (drop i front) rest ≡ o → None ≡ o
strip_empty front i [] o h k e = rw (drop-cons front i 0) at e
strip_empty front i (x ∷ rest) o h k e = absurd (omega arith)
