-- Equal numbers, bytes and steps.
use Rattle.std.proofs.Common.{◌≡◌, ℕ, suc, ◌<◌, List, [], ◌∷◌, Bool, true, false, eqb, refl, ap, sym, ◌∙◌, arith, Less}
use Rattle.std.proofs.lemmas.Bool.{eq-eqb, eqb-true}
use Rattle.std.proofs.lemmas.Map.Text.{is_eq-slice_cmp}
use Rattle.std.specs.Str.{bytes_eq}
use Rattle.std.specs.Ordering.{is_eq}
use Rattle.ul_nodes.specs.Plain.{text_cmp}
use Rattle.ul_tree.specs.PathList.{Step, interval, point, others}
use Rattle.ul_tree.specs.Fans.{same_keys, same_step}

pub eqb_self : (x : ℕ) → eqb x x ≡ true
eqb_self x = eq-eqb x x refl

-- unequal numbers
pub eqb_less : (x y : ℕ) → x < y → eqb x y ≡ false
eqb_less x y h = go (eqb x y) refl
  where
    go : (b : Bool) → eqb x y ≡ b → b ≡ false
    go true e = let q : x ≡ y = eqb-true x y e in absurd (omega arith)
    go false e = refl

pub bytes_self : (k : List ℕ) → bytes_eq k k ≡ true
bytes_self [] = refl
bytes_self (x ∷ k) = rw (eqb_self x) (bytes_self k)

-- a key that comes before another isn't it
pub less_differs : (k j : List ℕ) → text_cmp k j ≡ Less → bytes_eq k j ≡ false
less_differs k j e = sym (is_eq-slice_cmp k j) ∙ ap is_eq e

keys_self : (ks : List (List ℕ)) → same_keys ks ks ≡ true
keys_self [] = refl
keys_self (k ∷ ks) = rw (bytes_self k) (keys_self ks)

pub step_self : (s : Step) → same_step s s ≡ true
step_self (interval a b) = rw (eqb_self a, eqb_self b) refl
step_self (point l k) = rw (bytes_self l) (bytes_self k)
step_self (others l ks) = rw (bytes_self l) (keys_self ks)

-- a positive number isn't zero
pub eqb_positive : (n : ℕ) → eqb (suc n) 0 ≡ false
eqb_positive n = go (eqb (suc n) 0) refl
  where
    go : (b : Bool) → eqb (suc n) 0 ≡ b → b ≡ false
    go true e = let q : suc n ≡ 0 = eqb-true (suc n) 0 e in absurd (omega arith)
    go false e = refl
