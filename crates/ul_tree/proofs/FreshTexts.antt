-- A text of `x` alone that is no key.
use Rattle.std.proofs.Common.{◌≡◌, ◌≢◌, ℕ, suc, zero, ◌+◌, ◌-◌, ◌≤◌, ◌<◌, List, [], ◌∷◌, ◌++◌, length, Bool, true, false, ◌||◌, cond, refl, ap, sym, ◌∙◌, arith, drop, get_or, Global, String, string_bytes}
use Rattle.std.specs.Str.{bytes_eq}
use Rattle.std.proofs.lemmas.Slice.Eq.{bytes_eq-Decides}
use Rattle.std.proofs.Math.ListN.{length-append}
use Rattle.ul_nodes.specs.Plain.{Branches, done, branch}
use Rattle.ul_tree.specs.Sample.{has_key, key_lengths, fresh_from, fresh}
use Rattle.ul_tree.specs.Views.{points_view}
use Rattle.ul_tree.specs.declared.tree.Tree.{Tree}
use Rattle.ul_tree.proofs.Extras.{NoKey, no_key_long}
use Rattle.ul_tree.proofs.Rebuilt.{points_left}

no_key_test : (bs : Branches) (x : List ℕ) → has_key bs x ≡ false → NoKey x bs
no_key_test done x h = tt
no_key_test (branch k c rest) x h = go (bytes_eq k x) refl h (no_key_test rest x)
  where
    go : (t : Bool) → bytes_eq k x ≡ t → (t || has_key rest x) ≡ false → (has_key rest x ≡ false → NoKey x rest) → (x ≢ k) × NoKey x rest
    go true e h ih = cc
    go false e h ih = (λ q. let p : true ≡ false = sym ((bytes_eq-Decides k x).1 (sym q)) ∙ e in cc, ih h)

fresh_from_no_key : (n : ℕ) (bs : Branches) (x : List ℕ) → key_lengths bs < length x + n → NoKey (fresh_from n bs x) bs
fresh_from_no_key zero bs x h = no_key_long bs x (omega arith)
fresh_from_no_key (suc n) bs x h = let p = length-append x (120 ∷ []) in go (has_key bs x) refl (fresh_from_no_key n bs (x ++ 120 ∷ []) (omega (arith, p)))
  where
    go : (t : Bool) → has_key bs x ≡ t → NoKey (fresh_from n bs (x ++ 120 ∷ [])) bs → NoKey (cond t (fresh_from n bs (x ++ 120 ∷ [])) x) bs
    go true e m = m
    go false e m = no_key_test bs x e

pub fresh_no_key : (bs : Branches) → NoKey (fresh bs) bs
fresh_no_key bs = fresh_from_no_key (suc (key_lengths bs)) bs [] (omega arith)

-- a key is no longer than all keys together
pub key_short : (bs : Branches) (x : List ℕ) → has_key bs x ≡ true → length x ≤ key_lengths bs
key_short done x h = cc
key_short (branch k c rest) x h = go (bytes_eq k x) refl h (key_short rest x)
  where
    go : (t : Bool) → bytes_eq k x ≡ t → (t || has_key rest x) ≡ true → (has_key rest x ≡ true → length x ≤ key_lengths rest) → length x ≤ length k + key_lengths rest
    go true e h ih = let p = ap (length {A = ℕ}) ((bytes_eq-Decides k x).0 e) in omega (arith, p)
    go false e h ih = let p = ih h in omega (arith, p)

-- one turn of the search, and its end
pub fresh_more : (bs : Branches) (x y z : List ℕ) → ((n : ℕ) → n + length x ≡ suc (key_lengths bs) → fresh_from n bs x ≡ z) → has_key bs x ≡ true → y ≡ x ++ 120 ∷ []
    → (n : ℕ) → n + length y ≡ suc (key_lengths bs) → fresh_from n bs y ≡ z
fresh_more bs x y z h k e n s =
    let p = ap (length {A = ℕ}) e in
    let q = length-append x (120 ∷ []) in
    ap (fresh_from n bs) e ∙ sym (ap (λ t. cond t (fresh_from n bs (x ++ 120 ∷ [])) x) k) ∙ h (suc n) (omega (arith, p, q))

pub fresh_end : (bs : Branches) (x z : List ℕ) → ((n : ℕ) → n + length x ≡ suc (key_lengths bs) → fresh_from n bs x ≡ z) → has_key bs x ≡ false → length x ≤ suc (key_lengths bs) → x ≡ z
fresh_end bs x z h k s = go (suc (key_lengths bs) - length x) (omega arith)
  where
    go : (n : ℕ) → n + length x ≡ suc (key_lengths bs) → x ≡ z
    go zero e = h zero e
    go (suc n) e = sym (ap (λ t. cond t (fresh_from n bs (x ++ 120 ∷ [])) x) k) ∙ h (suc n) e

-- the next point has the key, or hasn't
pub key_met : (ps : List (String Global × Tree)) (i : ℕ) (p : String Global × Tree) (x : List ℕ) → i < length ps → p ≡ get_or ps i p → bytes_eq (string_bytes p.0) x ≡ true → has_key (points_view (drop i ps)) x ≡ true
key_met ps i p x h is e = ap (λ z. has_key z x) (points_left ps i p h is) ∙ ap (λ t. t || has_key (points_view (drop (i + 1) ps)) x) e

pub key_passed : (ps : List (String Global × Tree)) (i : ℕ) (p : String Global × Tree) (x : List ℕ) → i < length ps → p ≡ get_or ps i p → bytes_eq (string_bytes p.0) x ≡ false
    → has_key (points_view (drop (i + 1) ps)) x ≡ has_key (points_view (drop i ps)) x
key_passed ps i p x h is e = sym (ap (λ z. has_key z x) (points_left ps i p h is) ∙ ap (λ t. t || has_key (points_view (drop (i + 1) ps)) x) e)
