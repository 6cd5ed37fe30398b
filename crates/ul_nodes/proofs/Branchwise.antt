-- Two lists of branches that give each value the same part are one list.
use Rattle.std.proofs.Common.{◌≡◌, ℕ, List, Bool, refl, ap, sym, ◌∙◌, subst, Less, Equal, Greater, Ordering, Option, Some, None}
use Rattle.ul_nodes.specs.Plain.{Plain, Branches, done, branch, text_cmp, carries, carried_part, by_order, pick}
use Rattle.ul_nodes.specs.Reduced.{FitsAll, IsAfter, StartsAfter}
use Rattle.ul_nodes.specs.Levels.{IsKey}
use Rattle.ul_nodes.proofs.Order.{cmp_itself, cmp_equal, cmp_back, cmp_over, cmp_trans}

-- at its own key a branch is taken
pub at_key : (k : List ℕ) (c d : Plain) (rest : Branches) (m : Bool) → pick (branch k c rest) m k d ≡ c
at_key k c d rest m = ap (λ o. by_order o d c (pick rest m k (carried_part m c d))) (cmp_itself k)

pub before_key : (v k : List ℕ) (c d : Plain) (rest : Branches) (m : Bool) → text_cmp v k ≡ Less → pick (branch k c rest) m v d ≡ d
before_key v k c d rest m e = ap (λ o. by_order o d c (pick rest m v (carried_part m c d))) e

pub past_key : (v k : List ℕ) (c d : Plain) (rest : Branches) (m : Bool) → text_cmp k v ≡ Less → pick (branch k c rest) m v d ≡ pick rest m v (carried_part m c d)
past_key v k c d rest m e = ap (λ o. by_order o d c (pick rest m v (carried_part m c d))) (cmp_back k v e)

pub after : (b : Option (List ℕ)) (k v : List ℕ) → IsAfter b k → text_cmp k v ≡ Less → IsAfter b v
after None k v x e = tt
after (Some j) k v x e = cmp_trans j k v x e

module _ (Ok : List ℕ → List ℕ → Type 0) (key_ok : (l k : List ℕ) → IsKey l k → Ok l k) where
  pub same_branches : (xs bs : Branches) (l : List ℕ) (d : Plain) (b : Option (List ℕ)) → FitsAll xs l d → FitsAll bs l d → StartsAfter b xs → StartsAfter b bs
      → ((v : List ℕ) → Ok l v → IsAfter b v → pick xs (carries l) v d ≡ pick bs (carries l) v d) → xs ≡ bs
  same_branches done done l d b x y p q h = refl
  same_branches done (branch k c rest) l d b x y p q h = absurd (y.3 (sym (h k (key_ok l k y.0) q ∙ at_key k c d rest (carries l))))
  same_branches (branch k c rest) done l d b x y p q h = absurd (x.3 (sym (at_key k c d rest (carries l)) ∙ h k (key_ok l k x.0) p))
  same_branches (branch k c rest) (branch j e more) l d b x y p q h = go (text_cmp k j) refl (same_branches rest more l (carried_part (carries l) c d) (Some k) x.4)
    where
      go : (o : Ordering) → text_cmp k j ≡ o
          → (FitsAll more l (carried_part (carries l) c d) → StartsAfter (Some k) rest → StartsAfter (Some k) more
          → ((v : List ℕ) → Ok l v → IsAfter (Some k) v → pick rest (carries l) v (carried_part (carries l) c d) ≡ pick more (carries l) v (carried_part (carries l) c d)) → rest ≡ more)
          → branch k c rest ≡ branch j e more
      go Less w ih = absurd (x.3 (sym (at_key k c d rest (carries l)) ∙ h k (key_ok l k x.0) p ∙ before_key k j e d more (carries l) w))
      go Greater w ih = absurd (y.3 (sym (at_key j e d more (carries l)) ∙ sym (h j (key_ok l j y.0) q) ∙ before_key j k c d rest (carries l) (cmp_over k j w)))
      go Equal w ih =
          let m = carries l in
          let same_key : k ≡ j = cmp_equal k j w in
          let same_part : c ≡ e = sym (at_key k c d rest m) ∙ h k (key_ok l k x.0) p ∙ ap (λ i. pick (branch j e more) m i d) same_key ∙ at_key j e d more m in
          let same_rest : rest ≡ more = ih (subst (λ (z : Plain). FitsAll more l (carried_part m z d)) (sym same_part) y.4) x.1 (subst (λ (i : List ℕ). StartsAfter (Some i) more) (sym same_key) y.1)
          (λ v o a. sym (past_key v k c d rest m a) ∙ h v o (after b k v p a) ∙ past_key v j e d more m (subst (λ (i : List ℕ). text_cmp i v ≡ Less) same_key a)
          ∙ ap (λ z. pick more m v (carried_part m z d)) (sym same_part)) in
          ap (λ i. branch i c rest) same_key ∙ ap (λ z. branch j z rest) same_part ∙ ap (branch j e) same_rest
