-- The test of trees.
use Rattle.std.proofs.Common.{◌≡◌, ◌≢◌, ℕ, List, Bool, true, false, refl, ap, sym, ◌∙◌}
use Rattle.std.specs.Str.{bytes_eq}
use Rattle.std.proofs.lemmas.Slice.Eq.{bytes_eq-Decides}
use Rattle.ul_nodes.specs.Plain.{Plain, truth, node, Branches, done, branch}
use Rattle.ul_nodes.specs.Apply.{both, same_bool, same, sames}

both_true : (a b : Bool) → both a b ≡ true → (a ≡ true) × (b ≡ true)
both_true true b h = (refl, h)
both_true false b h = cc

both_of : (a b : Bool) → a ≡ true → b ≡ true → both a b ≡ true
both_of true b x y = y
both_of false b x y = cc

bool_true : (a b : Bool) → same_bool a b ≡ true → a ≡ b
bool_true true b h = sym h
bool_true false true h = cc
bool_true false false h = refl

bool_itself : (a : Bool) → same_bool a a ≡ true
bool_itself true = refl
bool_itself false = refl

bytes_true : (k j : List ℕ) → bytes_eq k j ≡ true → k ≡ j
bytes_true k j h = (bytes_eq-Decides k j).0 h

bytes_itself : (k : List ℕ) → bytes_eq k k ≡ true
bytes_itself k = (bytes_eq-Decides k k).1 refl

mutual
  pub same_true : (a b : Plain) → same a b ≡ true → a ≡ b
  same_true (truth a) (truth b) h = ap truth (bool_true a b h)
  same_true (truth a) (node k e cs) h = cc
  same_true (node l d bs) (truth b) h = cc
  same_true (node l d bs) (node k e cs) h =
      let p = both_true (bytes_eq l k) _ h in
      let q = both_true (same d e) (sames bs cs) p.1 in
      ap (λ i. node i d bs) (bytes_true l k p.0) ∙ ap (λ z. node k z bs) (same_true d e q.0) ∙ ap (node k e) (sames_true bs cs q.1)

  pub sames_true : (bs cs : Branches) → sames bs cs ≡ true → bs ≡ cs
  sames_true done done h = refl
  sames_true done (branch j e cs) h = cc
  sames_true (branch k c bs) done h = cc
  sames_true (branch k c bs) (branch j e cs) h =
      let p = both_true (bytes_eq k j) _ h in
      let q = both_true (same c e) (sames bs cs) p.1 in
      ap (λ i. branch i c bs) (bytes_true k j p.0) ∙ ap (λ z. branch j z bs) (same_true c e q.0) ∙ ap (branch j e) (sames_true bs cs q.1)

mutual
  pub same_itself : (a : Plain) → same a a ≡ true
  same_itself (truth a) = bool_itself a
  same_itself (node l d bs) = both_of _ _ (bytes_itself l) (both_of _ _ (same_itself d) (sames_itself bs))

  pub sames_itself : (bs : Branches) → sames bs bs ≡ true
  sames_itself done = refl
  sames_itself (branch k c bs) = both_of _ _ (bytes_itself k) (both_of _ _ (same_itself c) (sames_itself bs))

pub same_false : (a b : Plain) → same a b ≡ false → a ≢ b
same_false a b h e = absurd (go (ap (λ z. same a z) e))
  where
    go : same a a ≡ same a b → ⊥
    go q = let s = same_itself a in cc
