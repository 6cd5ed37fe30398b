-- The code of a tree, by which a proof tells its values apart, and its weight.
use Rattle.std.specs.Prelude.{◌≡◌, ℕ, ◌+◌, ◌≤◌, List, [], ◌∷◌, map, max, refl}
use Rattle.std.proofs.Common.{sym, ap, ◌∙◌, subst, arith}
use base.Stored.{Gv, Coded, coded×, coded_list}
use denote.Param.Weighed.{most}
use Rattle.ul_core.specs.declared.trees.Tree.{Tree}
use Rattle.ul_core.specs.declared.trees.Tree.TheOpen.{Tree-F}
use Rattle.ul_core.specs.declared.trees.Tree.TheViews.{roll-Tree, out-Tree, roll-out-Tree}
use Rattle.ul_core.specs.declared.trees.Tree.TheFolds.{fold-Tree, fold-roll-Tree, fold_out-Tree, ind-Tree}

-- a code is its own code
abbrev pub itself : Coded Gv
itself = record { code = λ g. g; inj = λ x y p. p }

module _ {L : Type 0} (c : Coded L) where
  -- the code of one node, over the codes of its parts
  abbrev pub layer : Coded (L × List Gv)
  layer = coded× c (coded_list itself)

  -- one node, with the code of each part in the part's place
  abbrev pub code_step : Tree-F L Gv → Gv
  code_step n = layer.code (n.label, n.parts)

  -- the code of a tree
  abbrev pub code_of : Tree L → Gv
  code_of = fold-Tree L Gv code_step

  -- a tree is told by its code
  abbrev Told : Tree L → Type 0
  Told t = (u : Tree L) → code_of t ≡ code_of u → t ≡ u

  told_row : (xs : List ((t : Tree L) × Told t)) (us : List (Tree L)) → map code_of (map (λ e. e.0) xs) ≡ map code_of us → map (λ e. e.0) xs ≡ us
  told_row [] [] e = refl
  told_row [] (u ∷ us) e = absurd (cc)
  told_row (x ∷ xs) [] e = absurd (cc)
  told_row (x ∷ xs) (u ∷ us) e = let h : code_of x.0 ≡ code_of u = cc in let t : map code_of (map (λ e. e.0) xs) ≡ map code_of us = cc in
      let a = x.1 u h in let b = told_row xs us t in λ i. a i ∷ b i

  pub told : (t : Tree L) → Told t
  told = ind-Tree L Told (λ x y is. subst (λ z. Told (roll-Tree L z)) is (λ u e.
      let z : Tree-F L (Tree L) = record { label = y.label; parts = map (λ k. k.0) y.parts } in
      let same = sym (fold-roll-Tree L Gv code_step z) ∙ (e ∙ fold_out-Tree L Gv code_step u) in
      let both : (y.label, map code_of (map (λ k. k.0) y.parts)) ≡ ((out-Tree L u).label, map code_of (out-Tree L u).parts) =
      layer.inj (y.label, map code_of (map (λ k. k.0) y.parts)) ((out-Tree L u).label, map code_of (out-Tree L u).parts) same in
      let ps = told_row y.parts (out-Tree L u).parts (ap (λ k. k.1) both) in
      (λ i. roll-Tree L record { label = (both i).0; parts = ps i }) ∙ roll-out-Tree L u))

  -- trees have a code where their labels have one
  abbrev pub tree_code : Coded (Tree L)
  tree_code = record { code = code_of; inj = told }

-- the sum of a list
abbrev pub total_of : List ℕ → ℕ
total_of [] = 0
total_of (n ∷ ns) = n + total_of ns

-- one node, with the weight of each part in the part's place
abbrev pub weight_step : {L : Type 0} → Tree-F L ℕ → ℕ
weight_step n = 1 + total_of n.parts

-- the weight of a tree: how many nodes it has
abbrev pub weight : {L : Type 0} → Tree L → ℕ
weight = fold-Tree _ ℕ weight_step

most_le : {L : Type 0} → (ks : List (Tree L)) → most (λ k. weight k + 1) ks ≤ total_of (map weight ks) + 1
most_le [] = omega arith
most_le (k ∷ ks) = omega (arith, most_le ks)

-- the parts of a tree are lighter than the tree, in the form that a recursion over a plant asks for
pub lighter : {L : Type 0} → (l : L) (ps : List (Tree L)) → max (most (λ k. weight k + 1) ps) 0 ≤ weight (roll-Tree L record { label = l; parts = ps })
lighter {L} l ps = omega (arith, most_le ps, fold-roll-Tree L ℕ weight_step record { label = l; parts = ps })
