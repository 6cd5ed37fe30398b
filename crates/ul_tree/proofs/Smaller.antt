-- What two trees are at their first level is smaller.
use Rattle.std.proofs.Common.{◌≡◌, ℕ, ◌+◌, ◌≤◌, ◌<◌, List, sym, subst, arith, Less, Equal, Greater, Ordering, Some}
use Rattle.ul_nodes.specs.Plain.{Plain, truth, node, done, text_cmp, carries, by_order}
use Rattle.ul_nodes.specs.Apply.{size, sizes, rest_at, branches_at, part_at, first_of}
use Rattle.ul_tree.proofs.Picks.{size_pick}
use Rattle.ul_tree.proofs.Applied.{top_smaller}

pub no_larger : (l : List ℕ) (t : Plain) → size (rest_at l t) + sizes (branches_at l t) ≤ size t
no_larger l (truth b) = omega arith
no_larger l (node k d bs) = go (text_cmp l k)
  where
    go : (o : Ordering) → size (by_order o (node k d bs) d (node k d bs)) + sizes (by_order o done bs done) ≤ size (node k d bs)
    go Less = omega arith
    go Equal = omega arith
    go Greater = omega arith

some_level : (l k : List ℕ) → Some l ≡ Some k → l ≡ k
some_level l k e = cc

pub first_smaller : (a b : Plain) (l : List ℕ) → Some l ≡ first_of a b → (size (rest_at l a) + sizes (branches_at l a)) + (size (rest_at l b) + sizes (branches_at l b)) < size a + size b
first_smaller (truth u) (truth v) l e = cc
first_smaller (node i d bs) (truth v) l e =
    subst (λ (j : List ℕ). (size (rest_at j (node i d bs)) + sizes (branches_at j (node i d bs))) + (size (rest_at j (truth v)) + sizes (branches_at j (truth v))) < size (node i d bs) + size (truth v)) (some_level i l (sym e))
    (let s = top_smaller i d bs in omega (arith, s))
first_smaller (truth u) (node k c cs) l e =
    subst (λ (j : List ℕ). (size (rest_at j (truth u)) + sizes (branches_at j (truth u))) + (size (rest_at j (node k c cs)) + sizes (branches_at j (node k c cs))) < size (truth u) + size (node k c cs)) (some_level k l (sym e))
    (let s = top_smaller k c cs in omega (arith, s))
first_smaller (node i d bs) (node k c cs) l e =
    subst (λ (j : List ℕ). (size (rest_at j (node i d bs)) + sizes (branches_at j (node i d bs))) + (size (rest_at j (node k c cs)) + sizes (branches_at j (node k c cs))) < size (node i d bs) + size (node k c cs))
    (some_level (by_order (text_cmp i k) i i k) l (sym e)) (go (text_cmp i k))
  where
    go : (o : Ordering) → (size (rest_at (by_order o i i k) (node i d bs)) + sizes (branches_at (by_order o i i k) (node i d bs)))
        + (size (rest_at (by_order o i i k) (node k c cs)) + sizes (branches_at (by_order o i i k) (node k c cs))) < size (node i d bs) + size (node k c cs)
    go Less = let s = top_smaller i d bs in let t = no_larger i (node k c cs) in omega (arith, s, t)
    go Equal = let s = top_smaller i d bs in let t = no_larger i (node k c cs) in omega (arith, s, t)
    go Greater = let s = top_smaller k c cs in let t = no_larger k (node i d bs) in omega (arith, s, t)

pub rests_smaller : (a b : Plain) (l : List ℕ) → Some l ≡ first_of a b → size (rest_at l a) + size (rest_at l b) < size a + size b
rests_smaller a b l e = let s = first_smaller a b l e in omega (arith, s)

pub parts_smaller : (a b : Plain) (l v : List ℕ) → Some l ≡ first_of a b → size (part_at l v a) + size (part_at l v b) < size a + size b
parts_smaller a b l v e =
    let s = first_smaller a b l e in
    let p = size_pick (branches_at l a) (carries l) v (rest_at l a) in
    let q = size_pick (branches_at l b) (carries l) v (rest_at l b) in
    omega (arith, s, p, q)
