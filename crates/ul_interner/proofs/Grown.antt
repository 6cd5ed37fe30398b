-- What stands at the node of a mark that is made of a label, an identity, a hash and parts.
use Rattle.std.proofs.Common.{◌≡◌, ℕ, zero, suc, ◌<◌, List, [], ◌∷◌, map, length, get_or, ap, sym, ◌∙◌, refl, arith}
use Rattle.std.specs.List.{fold}
use Rattle.ul_core.specs.declared.trees.Tree.{Tree}
use Rattle.ul_core.specs.declared.trees.Tree.TheViews.{out-roll-Tree, roll-out-Tree}
use Rattle.ul_core.specs.declared.trees.Tree.TheFolds.{fold-roll-Tree}
use Rattle.ul_core.specs.Hashes.{tree_hash, next_hash}
use Rattle.ul_core.specs.Trees.{tree_with}
use Rattle.ul_core.proofs.ForCallers.{hash-tree_with}
use Rattle.ul_interner.specs.Marked.{Node, Marked, mark_with, label_of, id_of, stored_hash, parts_of, plain, plain_step, hash_at}

module _ {L : Type 0} where
  pub label_in : (l : L) (s p h : ℕ) (ps : List (Marked L)) (m : Marked L) → mark_with l s p h ps ≡ m → label_of m ≡ l
  label_in l s p h ps m e = sym (ap label_of e) ∙ ap (λ z. z.label.0) (out-roll-Tree (Node L) record { label = (l, (s, p), h); parts = ps })

  pub id_in : (l : L) (s p h : ℕ) (ps : List (Marked L)) (m : Marked L) → mark_with l s p h ps ≡ m → id_of m ≡ (s, p)
  id_in l s p h ps m e = sym (ap id_of e) ∙ ap (λ z. z.label.1) (out-roll-Tree (Node L) record { label = (l, (s, p), h); parts = ps })

  pub hash_in : (l : L) (s p h : ℕ) (ps : List (Marked L)) (m : Marked L) → mark_with l s p h ps ≡ m → stored_hash m ≡ h
  hash_in l s p h ps m e = sym (ap stored_hash e) ∙ ap (λ z. z.label.2) (out-roll-Tree (Node L) record { label = (l, (s, p), h); parts = ps })

  pub parts_in : (l : L) (s p h : ℕ) (ps : List (Marked L)) (m : Marked L) → mark_with l s p h ps ≡ m → parts_of m ≡ ps
  parts_in l s p h ps m e = sym (ap parts_of e) ∙ ap (λ z. z.parts) (out-roll-Tree (Node L) record { label = (l, (s, p), h); parts = ps })

  -- a mark is made of what stands at its node
  pub whole : (m : Marked L) → m ≡ mark_with (label_of m) (id_of m).0 (id_of m).1 (stored_hash m) (parts_of m)
  whole m = sym (roll-out-Tree (Node L) m)

  pub plain_with : (l : L) (s p h : ℕ) (ps : List (Marked L)) → plain (mark_with l s p h ps) ≡ tree_with l (map plain ps)
  plain_with l s p h ps = fold-roll-Tree (Node L) (Tree L) plain_step record { label = (l, (s, p), h); parts = ps }

  -- the tree of a mark is that of its label, with the tree of each part
  pub plain_is : (m : Marked L) → plain m ≡ tree_with (label_of m) (map plain (parts_of m))
  plain_is m = ap plain (whole m) ∙ plain_with (label_of m) (id_of m).0 (id_of m).1 (stored_hash m) (parts_of m)

  map_plain : (f : L → ℕ) (ps : List (Marked L)) → map (tree_hash f) (map plain ps) ≡ map (hash_at f) ps
  map_plain f [] = refl
  map_plain f (p ∷ ps) = ap (λ z. hash_at f p ∷ z) (map_plain f ps)

  -- the hash of a mark's tree is that of its label, with the hash of each part in order
  pub hash_is : (f : L → ℕ) (m : Marked L) → hash_at f m ≡ fold next_hash (f (label_of m)) (map (hash_at f) (parts_of m))
  hash_is f m = ap (tree_hash f) (plain_is m) ∙ (hash-tree_with f (label_of m) (map plain (parts_of m)) ∙ ap (fold next_hash (f (label_of m))) (map_plain f (parts_of m)))

  -- where two lists of marks have the same identities, so do the marks at one place
  pub ids_at : (ms ns : List (Marked L)) (i : ℕ) (x y : Marked L) → map id_of ms ≡ map id_of ns → i < length ms → x ≡ get_or ms i x → y ≡ get_or ns i y → id_of x ≡ id_of y
  ids_at [] ns i x y e l p q = absurd (omega arith)
  ids_at (a ∷ ms) [] i x y e l p q = absurd (cc)
  ids_at (a ∷ ms) (b ∷ ns) zero x y e l p q = let h : id_of a ≡ id_of b = cc in ap id_of p ∙ (h ∙ sym (ap id_of q))
  ids_at (a ∷ ms) (b ∷ ns) (suc i) x y e l p q = let t : map id_of ms ≡ map id_of ns = cc in ids_at ms ns i x y t (omega arith) p q
