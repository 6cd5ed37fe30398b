use Rattle.std.proofs.Common.{◌≡◌, ℕ, ◌+◌, ◌<◌, ◌≤◌, List, length, get_or, take, map, ap, sym, ◌∙◌}
use Rattle.std.proofs.lemmas.List.{get_or_read, map_more, take_all, take_more_same}
use Rattle.std.proofs.lemmas.List.Sums.{fold_push}
use Rattle.ul_core.specs.declared.trees.Tree.{Tree}
use Rattle.ul_core.specs.declared.trees.Tree.TheViews.{out-Tree, out-roll-Tree}
use Rattle.ul_core.specs.declared.trees.Tree.TheFolds.{fold-roll-Tree}
use Rattle.std.specs.List.{fold}
use Rattle.ul_core.specs.Hashes.{tree_hash, node_hash, next_hash}
use Rattle.ul_core.specs.Trees.{tree_with}

module _ {L : Type 0} where
  pub label_same : (l l' : L) (ps ps' : List (Tree L)) (a b : Tree L) → tree_with l ps ≡ a → tree_with l' ps' ≡ b → a ≡ b → l ≡ l'
  label_same l l' ps ps' a b ea eb e = sym (ap (λ z. z.label) (out-roll-Tree _ record { label = l; parts = ps })) ∙ (ap (λ z. (out-Tree _ z).label) (ea ∙ (e ∙ sym eb)) ∙ ap (λ z. z.label) (out-roll-Tree _ record { label = l'; parts = ps' }))

  pub parts_same : (l l' : L) (ps ps' : List (Tree L)) (a b : Tree L) → tree_with l ps ≡ a → tree_with l' ps' ≡ b → a ≡ b → ps ≡ ps'
  parts_same l l' ps ps' a b ea eb e = sym (ap (λ z. z.parts) (out-roll-Tree _ record { label = l; parts = ps })) ∙ (ap (λ z. (out-Tree _ z).parts) (ea ∙ (e ∙ sym eb)) ∙ ap (λ z. z.parts) (out-roll-Tree _ record { label = l'; parts = ps' }))

  pub whole_same : (l l' : L) (ps ps' : List (Tree L)) (a b : Tree L) → tree_with l ps ≡ a → tree_with l' ps' ≡ b → l ≡ l' → ps ≡ ps' → a ≡ b
  whole_same l l' ps ps' a b ea eb x y = sym ea ∙ ((λ i. tree_with (x i) (y i)) ∙ eb)

  -- the parts of a tree
  pub parts_of : (l : L) (ps : List (Tree L)) (t : Tree L) → tree_with l ps ≡ t → ps ≡ (out-Tree _ t).parts
  parts_of l ps t e = sym (ap (λ z. z.parts) (out-roll-Tree _ record { label = l; parts = ps })) ∙ ap (λ z. (out-Tree _ z).parts) e

  -- the label of a tree
  pub label_of : (l : L) (ps : List (Tree L)) (t : Tree L) → tree_with l ps ≡ t → l ≡ (out-Tree _ t).label
  label_of l ps t e = sym (ap (λ z. z.label) (out-roll-Tree _ record { label = l; parts = ps })) ∙ ap (λ z. (out-Tree _ z).label) e

  -- the hash of a tree is that of its label, with the hash of each part in order
  pub hash-tree_with : (f : L → ℕ) (l : L) (ps : List (Tree L)) → tree_hash f (tree_with l ps) ≡ fold next_hash (f l) (map (tree_hash f) ps)
  hash-tree_with f l ps = fold-roll-Tree L ℕ (node_hash f) record { label = l; parts = ps }

  -- the parts of a tree that is made of them
  pub parts_of_tree_with : (l : L) (ps : List (Tree L)) → (out-Tree _ (tree_with l ps)).parts ≡ ps
  parts_of_tree_with l ps = ap (λ z. z.parts) (out-roll-Tree _ record { label = l; parts = ps })

  -- the label of a tree that is made with it
  pub label_of_tree_with : (l : L) (ps : List (Tree L)) → (out-Tree _ (tree_with l ps)).label ≡ l
  label_of_tree_with l ps = ap (λ z. z.label) (out-roll-Tree _ record { label = l; parts = ps })

-- the hash of the parts before a place, with that place's part
pub hash_next : {L : Type 0} (f : L → ℕ) (begun : ℕ) (ts : List (Tree L)) (i : ℕ) (t : Tree L) (hash part next : ℕ) → next ≡ next_hash hash part → part ≡ tree_hash f t →
    hash ≡ fold next_hash begun (map (tree_hash f) (take i ts)) → i < length ts → t ≡ get_or ts i t → next ≡ fold next_hash begun (map (tree_hash f) (take (i + 1) ts))
hash_next f begun ts i t hash part next is own so_far l at =
    is ∙ (λ j. next_hash (so_far j) ((own ∙ ap (tree_hash f) at) j)) ∙ sym (fold_push next_hash begun (map (tree_hash f) (take i ts)) (tree_hash f (get_or ts i t)))
    ∙ ap (fold next_hash begun) (sym (map_more (tree_hash f) ts i t l))

-- lists of trees that are the same before a place are so up to it, where the trees there are
pub same_next : {L : Type 0} (xs ys : List (Tree L)) (i : ℕ) (x y : Tree L) → take i xs ≡ take i ys → i < length xs → i < length ys → x ≡ get_or xs i x → y ≡ get_or ys i y → x ≡ y → take (i + 1) xs ≡ take (i + 1) ys
same_next xs ys i x y before l m p q e = take_more_same xs ys i x l m before (sym p ∙ e ∙ get_or_read ys i y m q x)

-- lists of trees that are the same before their ends are the same
pub same_all : {L : Type 0} (xs ys : List (Tree L)) (i : ℕ) → take i xs ≡ take i ys → length xs ≤ i → length ys ≤ i → xs ≡ ys
same_all xs ys i before l m = sym (take_all i xs l) ∙ before ∙ take_all i ys m

-- the trees at a place of lists that are the same are the same
pub same_at : {L : Type 0} (xs ys : List (Tree L)) (i : ℕ) (x y : Tree L) → xs ≡ ys → i < length xs → x ≡ get_or xs i x → y ≡ get_or ys i y → x ≡ y
same_at xs ys i x y e l p q = get_or_read xs i x l p y ∙ ap (λ zs. get_or zs i y) e ∙ sym q
