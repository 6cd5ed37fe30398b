-- Leaves merge into at most one lock.
use Rattle.std.proofs.Common.{◌≡◌, ℕ, List, [], ◌∷◌, sym, ap, ap₂, ◌∙◌, subst}
use Rattle.std.specs.Bool.{one_answer}
use Rattle.ul_version.specs.Fields.{Fields}
use Rattle.ul_comparison.specs.Worlds.{WorldFields}
use Rattle.ul_requirement.specs.Truth.{base, with_extra}
use Rattle.ul_nodes.specs.Plain.{Plain}
use Rattle.ul_tree.specs.Simplify.{Simplifies}
use Rattle.ul_tree.specs.Values.{tree_holds}
use Rattle.ul_tree.proofs.ForCallers.{one_truth_one_tree, simplify_laws}
use Rattle.ul_index.specs.Catalogs.{Packages, release_of}
use Rattle.ul_project.specs.Fields.{ProjectFields}
use Rattle.ul_lock.specs.declared.parts.Edge.{Edge}
use Rattle.ul_lock.specs.declared.parts.Extra.{Extra}
use Rattle.ul_lock.specs.declared.parts.Locked.{Locked}
use Rattle.ul_lock.specs.declared.parts.Lock.{Lock}
use Rattle.ul_lock.specs.Orders.{edge_less, extra_less, block_less}
use Rattle.ul_lock.specs.Walk.{Pick}
use Rattle.ul_sound.specs.Leaves.{LeafFields, HasPair}
use Rattle.ul_sound.specs.Merged.{Pair, IsSimplified, IsTrueEdge, IsTrueSomewhere, edge_key, extra_key, block_key, files_in, IsRightEdge, AreEdgesOf, IsWantedExtra, AreExtrasOf, IsBlock, AreBlocks, AreSimplified, AreForks, IsMergedLock}
use Rattle.ul_sound.proofs.Strict.{blocks_strict, edges_strict, extras_strict}
use Rattle.ul_sound.proofs.Indexes.{index_once}

-- one truth has one simplified tree
pub simplified_once : (Truth : WorldFields → Type 0) (s m n : Plain) → IsSimplified Truth s m → IsSimplified Truth s n → m ≡ n
simplified_once Truth s m n h j =
    let same : h.tree ≡ j.tree = one_truth_one_tree h.tree j.tree h.reduced j.reduced
    (λ w x is ascii extra. one_answer (tree_holds h.tree w x) (tree_holds j.tree w x) (h.truth w x is) (j.truth w x is)) in
    simplify_laws.one_result j.tree s m n (subst (λ t. Simplifies t s m) same h.simplifies) j.simplifies

forks_same : (s : Plain) (ls : List LeafFields) (xs ys : List Plain) → AreSimplified s ls xs → AreSimplified s ls ys → xs ≡ ys
forks_same s [] xs ys h j = h ∙ sym j
forks_same s (l ∷ ls) [] ys h j = absurd h
forks_same s (l ∷ ls) (x ∷ xs) [] h j = absurd j
forks_same s (l ∷ ls) (x ∷ xs) (y ∷ ys) h j = ap₂ ◌∷◌ (simplify_laws.one_result l.region s x y h.0 j.0) (forks_same s ls xs ys h.1 j.1)

forks_once : (s : Plain) (ls : List LeafFields) (xs ys : List Plain) → AreForks s ls xs → AreForks s ls ys → xs ≡ ys
forks_once s [] xs ys h j = h ∙ sym j
forks_once s (l ∷ []) xs ys h j = h ∙ sym j
forks_once s (l ∷ m ∷ ls) xs ys h j = forks_same s (l ∷ m ∷ ls) xs ys h j

module _ (c : Packages) (p : ProjectFields) (leaves : List LeafFields) where
  edge_once : (n : Pick) (a b : Edge) → edge_key a ≡ edge_key b → IsRightEdge c leaves p.region n a → IsRightEdge c leaves p.region n b → a ≡ b
  edge_once n a b e h j =
      let moved : IsSimplified (IsTrueEdge c leaves n (edge_key b)) p.region a.marker = subst (λ (q : Pick). IsSimplified (IsTrueEdge c leaves n q) p.region a.marker) e h in
      let marker : a.marker ≡ b.marker = simplified_once (IsTrueEdge c leaves n (edge_key b)) p.region a.marker b.marker moved j in
      λ i. record { target = (e i).0; version = (e i).1; marker = marker i }

  edges_once : (n : Pick) (xs ys : List Edge) → AreEdgesOf c leaves p.region n xs → AreEdgesOf c leaves p.region n ys → xs ≡ ys
  edges_once n xs ys h j = index_once edge_less edges_strict edge_key (IsTrueSomewhere c leaves n) (IsRightEdge c leaves p.region n) (edge_once n) xs ys h j

  extra_once : (n : List ℕ) (v : Fields) (a b : Extra) → extra_key a ≡ extra_key b
      → AreEdgesOf c leaves p.region (with_extra n a.name, v) a.edges → AreEdgesOf c leaves p.region (with_extra n b.name, v) b.edges → a ≡ b
  extra_once n v a b e h j =
      let edges : a.edges ≡ b.edges = edges_once (with_extra n b.name, v) a.edges b.edges (subst (λ (x : List ℕ). AreEdgesOf c leaves p.region (with_extra n x, v) a.edges) e h) j in
      λ i. record { name = e i; edges = edges i }

  extras_once : (n : List ℕ) (v : Fields) (xs ys : List Extra) → AreExtrasOf c p leaves n v xs → AreExtrasOf c p leaves n v ys → xs ≡ ys
  extras_once n v xs ys h j = index_once extra_less extras_strict extra_key (IsWantedExtra p leaves n v)
      (λ x. AreEdgesOf c leaves p.region (with_extra n x.name, v) x.edges) (extra_once n v) xs ys h j

  block_once : (a b : Locked) → block_key a ≡ block_key b → IsBlock c p leaves a → IsBlock c p leaves b → a ≡ b
  block_once a b e h j =
      let files : a.files ≡ b.files = h.files ∙ ap (λ (i : Pair). files_in (release_of c i.0 i.1)) e ∙ sym j.files in
      let edges : a.edges ≡ b.edges = edges_once (base b.name, b.version) a.edges b.edges (subst (λ (i : Pair). AreEdgesOf c leaves p.region (base i.0, i.1) a.edges) e h.edges) j.edges in
      let extras : a.extras ≡ b.extras = extras_once b.name b.version a.extras b.extras (subst (λ (i : Pair). AreExtrasOf c p leaves i.0 i.1 a.extras) e h.extras) j.extras in
      λ i. record { name = (e i).0; version = (e i).1; files = files i; edges = edges i; extras = extras i }

  blocks_once : (xs ys : List Locked) → AreBlocks c p leaves xs → AreBlocks c p leaves ys → xs ≡ ys
  blocks_once xs ys h j = index_once block_less blocks_strict block_key (λ (i : Pair). HasPair leaves i.0 i.1) (IsBlock c p leaves) block_once xs ys h j

pub merged_once : (c : Packages) (p : ProjectFields) (leaves : List LeafFields) (l k : Lock) → IsMergedLock c p leaves l → IsMergedLock c p leaves k → l ≡ k
merged_once c p leaves l k h j =
    let root : l.root ≡ k.root = h.root ∙ sym j.root in
    let supported : l.supported ≡ k.supported = h.supported ∙ sym j.supported in
    let forks : l.forks ≡ k.forks = forks_once p.region leaves l.forks k.forks h.forks j.forks in
    let packages : l.packages ≡ k.packages = blocks_once c p leaves l.packages k.packages h.packages j.packages in
    λ i. record { root = root i; supported = supported i; forks = forks i; packages = packages i }
