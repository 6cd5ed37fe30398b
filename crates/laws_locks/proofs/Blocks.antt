-- Leaves have the packages of a lock.
use Rattle.std.proofs.Common.{◌≡◌, ℕ, List, Contains, map, refl, sym, ap, subst, inl, is_lt}
use Rattle.ul_base.proofs.ForCallers.{contains_from_map, contains_map}
use Rattle.ul_requirement.specs.Truth.{base}
use Rattle.ul_index.specs.Catalogs.{Packages, release_of}
use Rattle.ul_index.specs.Eligible.{eligible}
use Rattle.ul_project.specs.Fields.{ProjectFields}
use Rattle.ul_lock.specs.declared.parts.Edge.{Edge}
use Rattle.ul_lock.specs.declared.parts.Extra.{Extra}
use Rattle.ul_lock.specs.declared.parts.Locked.{Locked}
use Rattle.ul_lock.specs.Orders.{block_less}
use Rattle.ul_lock.specs.Walk.{Pick}
use Rattle.ul_sound.specs.Leaves.{LeafFields, HasPair}
use Rattle.ul_sound.specs.Merged.{AreBlocks, AreEdgesOf, AreExtrasOf, IsBlock, Pair, block_key, files_in}
use Rattle.laws_locks.proofs.Choices.{chosen_by, chosen_eligible, chosen_from, chosen_to}
use Rattle.laws_locks.proofs.Edges.{AreMergedParts, edges_exist}
use Rattle.laws_locks.proofs.Extras.{extras_exist}
use Rattle.laws_locks.proofs.Indexes.{index_exists}
use Rattle.laws_locks.proofs.Levels.{pair_cmp, pairs_same, pairs_total}

-- the name of a node, and its version
abbrev pair_of : Pick → Pair
pair_of q = (q.0.name, q.1)

module _ (c : Packages) (p : ProjectFields) (leaves : List LeafFields) (h : AreMergedParts c leaves p.region) where
  -- some leaf chose a node of the name at the version
  abbrev IsPair : Pair → Type 0
  IsPair i = HasPair leaves i.0 i.1

  pair_from : (i : Pair) → Contains (map pair_of (chosen_by leaves)) i → IsPair i
  pair_from i m =
      let q : (q : Pick) × Contains (chosen_by leaves) q × (i ≡ pair_of q) = contains_from_map pair_of
      (chosen_by leaves) i m in
      subst IsPair (sym q.2) (q.0.0, refl, chosen_from leaves q.0 q.1)

  pair_listed : (i : Pair) → IsPair i → Contains (map pair_of (chosen_by leaves)) i
  pair_listed i k = subst (λ (n : List ℕ). Contains (map pair_of (chosen_by leaves)) (n, i.1)) k.1
      (contains_map pair_of (chosen_by leaves) (k.0, i.1) (chosen_to leaves k.0 i.1 k.2))

  eligible_pair : (i : Pair) → IsPair i → Contains (eligible c i.0) i.1
  eligible_pair i k = subst (λ (n : List ℕ). Contains (eligible c n) i.1) k.1
      (chosen_eligible c leaves h.eligible_in k.0 i.1 k.2)

  block_made : (i : Pair) → (es : List Edge) × AreEdgesOf c leaves p.region (base i.0, i.1) es
      → (xs : List Extra) × AreExtrasOf c p leaves i.0 i.1 xs
      → (b : Locked) × (block_key b ≡ i) × IsBlock c p leaves b
  block_made i es xs = (
    record { name = i.0; version = i.1; files = files_in (release_of c i.0 i.1); edges = es.0; extras = xs.0 },
    refl,
    record { files = refl; edges = es.1; extras = xs.1 },
  )

  -- leaves have the packages of a lock
  pub blocks_exist : (bs : List Locked) × AreBlocks c p leaves bs
  blocks_exist = index_exists block_key block_less IsPair (IsBlock c p leaves) pair_cmp
      (map pair_of (chosen_by leaves)) (record {
        total = pairs_total;
        below = λ a b e. ap is_lt e;
        same = λ i j v u e. pairs_same h.law c h.differ i j (eligible_pair i v) (eligible_pair j u) e;
        decided = λ i m. inl (pair_from i m);
        listed = pair_listed;
        made = λ i v. block_made i (edges_exist c leaves p.region h (base i.0, i.1))
            (extras_exist c p leaves h i.0 i.1);
      })
