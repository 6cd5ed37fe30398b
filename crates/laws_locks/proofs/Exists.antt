-- Leaves that can be merged have a lock.
use Rattle.std.proofs.Common.{◌≢◌, List, [], ◌∷◌, false, Contains, refl}
use Rattle.ul_base.proofs.ForCallers.{contains_first, contains_later}
use Rattle.ul_nodes.specs.Plain.{Plain, truth}
use Rattle.ul_nodes.specs.Reduced.{IsReduced}
use Rattle.ul_tree.specs.Simplify.{Simplifies}
use Rattle.ul_tree.proofs.ForCallers.{simplify_laws}
use Rattle.ul_index.specs.Laws.{EligibleRises}
use Rattle.ul_lock.specs.declared.parts.Locked.{Locked}
use Rattle.ul_sound.specs.Leaves.{LeafFields}
use Rattle.ul_sound.specs.Merged.{AreBlocks, AreForks, AreSimplified}
use Rattle.laws_trees.specs.Trees.{TruthTrees}
use Rattle.laws_trees.proofs.ForCallers.{releases_differ}
use Rattle.laws_locks.specs.Exists.{LockExists}
use Rattle.laws_locks.proofs.Blocks.{blocks_exist}
use Rattle.laws_locks.proofs.Edges.{AreMergedParts}

-- ---- forks

module _ (supported : Plain) (reduced : IsReduced supported) (some : supported ≢ truth false) where
  -- each leaf's region is reduced
  abbrev AreReduced : List LeafFields → Type 0
  AreReduced ls = (l : LeafFields) → Contains ls l → IsReduced l.region

  simplified_exist : (ls : List LeafFields) → AreReduced ls → (ts : List Plain) × AreSimplified supported ls ts
  simplified_exist [] h = ([], refl)
  simplified_exist (l ∷ ls) h =
      let t : (t : Plain) × Simplifies l.region supported t = simplify_laws.some_result l.region supported
      (h l (contains_first l ls)) reduced some in
      let ts : (ts : List Plain) × AreSimplified supported ls ts = simplified_exist ls
      (λ k m. h k (contains_later l ls k m)) in
      (t.0 ∷ ts.0, (t.1, ts.1))

  forks_exist : (ls : List LeafFields) → AreReduced ls → (ts : List Plain) × AreForks supported ls ts
  forks_exist [] h = ([], refl)
  forks_exist (l ∷ []) h = ([], refl)
  forks_exist (l ∷ m ∷ ls) h = simplified_exist (l ∷ m ∷ ls) h

-- ---- the lock

pub lock_exists : TruthTrees → EligibleRises → LockExists
lock_exists trees law c p leaves packages requirements h =
    let reduced : IsReduced p.region = h.project.region.reduced in
    let parts : AreMergedParts c leaves p.region = record {
      trees = trees;
      law = law;
      differ = λ n. releases_differ c n packages;
      requirements_are = requirements;
      regions = λ l m. (h.each l m).region;
      eligible_in = λ l m n v e. (h.each l m).eligible_in n v e;
      reduced = reduced;
      some = h.project.some;
    } in
    let forks : (ts : List Plain) × AreForks p.region leaves ts = forks_exist p.region reduced h.project.some leaves
    (λ l m. (h.each l m).region.reduced) in
    let blocks : (bs : List Locked) × AreBlocks c p leaves bs = blocks_exist c p leaves parts in (
      record { root = p.package.name; supported = p.region; forks = forks.0; packages = blocks.0 },
      record { root = refl; supported = refl; forks = forks.1; packages = blocks.1 },
    )
