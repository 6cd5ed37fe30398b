-- A kind of worlds: each level has a value, and a value can be set without a change of later levels.
use Rattle.std.proofs.Common.{◌≡◌, ◌⊎◌, List, ℕ, false, Less, Greater}
use Rattle.ul_nodes.specs.Plain.{text_cmp, carries}
use Rattle.ul_nodes.specs.Levels.{IsKey}

-- `Ok` is what a level can be set to: each of its keys, and a free value, which is below every key, or, at the
-- levels of points, above every key
pub record Varied (W : Type 0) (value : W → List ℕ → List ℕ) (Ok : List ℕ → List ℕ → Type 0) (free : List ℕ → List ℕ) : Type 0 where
  pub base : W
  pub put : W → (l v : List ℕ) → Ok l v → W
  pub same : (w : W) (l v : List ℕ) (o : Ok l v) → value (put w l v o) l ≡ v
  pub other : (w : W) (l v : List ℕ) (o : Ok l v) (k : List ℕ) → text_cmp l k ≡ Less → value (put w l v o) k ≡ value w k
  pub key_ok : (l k : List ℕ) → IsKey l k → Ok l k
  pub free_ok : (l k : List ℕ) → IsKey l k → Ok l (free l)
  pub free_key : (l k : List ℕ) → IsKey l k → (text_cmp (free l) k ≡ Less) ⊎ ((carries l ≡ false) × (text_cmp (free l) k ≡ Greater))
