-- A list in increasing order, each element once.
use Rattle.std.proofs.Common.{◌≡◌, List, [], ◌∷◌, sym, subst}
use Rattle.std.specs.Prelude.{Contains}
use Rattle.std.specs.Cmp.{IsTotalOrder}
use Rattle.std.specs.declared.cmp.Ordering.{Ordering}
use Rattle.std.specs.declared.cmp.Ordering.TheVariants.{Less, Equal}
use Rattle.ul_base.specs.Increasing.{Increases as Rises, IncreasesFrom as RisesFrom}
use Rattle.ul_problem.specs.Problems.{Increases, IncreasesFrom}
use Rattle.laws_trees.proofs.ForCallers.{ordered_exist}

rising_from : {A : Type 0} (R : A → A → Type 0) (x : A) (xs : List A) → RisesFrom R x xs → IncreasesFrom R x xs
rising_from R x [] h = tt
rising_from R x (y ∷ ys) h = (h.0, rising_from R y ys h.1)

rising : {A : Type 0} (R : A → A → Type 0) (xs : List A) → Rises R xs → Increases R xs
rising R [] h = tt
rising R (x ∷ xs) h = rising_from R x xs h

module _ {A : Type 0} (cmp : A → A → Ordering) (total : IsTotalOrder cmp)
    (same : (a b : A) → cmp a b ≡ Equal → a ≡ b) where
  -- the elements of a list, increasing
  pub record AreSorted (xs zs : List A) : Type 0 where
    pub increasing : Increases (λ a b. cmp a b ≡ Less) zs
    pub has : (y : A) → Contains xs y → Contains zs y
    pub only : (y : A) → Contains zs y → Contains xs y

  -- there is such a list
  pub sorted_exists : (xs : List A) → (zs : List A) × AreSorted xs zs
  sorted_exists xs = let r = ordered_exist cmp total xs in (
    r.0,
    record {
      increasing = rising (λ a b. cmp a b ≡ Less) r.0 r.1.increasing;
      has = λ y m. let z = r.1.level y m in subst (Contains r.0) (sym (same y z.0 z.2)) z.1;
      only = r.1.only;
    },
  )
