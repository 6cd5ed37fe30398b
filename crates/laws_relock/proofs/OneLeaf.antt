-- A region that is done has a fork answer of one leaf.
use Rattle.std.proofs.Common.{[], ◌∷◌, refl, inr, arith}
use Rattle.ul_generations.specs.declared.outcomes.Outcome.{Outcome}
use Rattle.ul_generations.specs.declared.outcomes.Outcome.TheVariants.{Done}
use Rattle.ul_generations.specs.declared.rows.Leaf.{Leaf}
use Rattle.ul_generations.specs.Generations.{IsForkAnswer, leaves_are}

module _ {S D F : Type 0} (IsOutcome : S → Outcome S D F → Type 0) where
  -- the leaf of a region that is done
  abbrev pub only_leaf : S → D → Leaf S D
  only_leaf region d = record { path = []; region = region; done = d }

  -- a region that is done has such a fork answer
  pub done_forked : (region : S) (d : D) → IsOutcome region (Done d)
      → IsForkAnswer IsOutcome region (1 ∷ []) (leaves_are (only_leaf region d ∷ []))
  done_forked region d is = (
    1,
    inr (record {
      within = omega arith;
      outcomes = Done d ∷ [];
      are = (is, tt);
      later = [];
      sizes = refl;
      follows = (refl, refl);
    }),
  )
