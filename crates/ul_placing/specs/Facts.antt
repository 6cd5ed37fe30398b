-- What is known of a reached node, by ranks.
use Rattle.std.specs.Prelude.{◌≡◌, ℕ, List, [], ◌∷◌, Bool, Decides, not, Option, Some, None, map, option_map, length, slice_get}
use Rattle.ul_ranges.specs.Flags.{has}
use Rattle.ul_problem.specs.declared.problem.Need.{Need}
use Rattle.ul_problem.specs.declared.problem.NodeFacts.{NodeFacts}
use Rattle.ul_requirement.specs.declared.wish.Strategy.{Strategy}
use Rattle.ul_index.specs.Catalogs.{is_release_fit}
use Rattle.ul_index.specs.Regions.{Region}
use Rattle.ul_index.specs.Serves.{Suits}
use Rattle.ul_region.specs.declared.rows.Row.{Row}
use Rattle.ul_prepared.specs.declared.prepared.NameFacts.{NameFacts}
use Rattle.ul_prepared.specs.declared.prepared.Planned.{Planned}
use Rattle.ul_prepared.specs.declared.prepared.Prepared.{Prepared}
use Rattle.ul_placing.specs.Ranks.{rank_in}
use Rattle.ul_placing.specs.Runs.{versions_in}
use Rattle.ul_placing.specs.declared.aims.NodeAims.{NodeAims}

-- a need by the rank of its target
abbrev pub need_ranked : List ℕ → Need → Need
need_ranked ranks k = record { node = rank_in ranks k.node; permitted = k.permitted }

-- the needs of a version by ranks
abbrev pub needs_ranked : List ℕ → List Need → List Need
needs_ranked ranks needs = map (need_ranked ranks) needs

-- the versions whose release isn't fit where the strategy asks it to be
pub record AreBarred (strategy : Strategy) (R : Region) (p : Planned) (barred : List Bool) : Type 0 where
  pub size : length barred ≡ length p.rows.items
  pub each : (v : ℕ) (row : Row) → slice_get p.rows.items v ≡ Some row
      → Decides (not (has v barred)) (Suits strategy R (is_release_fit row.release.now))

-- what is known of a node, with what it aims at
pub record IsFacts (R : Region) (all : Prepared) (ranks : List ℕ) (p : Planned) (a : NodeAims) (f : NodeFacts) : Type 0 where
  pub name : NameFacts
  pub at : slice_get all.names.items p.name ≡ Some name
  pub node : f.node ≡ p.node
  pub base : f.base ≡ option_map (rank_in ranks) p.base
  pub versions : f.versions ≡ name.versions
  pub order : f.order ≡ name.order
  pub barred : AreBarred all.wish.now.strategy R p f.barred
  pub needs : f.needs ≡ map (needs_ranked ranks) (versions_in a)

-- of each node that was looked at what is known of it, in order
abbrev pub AreFacts : Region → Prepared → List ℕ → List Planned → List (Option NodeAims) → List NodeFacts → Type 0
AreFacts R all ranks [] [] fs = fs ≡ []
AreFacts R all ranks [] (a ∷ aims) fs = ⊥
AreFacts R all ranks (p ∷ ps) [] fs = ⊥
AreFacts R all ranks (p ∷ ps) (None ∷ aims) fs = AreFacts R all ranks ps aims fs
AreFacts R all ranks (p ∷ ps) (Some a ∷ aims) fs = record {
  facts : NodeFacts;
  rest : List NodeFacts;
  are : fs ≡ facts ∷ rest;
  is : IsFacts R all ranks p a facts;
  more : AreFacts R all ranks ps aims rest;
}
