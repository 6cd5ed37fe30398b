-- What the firm requirements of a node's versions aim at, as needs by the places of all nodes.
use Rattle.std.specs.Prelude.{◌≡◌, ◌⊎◌, ℕ, List, [], ◌∷◌, ◌++◌, Some, length, slice_get}
use Rattle.ul_base.specs.declared.node.Node.{Node}
use Rattle.ul_problem.specs.declared.problem.Need.{Need}
use Rattle.ul_index.specs.Applied.{IsFirm}
use Rattle.ul_index.specs.Regions.{Region}
use Rattle.ul_region.specs.Rows.{IsRow}
use Rattle.ul_region.specs.Truths.{DiagramMark, PassView}
use Rattle.ul_region.specs.declared.rows.Asked.{Asked}
use Rattle.ul_region.specs.declared.rows.Row.{Row}
use Rattle.ul_prepared.specs.declared.prepared.Planned.{Planned}

-- the needs of those requirements at which P holds, in order; each requirement has its list of needs
abbrev pub AreThoseOf : (Asked → Type 0) → List Asked → List (List Need) → List Need → Type 0
AreThoseOf P [] [] needs = needs ≡ []
AreThoseOf P [] (r ∷ rs) needs = ⊥
AreThoseOf P (a ∷ asked) [] needs = ⊥
AreThoseOf P (a ∷ asked) (r ∷ rs) needs =
    (record { holds : P a; rest : List Need; are : needs ≡ r ++ rest; more : AreThoseOf P asked rs rest })
    ⊎ (record { fails : P a → ⊥; more : AreThoseOf P asked rs needs })

-- a requirement of a row is firm among all of the release
abbrev pub IsFirmIn : Region → Node → Row → Asked → Type 0
IsFirmIn R n row a = IsFirm row.release.now.requirements R n a.requirement.now

-- the needs of the firm requirements of a row, in order
abbrev pub AreFirmNeeds : Region → Node → Row → List (List Need) → List Need → Type 0
AreFirmNeeds R n row aims needs = AreThoseOf (IsFirmIn R n row) row.asked aims needs

-- the row of each version is right, and each of its requirements has its list of needs
pub record AreRowsOf (h : PassView) (truths : List DiagramMark) (p : Planned) : Type 0 where
  pub count : length p.aims.items ≡ length p.rows.items
  pub each : (v : ℕ) (row : Row) (aims : List (List Need)) → slice_get p.rows.items v ≡ Some row
      → slice_get p.aims.items v ≡ Some aims → IsRow h p.node truths row × (length aims ≡ length row.asked)

-- of each version of a node the needs of its firm requirements
pub record AreAimsOf (R : Region) (p : Planned) (list : List (List Need)) : Type 0 where
  pub count : length list ≡ length p.rows.items
  pub each : (v : ℕ) (row : Row) (aims : List (List Need)) (needs : List Need) → slice_get p.rows.items v ≡ Some row
      → slice_get p.aims.items v ≡ Some aims → slice_get list v ≡ Some needs → AreFirmNeeds R p.node row aims needs
