use Rattle.std.specs.Prelude.{All, Contains, slice_get}
use Rattle.std.proofs.Common.{◌≡◌, ◌<◌, ℕ, Some}
use Rattle.ul_index.specs.Catalogs.{is_release_fit}
use Rattle.ul_index.specs.Serves.{Suits}
use Rattle.ul_region.specs.Truths.{region_at}
use Rattle.ul_region.specs.declared.rows.Row.{Row}
use Rattle.ul_placing.proofs.facts.barred_of.Given as goal

abbrev pub invariant-loop-version : goal.invariant-loop-version
invariant-loop-version l = record {
  below : All (λ (m : ℕ). m < l.version) l.barred.items;
  holds : (v : ℕ) (row : Row) → v < l.version → slice_get l.planned.rows.items v ≡ Some row → (Contains l.barred.items v → ⊥) → Suits l.strategy (region_at l.place.region.now) (is_release_fit row.release.now);
  fails : (v : ℕ) (row : Row) → Contains l.barred.items v → slice_get l.planned.rows.items v ≡ Some row → Suits l.strategy (region_at l.place.region.now) (is_release_fit row.release.now) → ⊥;
}
