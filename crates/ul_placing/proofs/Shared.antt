-- What all regions share, place by place.
use Rattle.std.specs.Prelude.{slice_get}
use Rattle.std.proofs.Common.{◌≡◌, ◌<◌, ◌^◌, ℕ, suc, List, [], ◌∷◌, length, get_or, Some, refl, sym, ap, subst, ◌∙◌}
use Rattle.std.proofs.lemmas.List.Elements.{All-contains}
use Rattle.std.proofs.lemmas.Option.{slice_get_within}
use Rattle.ul_version.specs.Fields.{Fields}
use Rattle.ul_problem.specs.declared.problem.Need.{Need as PlaceNeed}
use Rattle.ul_region.specs.Truths.{PassView}
use Rattle.ul_region.specs.declared.rows.Asked.{Asked}
use Rattle.ul_region.specs.declared.rows.Row.{Row}
use Rattle.ul_prepared.specs.Prepared.{IsPrepared, IsPlanned, IsName, IsVersionRow, AreRowAims}
use Rattle.ul_prepared.specs.declared.prepared.NameFacts.{NameFacts}
use Rattle.ul_prepared.specs.declared.prepared.Planned.{Planned}
use Rattle.ul_prepared.specs.declared.prepared.Prepared.{Prepared}
use Rattle.ul_placing.specs.Aims.{AreRowsOf}
use Rattle.ul_placing.proofs.Lists.{there, listed_at, read_there}

-- a node of what all regions share
abbrev pub IsPlannedIn : PassView → Prepared → Planned → Type 0
IsPlannedIn h p planned = IsPlanned p.catalog.now h p.names.items p.nodes.items p.truths.marks.items planned

-- a node is right, by its place
pub planned_at : (h : PassView) (p : Prepared) (k : ℕ) (planned : Planned) → IsPrepared h p → slice_get p.nodes.items k ≡ Some planned → IsPlannedIn h p planned
planned_at h p k planned is e = All-contains (IsPlannedIn h p) p.nodes.items planned is.nodes (listed_at p.nodes.items k planned e)

-- a node that is read is right
pub planned_read : (h : PassView) (p : Prepared) (k : ℕ) (planned : Planned) → IsPrepared h p → k < length p.nodes.items → planned ≡ get_or p.nodes.items k planned → IsPlannedIn h p planned
planned_read h p k planned is l e = planned_at h p k planned is (read_there p.nodes.items k planned l e)

-- what is known of a name is right
pub name_of : (h : PassView) (p : Prepared) (k : ℕ) (f : NameFacts) → IsPrepared h p → slice_get p.names.items k ≡ Some f → IsName p.catalog.now p.wish.now f
name_of h p k f is e = All-contains (IsName p.catalog.now p.wish.now) p.names.items f is.names (listed_at p.names.items k f e)

row_aims_long : (names : List NameFacts) (nodes : List Planned) (aims : List (List PlaceNeed)) (asked : List Asked) → AreRowAims names nodes aims asked → length aims ≡ length asked
row_aims_long names nodes [] [] h = refl
row_aims_long names nodes [] (a ∷ asked) h = absurd h
row_aims_long names nodes (ks ∷ kss) [] h = absurd h
row_aims_long names nodes (ks ∷ kss) (a ∷ asked) h = ap suc (row_aims_long names nodes kss asked h.1)

-- the row of a version of a node, and what its requirements aim at
pub row_at : (h : PassView) (p : Prepared) (planned : Planned) (is : IsPlannedIn h p planned) (v : ℕ) (row : Row) (aims : List (List PlaceNeed)) → slice_get planned.rows.items v ≡ Some row → slice_get planned.aims.items v ≡ Some aims
    → (x : Fields) × (slice_get is.facts.versions v ≡ Some x) × IsVersionRow p.catalog.now h p.names.items p.nodes.items p.truths.marks.items planned.node x row aims
row_at h p planned is v row aims e d =
    let x = there is.facts.versions v (subst (λ n. v < n) is.count (slice_get_within planned.rows.items v row e)) in
    (x.0, x.1, is.rows v x.0 row aims x.1 e d)

-- the rows of a node are right
pub rows_right : (h : PassView) (p : Prepared) (planned : Planned) → IsPlannedIn h p planned → AreRowsOf h p.truths.marks.items planned
rows_right h p planned is = record {
  count = is.aimed ∙ sym is.count;
  each = λ v row aims e d. let r = row_at h p planned is v row aims e d in (r.2.holds, row_aims_long p.names.items p.nodes.items aims row.asked r.2.aimed);
}

-- a node has few versions
pub rows_few : (h : PassView) (p : Prepared) (planned : Planned) → IsPrepared h p → IsPlannedIn h p planned → length planned.rows.items < 2 ^ 32
rows_few h p planned all is = subst (λ n. n < 2 ^ 32) (sym is.count) (name_of h p planned.name is.facts all is.at).few

-- the name of a node is there
pub name_within : (h : PassView) (p : Prepared) (planned : Planned) → IsPlannedIn h p planned → planned.name < length p.names.items
name_within h p planned is = slice_get_within p.names.items planned.name is.facts is.at
