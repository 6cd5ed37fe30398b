-- The needs of firm requirements, as a loop collects them.
use Rattle.std.specs.Prelude.{slice_get}
use Rattle.std.proofs.Common.{◌≡◌, ◌<◌, ◌≤◌, ◌+◌, ℕ, List, [], ◌∷◌, ◌++◌, length, get_or, drop, Bool, false, Decides, Some, refl, sym, ap, subst, ◌∙◌, inl, inr, ⊎_elim}
use Rattle.std.proofs.lemmas.List.{drop_all, append-nil, append_assoc}
use Rattle.std.proofs.lemmas.Option.{get_or_from_slice_get}
use Rattle.ul_problem.specs.declared.problem.Need.{Need}
use Rattle.ul_region.specs.declared.rows.Asked.{Asked}
use Rattle.ul_index.specs.Regions.{Region}
use Rattle.ul_region.specs.Rows.{IsRow}
use Rattle.ul_region.specs.Truths.{DiagramMark, PassView}
use Rattle.ul_region.specs.declared.rows.Row.{Row}
use Rattle.ul_prepared.specs.declared.prepared.Planned.{Planned}
use Rattle.ul_placing.specs.Aims.{AreFirmNeeds, AreRowsOf, AreThoseOf}
use Rattle.ul_placing.proofs.Lists.{rest_more, there, read_there}

-- what was collected, and then what is left
abbrev pub IsCollected : (Asked → Type 0) → List Asked → List (List Need) → ℕ → List Need → Type 0
IsCollected P asked aims i done = (rest : List Need) → AreThoseOf P (drop i asked) (drop i aims) rest → AreThoseOf P asked aims (done ++ rest)

those_more : (P : Asked → Type 0) (a : Asked) (r : List Need) (asked xs : List Asked) (aims ys : List (List Need)) (rest : List Need) → xs ≡ a ∷ asked → ys ≡ r ∷ aims → P a → AreThoseOf P asked aims rest → AreThoseOf P xs ys (r ++ rest)
those_more P a r asked xs aims ys rest d e p h =
    subst (λ (zs : List Asked). AreThoseOf P zs ys (r ++ rest)) (sym d) (subst (λ (zs : List (List Need)). AreThoseOf P (a ∷ asked) zs (r ++ rest)) (sym e) (inl (record { holds = p; rest = rest; are = refl; more = h })))

those_same : (P : Asked → Type 0) (a : Asked) (r : List Need) (asked xs : List Asked) (aims ys : List (List Need)) (rest : List Need) → xs ≡ a ∷ asked → ys ≡ r ∷ aims → (P a → ⊥) → AreThoseOf P asked aims rest → AreThoseOf P xs ys rest
those_same P a r asked xs aims ys rest d e p h =
    subst (λ (zs : List Asked). AreThoseOf P zs ys rest) (sym d) (subst (λ (zs : List (List Need)). AreThoseOf P (a ∷ asked) zs rest) (sym e) (inr (record { fails = p; more = h })))

-- a firm one
pub collected_more : (P : Asked → Type 0) (asked : List Asked) (aims : List (List Need)) (i : ℕ) (a : Asked) (r done now : List Need) → i < length asked → a ≡ get_or asked i a → i < length aims → r ≡ get_or aims i r → now ≡ done ++ r → P a
    → IsCollected P asked aims i done → IsCollected P asked aims (i + 1) now
collected_more P asked aims i a r done now l at m read e p h rest k =
    subst (λ (z : List Need). AreThoseOf P asked aims z) (sym (append_assoc done r rest) ∙ ap (λ (z : List Need). z ++ rest) (sym e))
    (h (r ++ rest) (those_more P a r (drop (i + 1) asked) (drop i asked) (drop (i + 1) aims) (drop i aims) rest (rest_more asked i a l at) (rest_more aims i r m read) p k))

-- one that isn't firm
pub collected_same : (P : Asked → Type 0) (asked : List Asked) (aims : List (List Need)) (i : ℕ) (a : Asked) (done : List Need) → i < length asked → a ≡ get_or asked i a → i < length aims → (P a → ⊥)
    → IsCollected P asked aims i done → IsCollected P asked aims (i + 1) done
collected_same P asked aims i a done l at m p h rest k = let r = there aims i m in
    h rest (those_same P a r.0 (drop (i + 1) asked) (drop i asked) (drop (i + 1) aims) (drop i aims) rest (rest_more asked i a l at) (rest_more aims i r.0 m (sym (get_or_from_slice_get aims i r.0 r.0 r.1))) p k)

none_left : (P : Asked → Type 0) (xs : List Asked) (ys : List (List Need)) → xs ≡ [] → ys ≡ [] → AreThoseOf P xs ys []
none_left P xs ys d e = subst (λ (zs : List Asked). AreThoseOf P zs ys []) (sym d) (subst (λ (zs : List (List Need)). AreThoseOf P [] zs []) (sym e) refl)

-- at the end
pub collected_all : (P : Asked → Type 0) (asked : List Asked) (aims : List (List Need)) (i : ℕ) (done : List Need) → length asked ≤ i → length aims ≡ length asked → IsCollected P asked aims i done → AreThoseOf P asked aims done
collected_all P asked aims i done l same h =
    subst (λ (z : List Need). AreThoseOf P asked aims z) (append-nil done)
    (h [] (none_left P (drop i asked) (drop i aims) (drop_all i asked l) (drop_all i aims (subst (λ (n : ℕ). n ≤ i) (sym same) l))))

-- ---- over the versions of a node

-- the row that a loop reads is right
pub row_is : (h : PassView) (truths : List DiagramMark) (p : Planned) (v : ℕ) (row : Row) → AreRowsOf h truths p → v < length p.rows.items → row ≡ get_or p.rows.items v row → IsRow h p.node truths row
row_is h truths p v row is l e = let aims = there p.aims.items v (subst (λ (n : ℕ). v < n) (sym is.count) l) in (is.each v row aims.0 (read_there p.rows.items v row l e) aims.1).0

-- its requirements have their lists of needs
pub row_long : (h : PassView) (truths : List DiagramMark) (p : Planned) (v : ℕ) (row : Row) (aims : List (List Need)) → AreRowsOf h truths p → v < length p.rows.items → row ≡ get_or p.rows.items v row → aims ≡ get_or p.aims.items v aims
    → length aims ≡ length row.asked
row_long h truths p v row aims is l e d = (is.each v row aims (read_there p.rows.items v row l e) (read_there p.aims.items v aims (subst (λ (n : ℕ). v < n) (sym is.count) l) d)).1

-- the needs of each version so far
abbrev pub AreAimsTo : Region → Planned → List (List Need) → Type 0
AreAimsTo R p list = (v : ℕ) (row : Row) (aims : List (List Need)) (a : List Need) → slice_get p.rows.items v ≡ Some row → slice_get p.aims.items v ≡ Some aims → slice_get list v ≡ Some a → AreFirmNeeds R p.node row aims a

-- where a test that decides something fails, it does not hold
pub none_so : (P : Type 0) (b : Bool) → Decides b P → b ≡ false → P → ⊥
none_so P b d e p = cc (d.1 p)
