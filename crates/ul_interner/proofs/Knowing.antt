-- KnownIn marks: how one is made, what stays known, and that its parts are known.
use Rattle.std.proofs.Common.{◌≡◌, ℕ, zero, suc, List, [], ◌∷◌, map, Some, sym, refl, ap, ◌∙◌, subst}
use Rattle.std.specs.Prelude.{All}
use Rattle.std.specs.List.{slice_get}
use Rattle.std.proofs.lemmas.List.Elements.{All-head, All-tail}
use Rattle.ul_core.specs.declared.trees.Tree.{Tree}
use Rattle.ul_core.specs.declared.trees.Tree.TheViews.{out-Tree, roll-Tree, out-roll-Tree, roll-out-Tree}
use Rattle.ul_core.specs.declared.trees.Tree.TheFolds.{every_made-Tree, every_held-Tree, ind-Tree}
use Rattle.ul_core.specs.Trees.{tree_with, parts_of}
use Rattle.ul_interner.specs.Marked.{Node, Marked, id_of, plain, IsMade}
use Rattle.ul_interner.specs.Known.{Held, tree_at, Known, Knows}
use Rattle.ul_interner.specs.Logs.{at, AllBegin, StandsIn, StandsHere, KnownIn, AllKnownIn}
use Rattle.ul_interner.proofs.Lists.{some_is, none_got, map_get, get_map, got_begins, knows_refl, knows_trans}
use Rattle.ul_interner.proofs.Grown.{plain_is}
use Rattle.ul_interner.proofs.Seen.{stands_on, known_stands, same_tree}

module _ {L : Type 0} where
  module _ (logs : List (List (Marked L))) where
    abbrev Row : Type 0
    Row = List ((m : Marked L) × KnownIn logs m)

    row_of : (ps : List (Marked L)) → AllKnownIn logs ps → (row : Row) × (map (λ e. e.0) row ≡ ps)
    row_of [] all = ([], refl)
    row_of (p ∷ ps) all = let r = row_of ps (λ i m e. all (suc i) m e) in ((p, all 0 p refl) ∷ r.0, ap (λ z. p ∷ z) r.1)

    known_row : (l : (Node L)) (row : Row) (ps : List (Marked L)) → map (λ e. e.0) row ≡ ps → StandsIn logs (roll-Tree (Node L) record { label = l; parts = ps }) → KnownIn logs (roll-Tree (Node L) record { label = l; parts = ps })
    known_row l row ps is s = every_made-Tree (Node L) (StandsHere logs) record { label = l; parts = ps } record { label = l; parts = row } (λ i. record { label = l; parts = is i }) s

    -- a mark that stands in the logs and has known parts is known
    pub known_made : (m : Marked L) → StandsIn logs m → AllKnownIn logs (parts_of m) → KnownIn logs m
    known_made m s all = let r = row_of (parts_of m) all in
        subst (KnownIn logs) (roll-out-Tree (Node L) m) (known_row (out-Tree (Node L) m).label r.0 (parts_of m) r.1 (subst (StandsIn logs) (sym (roll-out-Tree (Node L) m)) s))

    row_known : (row : Row) → AllKnownIn logs (map (λ e. e.0) row)
    row_known [] zero m e = absurd (cc)
    row_known [] (suc i) m e = absurd (cc)
    row_known (x ∷ row) zero m e = subst (KnownIn logs) (some_is x.0 m e) x.1
    row_known (x ∷ row) (suc i) m e = row_known row i m e

    -- the parts of a known mark are known
    pub known_in_parts : (m : Marked L) → KnownIn logs m → AllKnownIn logs (parts_of m)
    known_in_parts m k = let h = every_held-Tree (Node L) (StandsHere logs) m k in subst (AllKnownIn logs) (ap (λ z. z.parts) h.1) (row_known h.0.parts)

  -- what was known is known to a pass that has seen more
  module _ (xs ys : List (List (Marked L))) (more : AllBegin xs ys) where
    abbrev Stays : Marked L → Type 0
    Stays m = KnownIn xs m → KnownIn ys m

    stays_row : (row : List ((m : Marked L) × Stays m)) → AllKnownIn xs (map (λ e. e.0) row) → AllKnownIn ys (map (λ e. e.0) row)
    stays_row [] all zero m e = absurd (cc)
    stays_row [] all (suc i) m e = absurd (cc)
    stays_row (x ∷ row) all zero m e = subst (KnownIn ys) (some_is x.0 m e) (x.1 (all 0 x.0 refl))
    stays_row (x ∷ row) all (suc i) m e = stays_row row (λ j n h. all (suc j) n h) i m e

    pub known_in_stays : (m : Marked L) → KnownIn xs m → KnownIn ys m
    known_in_stays = ind-Tree (Node L) Stays (λ x y is. subst (λ z. Stays (roll-Tree (Node L) z)) is (λ k.
        let d : Marked L = roll-Tree (Node L) record { label = y.label; parts = map (λ e. e.0) y.parts } in
        let parts : parts_of d ≡ map (λ e. e.0) y.parts = ap (λ z. z.parts) (out-roll-Tree (Node L) record { label = y.label; parts = map (λ e. e.0) y.parts }) in
        known_made ys d (stands_on xs ys d more (known_stands xs d k)) (subst (AllKnownIn ys) (sym parts) (stays_row y.parts (subst (AllKnownIn xs) parts (known_in_parts xs d k))))))

    pub all_stay : (ms : List (Marked L)) → AllKnownIn xs ms → AllKnownIn ys ms
    all_stay ms all i m e = known_in_stays m (all i m e)

  -- what follows from what a pass knows

  -- a known mark's tree stands at its identity
  pub known_here : (h : Held L) (m : Marked L) → Known h m → tree_at h (id_of m) ≡ Some (plain m)
  known_here h m k = map_get plain (at h.logs (id_of m).0) (id_of m).1 m (known_stands h.logs m k)

  -- of known marks one identity has one tree
  pub one_identity : (h : Held L) (a b : Marked L) → Known h a → Known h b → id_of a ≡ id_of b → plain a ≡ plain b
  one_identity h a b ka kb e = same_tree h.logs a b ka kb e

  -- a part of a known mark is known
  pub known_part : (h : Held L) (m : Marked L) (k : ℕ) (p : Marked L) → Known h m → slice_get (parts_of m) k ≡ Some p → Known h p
  known_part h m k p known e = known_in_parts h.logs m known k p e

  -- a tree that has an identity keeps it
  pub stays : (g h : Held L) (i : ℕ × ℕ) (t : Tree L) → Knows g h → tree_at g i ≡ Some t → tree_at h i ≡ Some t
  stays g h i t more e =
      let old = get_map plain (at g.logs i.0) i.1 t e in
      map_get plain (at h.logs i.0) i.1 old.0 (got_begins (at g.logs i.0) (at h.logs i.0) i.1 old.0 (more.logs i.0) old.1) ∙ ap Some old.2

  -- what was known stays known
  pub known_stays : (g h : Held L) → Knows g h → (m : Marked L) → Known g m → Known h m
  known_stays g h more m known = known_in_stays g.logs h.logs more.logs m known

  pub knows_itself : (h : Held L) → Knows h h
  knows_itself h = record { table = refl; logs = knows_refl h.logs }

  pub knows_then : (f g h : Held L) → Knows f g → Knows g h → Knows f h
  knows_then f g h a b = record { table = b.table ∙ a.table; logs = knows_trans f.logs g.logs h.logs a.logs b.logs }

  -- from a clause on each mark of a list
  pub all_known : (logs : List (List (Marked L))) (ms : List (Marked L)) → All (λ m. KnownIn logs m) ms → AllKnownIn logs ms
  all_known logs [] all i m e = absurd (none_got i m e)
  all_known logs (x ∷ ms) all zero m e = subst (KnownIn logs) (some_is x m e) (All-head (λ m. KnownIn logs m) x ms all)
  all_known logs (x ∷ ms) all (suc i) m e = all_known logs ms (All-tail (λ m. KnownIn logs m) x ms all) i m e

  -- the tree of a mark that is made of a label and parts
  pub made_tree : (l : L) (ps : List (Marked L)) (m : Marked L) → IsMade l ps m → plain m ≡ tree_with l (map plain ps)
  made_tree l ps m made = plain_is m ∙ (λ i. tree_with (made.0 i) (map plain (made.1 i)))
