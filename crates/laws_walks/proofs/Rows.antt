-- A well formed lock has rows: what it gives stands among its nodes, of each of which it is decided by its tree whether
-- it is wanted.
use Rattle.std.proofs.Common.{◌≡◌, ◌≢◌, ◌<◌, ◌∙◌, ℕ, List, true, Contains, refl, sym, ap, subst, is_lt, Equal}
use Rattle.std.proofs.Common.{⊎_elim, arith}
use Rattle.std.specs.Prelude.{Some, slice_get}
use Rattle.std.specs.Cmp.{tied_back}
use Rattle.std.proofs.lemmas.Bool.{cases_eq, cases_lt}
use Rattle.ul_base.specs.Reached.{begun, led}
use Rattle.ul_base.proofs.ForCallers.{contains_map, some_is}
use Rattle.ul_comparison.specs.Worlds.{WorldFields}
use Rattle.ul_tree.proofs.ForCallers.{no_extra}
use Rattle.ul_lock.specs.declared.parts.Lock.{Lock}
use Rattle.ul_lock.specs.Walk.{Pick as NodeAt, Walk}
use Rattle.ul_lock.specs.WellFormed.{IsWellFormed}
use Rattle.ul_lock_nodes.specs.Order.{node_cmp}
use Rattle.ul_lock_nodes.specs.Places.{StandsAt}
use Rattle.ul_lock_nodes.specs.Routes.{Route, routes_of}
use Rattle.ul_lock_nodes.proofs.ForCallers.{contains_at, stands_before, target_stands}
use Rattle.ul_reach.specs.Rows.{IsMarked, IsWanted, is_supported, row_key, row_less}
use Rattle.ul_reach.specs.declared.rows.Reached.{Reached}
use Rattle.laws_trees.specs.Decided.{Decided}
use Rattle.laws_trees.proofs.ForCallers.{HasTreeOf, both_decided, decided_as, not_decided}
use Rattle.laws_trees.proofs.ForCallers.{somewhere_decided, text_decided, trees_kept, truth_tree}
use Rattle.laws_locks.proofs.ForCallers.{index_exists, marker_made, picks_total}
use Rattle.laws_walks.specs.Exists.{RowsExist}
use Rattle.laws_walks.proofs.Reaches.{walk_tree}
use Rattle.laws_walks.proofs.Sources.{nodes_of}

-- nodes at one place are equal
one_at : (rs : List Route) (i j : ℕ) (p q : NodeAt) → StandsAt rs i p → StandsAt rs j q → i ≡ j → p ≡ q
one_at rs i j p q s t e =
    let there = subst (λ (k : ℕ). slice_get rs k ≡ Some s.0) e s.1 in
    sym s.2 ∙ (ap (λ (r : Route). r.0) (some_is there t.1) ∙ t.2)

module _ (l : Lock) (xs : List (List ℕ)) (ok : IsWellFormed l) where
  -- the lock supports the world and gives the node there
  abbrev IsGivenAt : NodeAt → WorldFields → Type 0
  IsGivenAt p w = (is_supported l w ≡ true) × Walk l w xs p

  given_tree : (p : NodeAt) → HasTreeOf (IsGivenAt p)
  given_tree p =
      let region = no_extra.back l.supported ok.supported.reduced ok.supported.no_extra in
      trees_kept.both (λ w. is_supported l w ≡ true) (λ w. Walk l w xs p)
      (truth_tree (is_supported l) (l.supported, region)) (walk_tree l xs p ok)

  -- whether a node is wanted
  wanted_decided : (p : NodeAt) → Decided (IsWanted l xs p)
  wanted_decided p =
      both_decided (not_decided (text_decided p.0.name l.root))
      (decided_as (somewhere_decided (IsGivenAt p) (given_tree p)) (λ h. (h.0, h.1, h.2.0, h.2.1))
      (λ h. (h.0, h.1, (h.2, h.3))))

  -- what isn't the root's is given where an edge leads to it, so it stands at a place
  other_stands : (w : WorldFields) (p : NodeAt) → (p.0.name ≢ l.root) → Walk l w xs p
      → (k : ℕ) × StandsAt (routes_of l.packages) k p
  other_stands w p other (begun a h) = absurd (other h.1.0)
  other_stands w p other (led a b r s) =
      subst (λ q. (k : ℕ) × StandsAt (routes_of l.packages) k q) (λ j. (s.3 j, s.4 j)) (target_stands l ok a s.0 s.1)

  wanted_stands : (p : NodeAt) → IsWanted l xs p → (k : ℕ) × StandsAt (routes_of l.packages) k p
  wanted_stands p h = other_stands h.1.0 p h.0 h.1.3

  -- and is one of the lock's nodes
  wanted_listed : (p : NodeAt) → IsWanted l xs p → Contains (nodes_of l) p
  wanted_listed p h =
      let s = wanted_stands p h in
      let r = contains_at (routes_of l.packages) s.0 s.1.0 s.1.1 in
      subst (Contains (nodes_of l)) s.1.2 (contains_map (λ (x : Route). x.0) (routes_of l.packages) s.1.0 r)

  -- nodes that are level don't stand one before the other
  not_before : (i j : ℕ) (p q : NodeAt) → StandsAt (routes_of l.packages) i p → StandsAt (routes_of l.packages) j q
      → node_cmp p q ≡ Equal → i < j → ⊥
  not_before i j p q s t e lt =
      let before : is_lt (node_cmp p q) ≡ true =
      stands_before l.packages ok.packages_rise ok.packages i j p q lt s t in
      let level : is_lt (node_cmp p q) ≡ is_lt Equal = ap is_lt e in
      cc

  -- so they are equal
  one_node : (p q : NodeAt) → IsWanted l xs p → IsWanted l xs q → node_cmp p q ≡ Equal → p ≡ q
  one_node p q h g e = ⊎_elim same (λ d. absurd (never d)) (cases_eq s.0 t.0)
    where
      s : (k : ℕ) × StandsAt (routes_of l.packages) k p
      s = wanted_stands p h

      t : (k : ℕ) × StandsAt (routes_of l.packages) k q
      t = wanted_stands q g

      same : s.0 ≡ t.0 → p ≡ q
      same d = one_at (routes_of l.packages) s.0 t.0 p q s.1 t.1 d

      never : (s.0 ≡ t.0 → ⊥) → ⊥
      never d = ⊎_elim (λ lt. not_before s.0 t.0 p q s.1 t.1 e lt)
          (λ le. not_before t.0 s.0 q p t.1 s.1 (tied_back picks_total p q e) (omega (arith, le, d))) (cases_lt s.0 t.0)

  -- the row of a node: its marker is what its tree becomes under the supported region
  row_made : (p : NodeAt) → (r : Reached) × (row_key r ≡ p) × IsMarked l xs r
  row_made p =
      let region = ok.supported in
      let m = marker_made (λ w. Walk l w xs p) l.supported region.reduced region.not_false (walk_tree l xs p ok) in
      (record { node = p.0; version = p.1; marker = m.0 }, refl, m.1)

pub rows_exist : RowsExist
rows_exist l xs ok =
    index_exists row_key row_less (IsWanted l xs) (IsMarked l xs) node_cmp (nodes_of l) (record {
      total = picks_total;
      below = λ a b e. ap is_lt e;
      same = one_node l xs ok;
      decided = λ p m. wanted_decided l xs ok p;
      listed = wanted_listed l xs ok;
      made = λ p h. row_made l xs ok p;
    })
