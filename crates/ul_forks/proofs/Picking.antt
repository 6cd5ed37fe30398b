-- Picks of a problem: where they stand, by which names, and with which rows.
use Rattle.std.specs.Prelude.{All, slice_get}
use Rattle.std.proofs.Common.{◌≡◌, ◌<◌, ◌+◌, ℕ, zero, suc, List, [], ◌∷◌, ◌++◌, length, get_or, map, take, Option, Some, None, arith, sym, ap, subst, ◌∙◌, refl}
use Rattle.std.proofs.lemmas.List.{take_more}
use Rattle.std.proofs.lemmas.List.Elements.{All-nil, All-cons, All-contains}
use Rattle.std.proofs.lemmas.Option.{none-some, same_Some, slice_get_within, slice_get-get_or, get_or_from_slice_get}
use Rattle.ul_base.specs.declared.node.Node.{Node}
use Rattle.ul_version.specs.Fields.{Fields}
use Rattle.ul_problem.specs.Best.{Picks, IsBestFrom}
use Rattle.ul_problem.specs.Plain.{Plain as Problem, node_at, order_in}
use Rattle.ul_problem.specs.Problems.{IsWellFormed}
use Rattle.ul_problem.specs.declared.problem.Need.{Need}
use Rattle.ul_problem.specs.declared.problem.NodeFacts.{NodeFacts}
use Rattle.ul_problem.proofs.ForCallers.{node_whole, place_one}
use Rattle.ul_index.specs.Catalogs.{Packages, release_of}
use Rattle.ul_index.specs.Eligible.{eligible}
use Rattle.ul_index.specs.Regions.{Region}
use Rattle.ul_index.specs.Serves.{Selection}
use Rattle.ul_region.specs.Naming.{AreNamed, IsNamed}
use Rattle.ul_region.specs.Problem.{IsProblemOf}
use Rattle.ul_region.specs.Rows.{IsRow}
use Rattle.ul_region.specs.Truths.{DiagramMark, PassView}
use Rattle.ul_prepared.specs.Prepared.{IsPrepared, IsPlanned, IsName, IsVersionRow}
use Rattle.ul_prepared.specs.declared.prepared.Planned.{Planned}
use Rattle.ul_prepared.specs.declared.prepared.Prepared.{Prepared}
use Rattle.ul_placing.specs.Placed.{ArePlaced, StandsAt}
use Rattle.ul_split.specs.Answers.{IsChosen, decided_of}
use Rattle.ul_split.specs.Split.{AreDecided}
use Rattle.ul_split.specs.declared.split.Chosen.{Chosen}
use Rattle.ul_forks.specs.Picks.{HasPick, IsTaken, IsPicked, OneForOne}

-- something stands at each place of a list
pub there : {A : Type 0} (xs : List A) (k : ℕ) → k < length xs → (x : A) × (slice_get xs k ≡ Some x)
there [] k l = absurd (omega (arith, l))
there (z ∷ zs) zero l = (z, refl)
there (z ∷ zs) (suc k) l = there zs k (omega (arith, l))

-- ---- the picks of a best list

by_facts : (p : Problem) (n v : ℕ) (o : Option NodeFacts) → node_at p n ≡ o → (i : ℕ) → slice_get (order_in o) i ≡ Some v → IsWellFormed p → HasPick p (n, v)
by_facts p n v None e i at w = absurd (none-some v at)
by_facts p n v (Some f) e i at w = record { facts = f; at = e; within = All-contains (λ u. u < length f.versions) f.order v (node_whole p n f w e).is_order.1 (place_one f.order i v at) }

pub best_there : (p : Problem) (d es : Picks) → IsWellFormed p → IsBestFrom p d es → All (HasPick p) es
best_there p d [] w h = All-nil (HasPick p)
best_there p d (e ∷ es) w h = All-cons (HasPick p) e es (by_facts p e.0 e.1 (node_at p e.0) refl h.1.0 h.1.1 w) (best_there p (d ++ e ∷ []) es w h.2)

-- ---- the row of a pick

-- what is read at a place of a list stands there
pub read_at : {A : Type 0} (xs : List A) (k : ℕ) (x d : A) → k < length xs → x ≡ get_or xs k d → slice_get xs k ≡ Some x
read_at xs k x d l e = slice_get-get_or xs k d l ∙ ap Some (sym e)

module _ (shared : Prepared) (p : Problem) (places : List ℕ) (pick : ℕ × ℕ) (placed : ArePlaced shared p places) (is : HasPick p pick) where
  pub node_within : pick.0 < length p.nodes
  node_within = slice_get_within p.nodes pick.0 is.facts is.at

  pub place_within : pick.0 < length places
  place_within = subst (λ (n : ℕ). pick.0 < n) (sym placed.count) node_within

  module _ (place : ℕ) (read : slice_get places pick.0 ≡ Some place) where
    -- the node of a pick stands at its place
    stands : StandsAt shared is.facts place
    stands = placed.each pick.0 place is.facts is.at read

    pub planned_within : place < length shared.nodes.items
    planned_within = slice_get_within shared.nodes.items place stands.planned stands.at

    module _ (planned : Planned) (found : slice_get shared.nodes.items place ≡ Some planned) where
      same : stands.planned ≡ planned
      same = same_Some stands.planned planned (sym stands.at ∙ found)

      -- there is a row for its version
      pub version_within : pick.1 < length planned.rows.items
      version_within = subst (λ (z : Planned). pick.1 < length z.rows.items) same (subst (λ (n : ℕ). pick.1 < n) (sym stands.rows) is.within)

      -- the pick has this row
      pub pick_taken : (facts : NodeFacts) (d : Chosen) → slice_get p.nodes pick.0 ≡ Some facts → slice_get planned.rows.items pick.1 ≡ Some d.row.now → d.node.now ≡ facts.node → IsTaken shared p pick d
      pick_taken facts d at row node = record {
        facts = is.facts;
        at = is.at;
        node = node ∙ ap (λ (f : NodeFacts). f.node) (same_Some facts is.facts (sym at ∙ is.at));
        row = record {
          planned = planned;
          is = record { place = place; stands = found; node = subst (λ (z : Planned). z.node ≡ is.facts.node) same stands.node };
          at = row;
        };
      }

-- ---- one more pick

module _ {A B : Type 0} (IsFor : A → B → Type 0) where
  push_one : (xs : List A) (ys : List B) (x : A) (y : B) → OneForOne IsFor xs ys → IsFor x y → OneForOne IsFor (xs ++ x ∷ []) (ys ++ y ∷ [])
  push_one [] [] x y h k = (k, tt)
  push_one [] (w ∷ ws) x y h k = absurd h
  push_one (z ∷ zs) [] x y h k = absurd h
  push_one (z ∷ zs) (w ∷ ws) x y h k = (h.0, push_one zs ws x y h.1 k)

  -- the element that a loop reads, and the one that is pushed
  pub one_more : (xs : List A) (ys ns : List B) (i : ℕ) (x : A) (y : B) → ns ≡ ys ++ y ∷ [] → OneForOne IsFor (take i xs) ys → IsFor x y → i < length xs → x ≡ get_or xs i x → OneForOne IsFor (take (i + 1) xs) ns
  one_more xs ys ns i x y grown h k l at = subst (λ zs. OneForOne IsFor zs ns) (sym (take_more xs i x l))
      (subst (λ zs. OneForOne IsFor (take i xs ++ get_or xs i x ∷ []) zs) (sym grown) (push_one (take i xs) ys (get_or xs i x) y h (subst (λ z. IsFor z y) at k)))

  -- the same by the place of the element
  pub one_more_at : (xs : List A) (ys ns : List B) (i : ℕ) (x : A) (y : B) → ns ≡ ys ++ y ∷ [] → OneForOne IsFor (take i xs) ys → IsFor x y → slice_get xs i ≡ Some x → OneForOne IsFor (take (i + 1) xs) ns
  one_more_at xs ys ns i x y grown h k at = one_more xs ys ns i x y grown h k (slice_get_within xs i x at) (sym (get_or_from_slice_get xs i x x at))

named_push : (p : Problem) (es : Picks) (s : Selection) (e : ℕ × ℕ) (d : Node × Fields) → AreNamed p es s → IsNamed p e d → AreNamed p (es ++ e ∷ []) (s ++ d ∷ [])
named_push p [] [] e d h k = (k, tt)
named_push p [] (w ∷ ws) e d h k = absurd h
named_push p (z ∷ zs) [] e d h k = absurd h
named_push p (z ∷ zs) (w ∷ ws) e d h k = (h.0, named_push p zs ws e d h.1 k)

pub named_more : (p : Problem) (es : Picks) (s t : Selection) (i : ℕ) (e : ℕ × ℕ) (d : Node × Fields) → t ≡ s ++ d ∷ [] → AreNamed p (take i es) s → IsNamed p e d → i < length es → e ≡ get_or es i e → AreNamed p (take (i + 1) es) t
named_more p es s t i e d grown h k l at = subst (λ zs. AreNamed p zs t) (sym (take_more es i e l))
    (subst (λ zs. AreNamed p (take i es ++ get_or es i e ∷ []) zs) (sym grown) (named_push p (take i es) s (get_or es i e) d h (subst (λ z. IsNamed p z d) at k)))

pub named_more_at : (p : Problem) (es : Picks) (s t : Selection) (i : ℕ) (e : ℕ × ℕ) (d : Node × Fields) → t ≡ s ++ d ∷ [] → AreNamed p (take i es) s → IsNamed p e d → slice_get es i ≡ Some e → AreNamed p (take (i + 1) es) t
named_more_at p es s t i e d grown h k at = named_more p es s t i e d grown h k (slice_get_within es i e at) (sym (get_or_from_slice_get es i e e at))

-- ---- with rows that are right

pub taken_picked : (h : PassView) (shared : Prepared) (R : Region) (p : Problem) (pick : ℕ × ℕ) (d : Chosen) → IsPrepared h shared → IsProblemOf shared.catalog.now shared.starts.now shared.wish.now R p
    → IsTaken shared p pick d → IsPicked h shared.catalog.now shared.truths.marks.items p pick d
taken_picked h shared R p pick d is of t = record {
  facts = t.facts;
  at = t.at;
  version = x.0;
  stands = subst (λ (vs : List Fields). slice_get vs pick.1 ≡ Some x.0) same x.1;
  node = t.node;
  found = subst (λ (n : Node). release_of shared.catalog.now n.name x.0 ≡ Some d.row.now.release.now) t.row.is.node row.found;
  row = subst (λ (n : Node). IsRow h n shared.truths.marks.items d.row.now) (t.row.is.node ∙ sym t.node) row.holds;
}
  where
    planned : IsPlanned shared.catalog.now h shared.names.items shared.nodes.items shared.truths.marks.items t.row.planned
    planned = All-contains (IsPlanned shared.catalog.now h shared.names.items shared.nodes.items shared.truths.marks.items) shared.nodes.items t.row.planned is.nodes (place_one shared.nodes.items t.row.is.place t.row.planned t.row.is.stands)

    named : IsName shared.catalog.now shared.wish.now planned.facts
    named = All-contains (IsName shared.catalog.now shared.wish.now) shared.names.items planned.facts is.names (place_one shared.names.items t.row.planned.name planned.facts planned.at)

    same : planned.facts.versions ≡ t.facts.versions
    same = named.versions ∙ (ap (eligible shared.catalog.now) (planned.named ∙ ap (λ (n : Node). n.name) t.row.is.node) ∙ sym (of.facts pick.0 t.facts t.at).versions)

    short : pick.1 < length planned.facts.versions
    short = subst (λ (n : ℕ). pick.1 < n) planned.count (slice_get_within t.row.planned.rows.items pick.1 d.row.now t.row.at)

    x : (v : Fields) × (slice_get planned.facts.versions pick.1 ≡ Some v)
    x = there planned.facts.versions pick.1 short

    aims : (a : List (List Need)) × (slice_get t.row.planned.aims.items pick.1 ≡ Some a)
    aims = there t.row.planned.aims.items pick.1 (subst (λ (n : ℕ). pick.1 < n) (sym planned.aimed) short)

    row : IsVersionRow shared.catalog.now h shared.names.items shared.nodes.items shared.truths.marks.items t.row.planned.node x.0 d.row.now aims.0
    row = planned.rows pick.1 x.0 d.row.now aims.0 x.1 t.row.at aims.1

pub all_picked : (h : PassView) (shared : Prepared) (R : Region) (p : Problem) (picks : Picks) (ds : List Chosen) → IsPrepared h shared → IsProblemOf shared.catalog.now shared.starts.now shared.wish.now R p
    → OneForOne (IsTaken shared p) picks ds → OneForOne (IsPicked h shared.catalog.now shared.truths.marks.items p) picks ds
all_picked h shared R p [] [] is of t = tt
all_picked h shared R p [] (d ∷ ds) is of t = absurd t
all_picked h shared R p (e ∷ es) [] is of t = absurd t
all_picked h shared R p (e ∷ es) (d ∷ ds) is of t = (taken_picked h shared R p e d is of t.0, all_picked h shared R p es ds is of t.1)

module _ (h : PassView) (c : Packages) (truths : List DiagramMark) (p : Problem) where
  -- each chosen one has its row
  pub all_chosen : (picks : Picks) (ds : List Chosen) → OneForOne (IsPicked h c truths p) picks ds → All (IsChosen h truths) ds
  all_chosen [] [] k = All-nil (IsChosen h truths)
  all_chosen [] (d ∷ ds) k = absurd k
  all_chosen (e ∷ es) [] k = absurd k
  all_chosen (e ∷ es) (d ∷ ds) k = All-cons (IsChosen h truths) d ds k.0.row (all_chosen es ds k.1)

  -- picks have names
  pub names_there : (picks : Picks) (ds : List Chosen) → OneForOne (IsPicked h c truths p) picks ds → (s : Selection) × AreNamed p picks s
  names_there [] [] k = ([], tt)
  names_there [] (d ∷ ds) k = absurd k
  names_there (e ∷ es) [] k = absurd k
  names_there (e ∷ es) (d ∷ ds) k = let later = names_there es ds k.1 in (
    (k.0.facts.node, k.0.version) ∷ later.0,
    (record { facts = k.0.facts; at = k.0.at; node = refl; version = k.0.stands }, later.1),
  )

  -- what picks are decided as, by their names
  pub names_decided : (picks : Picks) (s : Selection) (ds : List Chosen) → AreNamed p picks s → OneForOne (IsPicked h c truths p) picks ds → AreDecided c s (map decided_of ds)
  names_decided [] [] [] n k = tt
  names_decided [] [] (d ∷ ds) n k = absurd k
  names_decided [] (x ∷ xs) ds n k = absurd n
  names_decided (e ∷ es) [] ds n k = absurd n
  names_decided (e ∷ es) (x ∷ xs) [] n k = absurd k
  names_decided (e ∷ es) (x ∷ xs) (d ∷ ds) n k = record {
    same = k.0.node ∙ node;
    found = subst (λ (m : Node). release_of c m.name x.1 ≡ Some d.row.now.release.now) node
        (subst (λ (v : Fields). release_of c k.0.facts.node.name v ≡ Some d.row.now.release.now) version k.0.found);
    rest = names_decided es xs ds n.1 k.1;
  }
    where
      facts : n.0.facts ≡ k.0.facts
      facts = same_Some n.0.facts k.0.facts (sym n.0.at ∙ k.0.at)

      node : k.0.facts.node ≡ x.0
      node = ap (λ (f : NodeFacts). f.node) (sym facts) ∙ n.0.node

      version : k.0.version ≡ x.1
      version = same_Some k.0.version x.1 (sym k.0.stands ∙ (ap (λ (f : NodeFacts). slice_get f.versions e.1) (sym facts) ∙ n.0.version))
