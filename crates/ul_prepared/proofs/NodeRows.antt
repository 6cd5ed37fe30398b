-- Nodes with the rows of their names' releases.
use Rattle.std.specs.Prelude.{All, slice_get}
use Rattle.std.proofs.Common.{◌≡◌, ◌<◌, ◌+◌, ℕ, zero, suc, List, [], ◌∷◌, ◌++◌, length, get_or, map, Option, Some, None, sym, ap, subst, ◌∙◌, refl}
use Rattle.std.proofs.lemmas.List.{length-map}
use Rattle.std.proofs.lemmas.List.Elements.{All-push, All-weaker}
use Rattle.std.proofs.lemmas.Option.{none-some, same_Some, slice_get-get_or}
use Rattle.std.proofs.lemmas.Slice.Zip.{AllZip-long}
use Rattle.ul_base.specs.declared.node.Node.{Node}
use Rattle.ul_base.specs.Nodes.{node_cmp}
use Rattle.ul_requirement.specs.Fields.{ReleaseFields, WishFields}
use Rattle.ul_problem.specs.Problems.{Increases, IncreasesFrom}
use Rattle.ul_problem.specs.declared.problem.Need.{Need as PlaceNeed}
use Rattle.ul_algebra.specs.Answers.{IsDiagram}
use Rattle.ul_index.specs.Catalogs.{Packages, release_of}
use Rattle.ul_region.specs.Best.{Need, needs_of}
use Rattle.ul_region.specs.Rows.{IsRow}
use Rattle.ul_region.specs.Truths.{DiagramMark, IsGrown, PassView}
use Rattle.ul_region.specs.declared.rows.Asked.{Asked}
use Rattle.ul_region.specs.declared.rows.Row.{Row}
use Rattle.ul_region.proofs.ForCallers.{row_grown}
use Rattle.ul_prepared.specs.Gathered.{AreAimsOf, AreKnown, AreSameNodes, HasOwnRows, HasRows, node_in, release_in}
use Rattle.ul_prepared.specs.Lists.{releases_in}
use Rattle.ul_prepared.specs.Prepared.{AreAims, AreNodesAt, AreRowAims, HasBaseAt, IsAim, IsNodeAt, IsPlanned, IsPrepared, PlannedBefore}
use Rattle.ul_prepared.specs.Releases.{AreReleasesOf}
use Rattle.ul_prepared.specs.Shared.{releases_shared}
use Rattle.ul_prepared.specs.declared.prepared.NameFacts.{NameFacts}
use Rattle.ul_prepared.specs.declared.prepared.Planned.{Planned}
use Rattle.ul_prepared.specs.declared.prepared.Prepared.{Prepared}
use Rattle.ul_prepared.specs.declared.releases.Releases.{Releases}
use Rattle.ul_prepared.specs.declared.shared.Shared.{Shared}
use Rattle.ul_prepared.proofs.KnownNames.{known_at, known_names}
use Rattle.ul_prepared.proofs.Zipped.{all_there, image_at, zip_at}

-- ---- where more is known

rows_grown : (g h : PassView) (n : Node) (ms ns : List DiagramMark) (rows : List Row) → IsGrown g ms h ns → All (IsRow g n ms) rows → All (IsRow h n ns) rows
rows_grown g h n ms ns rows more a = All-weaker (IsRow g n ms) (IsRow h n ns) (λ row k. row_grown g h n ms ns row more k) rows a

module _ (names : List NameFacts) (nodes : List Planned) (own : List (List ReleaseFields)) where
  planned_grown : (g h : PassView) (ms ns : List DiagramMark) (p : Planned) → IsGrown g ms h ns → HasOwnRows g names nodes ms own p → HasOwnRows h names nodes ns own p
  planned_grown g h ms ns p more o = (
    o.0,
    o.1,
    record {
      named = o.2.named;
      base = o.2.base;
      rows = rows_grown g h p.node ms ns p.rows.items more o.2.rows;
      releases = o.2.releases;
      aims = o.2.aims;
      shared = o.2.shared;
    },
  )

  -- one node more
  pub planned_more : (g h : PassView) (ms ns : List DiagramMark) (done now : List Planned) (p : Planned) → now ≡ done ++ p ∷ [] → IsGrown g ms h ns
      → All (HasOwnRows g names nodes ms own) done → HasOwnRows h names nodes ns own p → All (HasOwnRows h names nodes ns own) now
  planned_more g h ms ns done now p e more a k = subst (All (HasOwnRows h names nodes ns own)) (sym e)
      (All-push (HasOwnRows h names nodes ns own) done p
      (All-weaker (HasOwnRows g names nodes ms own) (HasOwnRows h names nodes ns own) (λ q o. planned_grown g h ms ns q more o) done a) k)

-- ---- nodes at equal places

node_there : (ps qs : List Planned) (k : ℕ) (p : Planned) → AreSameNodes qs ps → slice_get ps k ≡ Some p → (q : Planned) × (slice_get qs k ≡ Some q) × (node_in q ≡ node_in p)
node_there [] qs k p same at = absurd (none-some p at)
node_there (x ∷ ps) [] k p same at = cc
node_there (x ∷ ps) (y ∷ qs) zero p same at = let here : node_in y ≡ node_in x = cc in (y, refl, here ∙ ap node_in (same_Some x p at))
node_there (x ∷ ps) (y ∷ qs) (suc k) p same at = let rest : AreSameNodes qs ps = cc in node_there ps qs k p rest at

module _ (names : List NameFacts) (ps qs : List Planned) (same : AreSameNodes qs ps) where
  at_over : (k : ℕ) (n : Node) (f : NameFacts) → IsNodeAt names ps k n f → IsNodeAt names qs k n f
  at_over k n f a = let t = node_there ps qs k a.planned same a.at in record {
    planned = t.0;
    at = t.1;
    node = ap (λ (x : Node × ℕ). x.0) t.2 ∙ a.node;
    facts = ap (λ (x : Node × ℕ). slice_get names x.1) t.2 ∙ a.facts;
  }

  aim_over : (k : PlaceNeed) (t : Need) → IsAim names ps k t → IsAim names qs k t
  aim_over k t a = record { facts = a.facts; at = at_over k.node t.node a.facts a.at; permitted = a.permitted }

  aims_over : (ks : List PlaceNeed) (ts : List Need) → AreAims names ps ks ts → AreAims names qs ks ts
  aims_over [] [] h = tt
  aims_over [] (t ∷ ts) h = absurd h
  aims_over (k ∷ ks) [] h = absurd h
  aims_over (k ∷ ks) (t ∷ ts) h = (aim_over k t h.0, aims_over ks ts h.1)

  row_over : (kss : List (List PlaceNeed)) (asked : List Asked) → AreRowAims names ps kss asked → AreRowAims names qs kss asked
  row_over [] [] h = tt
  row_over [] (a ∷ asked) h = absurd h
  row_over (ks ∷ kss) [] h = absurd h
  row_over (ks ∷ kss) (a ∷ asked) h = (aims_over ks (needs_of a.requirement.now) h.0, row_over kss asked h.1)

  base_over : (n : Node) (b : Option ℕ) (f : NameFacts) → HasBaseAt names ps n b f → HasBaseAt names qs n b f
  base_over n None f h = h
  base_over n (Some b) f h = (h.0, at_over b (record { name = n.name; extra = None }) f h.1)

  pub planned_over : (c : Packages) (h : PassView) (truths : List DiagramMark) (p : Planned) → IsPlanned c h names ps truths p → IsPlanned c h names qs truths p
  planned_over c h truths p k = record {
    facts = k.facts;
    at = k.at;
    named = k.named;
    base = base_over p.node p.base k.facts k.base;
    count = k.count;
    aimed = k.aimed;
    shared = k.shared;
    rows = λ v x row aims e d u. let r = k.rows v x row aims e d u in record {
      found = r.found;
      holds = r.holds;
      aimed = row_over aims row.asked r.aimed;
    };
  }

increases_over : (p q : Planned) (ps qs : List Planned) → node_in q ≡ node_in p → AreSameNodes qs ps → IncreasesFrom PlannedBefore p ps → IncreasesFrom PlannedBefore q qs
increases_over p q [] [] e same h = tt
increases_over p q [] (y ∷ qs) e same h = cc
increases_over p q (x ∷ ps) [] e same h = cc
increases_over p q (x ∷ ps) (y ∷ qs) e same h =
    let here : node_in y ≡ node_in x = cc in
    let rest : AreSameNodes qs ps = cc in
    (ap (λ (z : Node × ℕ). node_cmp z.0 y.node) e ∙ (ap (λ (z : Node × ℕ). node_cmp p.node z.0) here ∙ h.0), increases_over x y ps qs here rest h.1)

-- the same nodes increase
pub same_increase : (ps qs : List Planned) → AreSameNodes qs ps → Increases PlannedBefore ps → Increases PlannedBefore qs
same_increase [] [] same h = tt
same_increase [] (y ∷ qs) same h = cc
same_increase (x ∷ ps) [] same h = cc
same_increase (x ∷ ps) (y ∷ qs) same h =
    let here : node_in y ≡ node_in x = cc in
    let rest : AreSameNodes qs ps = cc in
    increases_over x y ps qs here rest h

-- ---- rows of the releases of a name

-- a node with the rows of what its name's nodes share, which stands at the place of the name
pub own_rows : (h : PassView) (names : List NameFacts) (nodes : List Planned) (truths : List DiagramMark) (all : List Shared) (own : Shared) (p q : Planned) → node_in p ≡ node_in q → q.name < length all → own ≡ get_or all q.name own
    → HasRows h names nodes truths (releases_shared own) p → HasOwnRows h names nodes truths (map releases_shared all) p
own_rows h names nodes truths all own p q same l at has = (
  releases_shared own,
  ap (λ (z : Node × ℕ). slice_get (map releases_shared all) z.1) same ∙ image_at releases_shared all q.name own (slice_get-get_or all q.name own l ∙ ap Some (sym at)),
  has,
)

-- the releases of the name at a place
mapped_at : (own : List Releases) (k : ℕ) (rs : List ReleaseFields) → slice_get (map releases_in own) k ≡ Some rs → (r : Releases) × (slice_get own k ≡ Some r) × (releases_in r ≡ rs)
mapped_at [] k rs e = absurd (none-some rs e)
mapped_at (r ∷ own) zero rs e = (r, refl, same_Some (releases_in r) rs e)
mapped_at (r ∷ own) (suc k) rs e = mapped_at own k rs e

module _ (c : Packages) (wish : WishFields) (h : PassView) (names : List NameFacts) (nodes : List Planned) (truths : List DiagramMark) where
  rows_are : (f : NameFacts) (rs : List ReleaseFields) (p : Planned) → slice_get names p.name ≡ Some f → AreReleasesOf c f.name f.versions rs → HasRows h names nodes truths rs p → IsPlanned c h names nodes truths p
  rows_are f rs p at known has =
      let named : f.name ≡ p.node.name = ap (λ (z : NameFacts). z.name) (same_Some f has.named.0 (sym at ∙ has.named.1)) ∙ has.named.2 in
      let count : length p.rows.items ≡ length f.versions = sym (length-map p.rows.items release_in) ∙ (ap (λ (z : List ReleaseFields). length z) has.releases ∙ known.count) in record {
        facts = f;
        at = at;
        named = named;
        base = subst (HasBaseAt names nodes p.node p.base) (same_Some has.base.0 f (sym has.base.1 ∙ at)) has.base.2;
        count = count;
        aimed = sym (AllZip-long (AreAimsOf names nodes) p.aims.items p.rows.items has.aims) ∙ count;
        shared = has.shared;
        rows = λ v x row aims e d u.
            let there : slice_get rs v ≡ Some (release_in row) = ap (λ (z : List ReleaseFields). slice_get z v) (sym has.releases) ∙ image_at release_in p.rows.items v row d in record {
              found = subst (λ (n : List ℕ). release_of c n x ≡ Some row.release.now) named (known.each v x (release_in row) e there);
              holds = all_there (IsRow h p.node truths) p.rows.items v row has.rows d;
              aimed = zip_at (AreAimsOf names nodes) p.aims.items p.rows.items v aims row has.aims u d;
            };
      }

  own_planned : (own : List Releases) (p : Planned) → AreKnown c wish names own → HasOwnRows h names nodes truths (map releases_in own) p → IsPlanned c h names nodes truths p
  own_planned own p known has = let r = mapped_at own p.name has.0 has.1 in
      rows_are has.2.named.0 has.0 p has.2.named.1
      (subst (AreReleasesOf c has.2.named.0.name has.2.named.0.versions) r.2 (known_at c wish names own p.name has.2.named.0 r.0 known has.2.named.1 r.1).releases) has.2

  -- the nodes that were made are right among themselves
  pub all_planned : (own : List Releases) (made : List Planned) → AreSameNodes made nodes → AreKnown c wish names own → All (HasOwnRows h names nodes truths (map releases_in own)) made → All (IsPlanned c h names made truths) made
  all_planned own made same known a = All-weaker (HasOwnRows h names nodes truths (map releases_in own)) (IsPlanned c h names made truths) (λ p k. planned_over names nodes made same c h truths p (own_planned own p known k)) made a

-- ---- places of nodes

-- the same nodes stand at the places
pub nodes_at_over : (ps qs : List Planned) → AreSameNodes qs ps → (ks : List ℕ) (ns : List Node) → AreNodesAt ps ks ns → AreNodesAt qs ks ns
nodes_at_over ps qs same [] [] h = tt
nodes_at_over ps qs same [] (n ∷ ns) h = absurd h
nodes_at_over ps qs same (k ∷ ks) [] h = absurd h
nodes_at_over ps qs same (k ∷ ks) (n ∷ ns) h = let t = node_there ps qs k h.planned same h.at in record {
  planned = t.0;
  at = t.1;
  node = ap (λ (x : Node × ℕ). x.0) t.2 ∙ h.node;
  rest = nodes_at_over ps qs same ks ns h.rest;
}

-- ---- the whole

-- what all regions share, of its parts
pub prepared_is : (h : PassView) (p : Prepared) (names : List NameFacts) (bare nodes made : List Planned) (own rs : List Releases)
    → names ≡ p.names.items → nodes ≡ bare → own ≡ rs → made ≡ p.nodes.items → AreKnown p.catalog.now p.wish.now p.names.items rs → Increases PlannedBefore bare → AreSameNodes p.nodes.items nodes
    → All (HasOwnRows h names nodes p.truths.marks.items (map releases_in own)) p.nodes.items → AreNodesAt made p.roots.items p.starts.now → All (IsDiagram h) p.truths.marks.items → IsPrepared h p
prepared_is h p names bare nodes made own rs ns bs os ms known rising same rows roots truths = record {
  names = known_names p.catalog.now p.wish.now p.names.items rs known;
  increasing = same_increase bare p.nodes.items same_bare rising;
  nodes = all_planned p.catalog.now p.wish.now h p.names.items bare p.truths.marks.items rs p.nodes.items same_bare known
      (subst (λ (z : List NameFacts). All (HasOwnRows h z bare p.truths.marks.items (map releases_in rs)) p.nodes.items) ns
      (subst (λ (z : List Planned). All (HasOwnRows h names z p.truths.marks.items (map releases_in rs)) p.nodes.items) bs
      (subst (λ (z : List Releases). All (HasOwnRows h names nodes p.truths.marks.items (map releases_in z)) p.nodes.items) os rows)));
  roots = subst (λ (z : List Planned). AreNodesAt z p.roots.items p.starts.now) ms roots;
  truths = truths;
}
  where
    same_bare : AreSameNodes p.nodes.items bare
    same_bare = subst (λ (z : List Planned). AreSameNodes p.nodes.items z) bs same
