use Rattle.std.specs.Prelude.{All, Contains, IfOk}
use Rattle.std.proofs.Common.{◌≡◌, ℕ, List, Global, Ok, Vec, ap, length, map, sym, subst, ◌∙◌, refl}
use Rattle.ul_algebra.specs.Answers.{IsDiagram}
use Rattle.std.proofs.lemmas.List.Elements.{All-contains, All-weaker}
use Rattle.ul_base.specs.declared.node.Node.{Node}
use Rattle.ul_base.proofs.ForCallers.{made_holds}
use Rattle.ul_region.specs.declared.rows.Truths.{Truths}
use Rattle.ul_prepared.specs.Gathered.{AreKnown, HasOwnRows, IsNamed, IsNamedBy, IsPlacedNode}
use Rattle.ul_prepared.specs.Lists.{AreListed, releases_in}
use Rattle.ul_prepared.specs.Permitted.{IsRising}
use Rattle.ul_prepared.specs.Places.{AreNodesOf, IsAmong, IsBased}
use Rattle.ul_prepared.specs.Targets.{ListsTargets}
use Rattle.ul_prepared.specs.declared.prepared.NameFacts.{NameFacts}
use Rattle.ul_prepared.specs.declared.prepared.Planned.{Planned}
use Rattle.ul_prepared.proofs.KnownNames.{known_listed, known_rising, known_size}
use Rattle.ul_prepared.proofs.NodeRows.{prepared_is}
use Rattle.ul_prepared.proofs.PlaceFacts.{all_based, all_named}
use Rattle.ul_prepared.proofs.TargetFacts.{names_into}
use Rattle.ul_prepared.proofs.prepared.Prepared.of.Goals as goal
use Rattle.ul_prepared.proofs.prepared.Prepared.of.Goals.{In_ok-known, In_ok-shared}

-- what was told of the bare nodes holds of those that were handed on
bare_told : (g : _) (c : In_ok-known g) (P : Vec Planned Global → Type 0) → IfOk c.bare_nodes-bare.result P → P c.in_ok-known.bare
bare_told g c P h =
    let bare = c.in_ok-known.bare in
    made_holds c.bare_nodes-bare.result bare P (made_holds c.made_from.result bare (λ v. c.bare_nodes-bare.result ≡ Ok v) c.in_ok-known.ensures.1 c.made_from.ensures) h

-- and of the nodes with their rows, and their places
placed_told : (g : _) (c : In_ok-shared g) (P : Vec Planned Global × Vec ℕ Global → Type 0) → IfOk c.placed_nodes-placed.result P → P c.in_ok-shared.placed
placed_told g c P h =
    let placed = c.in_ok-shared.placed in
    made_holds c.placed_nodes-placed.result placed P (made_holds c.made_from-2.result placed (λ v. c.placed_nodes-placed.result ≡ Ok v) c.in_ok-shared.ensures.1 c.made_from-2.ensures) h

pub bare_nodes-bare-requires : goal.bare_nodes-bare-requires
bare_nodes-bare-requires g c = c.in_ok-names.ensures.gathered.placed

-- of the nodes that are gathered each is among the bare ones
among : (g : _) (c : In_ok-known g) (n : Node) → Contains c.in_ok-names.field-0.nodes.items n → IsAmong c.in_ok-known.bare.items n
among g c n h = (bare_told g c (λ v. AreNodesOf c.in_ok-names.field-0.nodes.items v.items) c.bare_nodes-bare.ensures.nodes).whole n h

pub placed_nodes-placed-requires-clause-rising : goal.placed_nodes-placed-requires-clause-rising
placed_nodes-placed-requires-clause-rising g c =
    let e : c.as_slice.result.now ≡ c.in_ok-names.field-0.names.items = c.as_slice.ensures.value ∙ ap (λ z. z.0.items) c.in_ok-known.ensures.0 in
    subst (All IsRising) (sym e) (known_rising c.args.catalog.now c.args.wish.now c.in_ok-names.field-0.names.items c.in_ok-names.field-0.releases.items c.in_ok-names.ensures.gathered.known)

pub placed_nodes-placed-requires-clause-listed : goal.placed_nodes-placed-requires-clause-listed
placed_nodes-placed-requires-clause-listed g c =
    subst (All AreListed) (sym (ap (λ z. z.1.items) c.in_ok-known.ensures.0)) (known_listed c.args.catalog.now c.args.wish.now c.in_ok-names.field-0.names.items c.in_ok-names.field-0.releases.items c.in_ok-names.ensures.gathered.known)

pub placed_nodes-placed-requires-clause-size : goal.placed_nodes-placed-requires-clause-size
placed_nodes-placed-requires-clause-size g c =
    let e : c.as_slice.result.now ≡ c.in_ok-names.field-0.names.items = c.as_slice.ensures.value ∙ ap (λ z. z.0.items) c.in_ok-known.ensures.0 in
    ap (λ z. length z.1.items) c.in_ok-known.ensures.0
    ∙ (known_size c.args.catalog.now c.args.wish.now c.in_ok-names.field-0.names.items c.in_ok-names.field-0.releases.items c.in_ok-names.ensures.gathered.known ∙ sym (ap length e))

pub placed_nodes-placed-requires-clause-named : goal.placed_nodes-placed-requires-clause-named
placed_nodes-placed-requires-clause-named g c =
    let made = c.in_ok-names.field-0 in
    let of_known = (goal.at.placed_nodes-placed-requires-clause-named g c).In_ok-known in
    let e : c.as_slice.result.now ≡ made.names.items = c.as_slice.ensures.value ∙ ap (λ z. z.0.items) c.in_ok-known.ensures.0 in
    subst (All (IsNamed c.as_slice.result.now)) (sym c.as_slice-2.ensures.value)
    (subst (λ (ns : List NameFacts). All (IsNamed ns) c.in_ok-known.bare.items) (sym e)
    (all_named made.names.items made.places c.in_ok-known.bare.items c.in_ok-names.ensures.gathered.places
    (bare_told g of_known (λ v. All (IsNamedBy made.places) v.items) c.bare_nodes-bare.ensures.named)))

pub placed_nodes-placed-requires-clause-based : goal.placed_nodes-placed-requires-clause-based
placed_nodes-placed-requires-clause-based g c =
    let made = c.in_ok-names.field-0 in
    let was = c.in_ok-names.ensures.gathered in
    let of_known = (goal.at.placed_nodes-placed-requires-clause-based g c).In_ok-known in
    subst (λ (ps : List Planned). All (IsBased ps) ps) (sym c.as_slice-2.ensures.value)
    (all_based made.places made.nodes.items c.in_ok-known.bare.items
    (bare_told g of_known (λ v. All (IsNamedBy made.places) v.items) c.bare_nodes-bare.ensures.named)
    (bare_told g of_known (λ v. AreNodesOf made.nodes.items v.items) c.bare_nodes-bare.ensures.nodes)
    (λ n h. was.based n.name (All-contains (IsPlacedNode made.places) made.nodes.items n was.placed h)))

pub placed_nodes-placed-requires-clause-targets : goal.placed_nodes-placed-requires-clause-targets
placed_nodes-placed-requires-clause-targets g c =
    let made = c.in_ok-names.field-0 in
    let of_known = (goal.at.placed_nodes-placed-requires-clause-targets g c).In_ok-known in
    let bare = c.in_ok-known.bare.items in
    subst (λ (ps : List Planned). All (ListsTargets (IsAmong ps)) c.in_ok-known.known.1.items) (sym c.as_slice-2.ensures.value)
    (subst (All (ListsTargets (IsAmong bare))) (sym (ap (λ z. z.1.items) c.in_ok-known.ensures.0))
    (names_into (Contains made.nodes.items) (IsAmong bare) (among g of_known) made.releases.items c.in_ok-names.ensures.whole.targets))

pub placed_nodes-placed-requires-clause-starts : goal.placed_nodes-placed-requires-clause-starts
placed_nodes-placed-requires-clause-starts g c =
    let made = c.in_ok-names.field-0 in
    let of_known = (goal.at.placed_nodes-placed-requires-clause-starts g c).In_ok-known in
    let bare = c.in_ok-known.bare.items in
    subst (λ (ps : List Planned). All (IsAmong ps) c.args.starts.now) (sym c.as_slice-2.ensures.value)
    (All-weaker (Contains made.nodes.items) (IsAmong bare) (among g of_known) c.args.starts.now c.in_ok-names.ensures.whole.starts)

pub returns-clause-prepared : goal.returns-clause-prepared
returns-clause-prepared g c =
    let at = goal.at.returns-clause-prepared g c in
    let of_known : c.in_ok-known.known.0.items ≡ c.in_ok-names.field-0.names.items = ap (λ z. z.0.items) c.in_ok-known.ensures.0 in
    let shared = c.in_ok-shared.ensures.0 in
    let placed = c.in_ok-shared.placed in
    let names : c.as_slice.result.now ≡ c.in_ok-shared.shared.0.items = c.as_slice.ensures.value ∙ sym (ap (λ z. z.0.items) shared) in
    let own : c.in_ok-known.known.1.items ≡ c.in_ok-names.field-0.releases.items = ap (λ z. z.1.items) c.in_ok-known.ensures.0 in
    let h = c.placed_nodes-placed.new.algebra in
    let known = subst (λ (z : List NameFacts). AreKnown c.args.catalog.now c.args.wish.now z c.in_ok-names.field-0.releases.items) (sym (ap (λ z. z.0.items) shared ∙ of_known)) c.in_ok-names.ensures.gathered.known in
    let rows = placed_told g at.In_ok-shared _ c.placed_nodes-placed.ensures.rows in
    prepared_is h _ c.as_slice.result.now c.in_ok-known.bare.items c.as_slice-2.result.now placed.0.items c.in_ok-known.known.1.items c.in_ok-names.field-0.releases.items
    names c.as_slice-2.ensures.value own refl known (bare_told g at.In_ok-known _ c.bare_nodes-bare.ensures.increasing) (placed_told g at.In_ok-shared _ c.placed_nodes-placed.ensures.same)
    (subst (λ (z : Truths). All (HasOwnRows h c.as_slice.result.now c.as_slice-2.result.now z.marks.items (map releases_in c.in_ok-known.known.1.items)) placed.0.items) (sym (ap (λ z. z.1) shared)) rows)
    (placed_told g at.In_ok-shared _ c.placed_nodes-placed.ensures.roots)
    (subst (λ (z : Truths). All (IsDiagram h) z.marks.items) (sym (ap (λ z. z.1) shared)) c.placed_nodes-placed.ensures.grown.known)
