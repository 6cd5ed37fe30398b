use Rattle.std.proofs.lemmas.List.{take_all}
use Rattle.std.proofs.Common.{◌≡◌, ◌<◌, ℕ, List, ap, length, map, sym, subst, ◌∙◌}
use Rattle.std.proofs.lemmas.List.Elements.{All-get_or}
use Rattle.std.proofs.lemmas.Option.{slice_get_within}
use Rattle.ul_region.proofs.ForCallers.{grown_then}
use Rattle.ul_prepared.specs.Gathered.{HasRows, IsNamed, node_in}
use Rattle.ul_prepared.specs.Places.{IsAmong, IsBased}
use Rattle.ul_prepared.specs.Shared.{IsShared, releases_shared}
use Rattle.ul_prepared.specs.Targets.{SharesTargets}
use Rattle.ul_prepared.specs.declared.prepared.NameFacts.{NameFacts}
use Rattle.ul_prepared.specs.declared.prepared.Planned.{Planned}
use Rattle.ul_prepared.specs.declared.shared.Shared.{Shared}
use Rattle.ul_prepared.proofs.Loops.{images_more}
use Rattle.ul_prepared.proofs.NodeRows.{own_rows, planned_more}
use Rattle.ul_prepared.proofs.SharedFacts.{all_shared_grown}
use Rattle.ul_base.proofs.ForCallers.{made_holds}
use Rattle.ul_prepared.proofs.planning.planned_nodes.Goals as goal
use Rattle.ul_prepared.proofs.planning.planned_nodes.Goals.{After-one-item}

-- the place of a node's name is one of those that are shared
within : (names : List NameFacts) (shared : List Shared) (p : Planned) → length shared ≡ length names → IsNamed names p → p.name < length shared
within names shared p size named = subst (λ (n : ℕ). p.name < n) (sym size) (slice_get_within names p.name named.0 named.1)

named_one : (g : _) (c : After-one-item g) → IsNamed c.args.names.now c.one-item.result
named_one g c = subst (IsNamed c.args.names.now) (sym c.one-item.is) (All-get_or (IsNamed c.args.names.now) c.args.bare.now c.loop-one.one-index c.one-item.result c.loop-one-test.true c.requires.index.named)

own_shared-own-within : (g : _) (c : After-one-item g) → c.one-item.result.name < length c.args.shared.now
own_shared-own-within g c = within c.args.names.now c.args.shared.now c.one-item.result c.requires.size (named_one g c)

pub own_shared-own-requires : goal.own_shared-own-requires
own_shared-own-requires g c = own_shared-own-within g (goal.at.own_shared-own-requires g c).After-one-item

pub planned_at-made-requires-clause-named : goal.planned_at-made-requires-clause-named
planned_at-made-requires-clause-named g c = named_one g (goal.at.planned_at-made-requires-clause-named g c).After-one-item

pub planned_at-made-requires-clause-shared : goal.planned_at-made-requires-clause-shared
planned_at-made-requires-clause-shared g c =
    let shared = IsShared c.loop-one.algebra c.loop-one.truths.marks.items in
    subst shared (sym c.own_shared-own.ensures)
    (All-get_or shared c.args.shared.now c.one-item.result.name c.own_shared-own.result.now (own_shared-own-within g (goal.at.planned_at-made-requires-clause-shared g c).After-one-item) c.loop-one.invariant.shared)

pub planned_at-made-requires-clause-based : goal.planned_at-made-requires-clause-based
planned_at-made-requires-clause-based g c =
    let based = IsBased c.args.bare.now in
    subst based (sym c.one-item.is) (All-get_or based c.args.bare.now c.loop-one.one-index c.one-item.result c.loop-one-test.true c.requires.based)

pub planned_at-made-requires-clause-targets : goal.planned_at-made-requires-clause-targets
planned_at-made-requires-clause-targets g c =
    let targets = SharesTargets (IsAmong c.args.bare.now) in
    subst targets (sym c.own_shared-own.ensures)
    (All-get_or targets c.args.shared.now c.one-item.result.name c.own_shared-own.result.now (own_shared-own-within g (goal.at.planned_at-made-requires-clause-targets g c).After-one-item) c.requires.targets)

pub returns-in_err-nodes-2-clause-grown : goal.returns-in_err-nodes-2-clause-grown
returns-in_err-nodes-2-clause-grown g c = grown_then _ _ _ _ _ _ c.loop-one.invariant.grown c.planned_at-made.ensures.grown

pub loop-one-preserved : goal.loop-one-preserved
loop-one-preserved g c =
    let before = c.loop-one.nodes.items in
    let after = c.in_ok-nodes-2.nodes.items in
    let more = c.in_ok-nodes-2.ensures in
    let one = more.0 in
    record {
      grown = grown_then _ _ _ _ _ _ c.loop-one.invariant.grown c.planned_at-made.ensures.grown;
      sets = c.planned_at-made.ensures.sets;
      shared = all_shared_grown _ _ _ _ c.args.shared.now c.planned_at-made.ensures.grown c.loop-one.invariant.shared;
      same = images_more node_in node_in before after c.args.bare.now c.loop-one.one-index one c.one-item.result
          more.2 c.loop-one.invariant.same (made_holds c.planned_at-made.result one _ more.1 c.planned_at-made.ensures.node) c.loop-one-test.true c.one-item.is;
      rows = planned_more c.args.names.now c.args.bare.now (map releases_shared c.args.shared.now) c.loop-one.algebra c.planned_at-made.new.algebra c.loop-one.truths.marks.items c.planned_at-made.new.truths.marks.items
          before after one more.2 c.planned_at-made.ensures.grown c.loop-one.invariant.rows
          (own_rows _ _ _ _ c.args.shared.now c.own_shared-own.result.now one c.one-item.result (made_holds c.planned_at-made.result one _ more.1 c.planned_at-made.ensures.node) (own_shared-own-within g (goal.at.loop-one-preserved g c).After-one-item) c.own_shared-own.ensures (made_holds c.planned_at-made.result one (λ p. HasRows c.planned_at-made.new.algebra c.args.names.now c.args.bare.now c.planned_at-made.new.truths.marks.items (releases_shared c.own_shared-own.result.now) p) more.1 c.planned_at-made.ensures.rows));
    }

pub returns-clause-same : goal.returns-clause-same
returns-clause-same g c = c.loop-one.invariant.same ∙ ap (map node_in) (take_all c.loop-one.one-index c.args.bare.now c.loop-one-test.false)
