use Rattle.std.proofs.Common.{◌≡◌, List, ap, map, sym, subst, ◌∙◌}
use Rattle.std.specs.Prelude.{All, IfOk}
use Rattle.ul_requirement.specs.Fields.{ReleaseFields}
use Rattle.ul_region.proofs.ForCallers.{grown_then}
use Rattle.ul_prepared.specs.Gathered.{HasOwnRows}
use Rattle.ul_prepared.specs.Lists.{releases_in}
use Rattle.ul_prepared.specs.Places.{IsAmong}
use Rattle.ul_prepared.specs.Shared.{IsShared, releases_shared}
use Rattle.ul_prepared.specs.Targets.{SharesTargets}
use Rattle.ul_prepared.proofs.Loops.{if_handed}
use Rattle.ul_prepared.proofs.TargetFacts.{shared_targets}
use Rattle.ul_prepared.proofs.planning.placed_nodes.Goals as goal

pub nodes_over-placed-requires-clause-shared : goal.nodes_over-placed-requires-clause-shared
nodes_over-placed-requires-clause-shared g c =
    subst (All (IsShared c.shared_names.new.algebra c.shared_names.new.truths.marks.items)) (sym c.as_slice.ensures.value) c.in_ok-shared.ensures.shared

pub nodes_over-placed-requires-clause-targets : goal.nodes_over-placed-requires-clause-targets
nodes_over-placed-requires-clause-targets g c =
    let among = IsAmong c.args.bare.now in
    subst (All (SharesTargets among)) (sym c.as_slice.ensures.value) (shared_targets among c.in_ok-shared.shared.items c.args.releases.items c.in_ok-shared.ensures.lists c.requires.targets)

pub returns-clause-grown : goal.returns-clause-grown
returns-clause-grown g c = grown_then _ _ _ _ _ _ c.shared_names.ensures.grown c.nodes_over-placed.ensures.grown

pub returns-clause-rows : goal.returns-clause-rows
returns-clause-rows g c =
    let of = HasOwnRows c.nodes_over-placed.new.algebra c.args.names.now c.args.bare.now c.nodes_over-placed.new.truths.marks.items in
    let made = c.nodes_over-placed.result in
    let own : map releases_shared c.as_slice.result.now ≡ map releases_in c.args.releases.items = ap (map releases_shared) c.as_slice.ensures.value ∙ c.in_ok-shared.ensures.releases in
    if_handed made c.made_from.result (λ both. All (of (map releases_in c.args.releases.items)) both.0.items) c.made_from.ensures
    (subst (λ (z : List (List ReleaseFields)). IfOk made (λ both. All (of z) both.0.items)) own c.nodes_over-placed.ensures.rows)
