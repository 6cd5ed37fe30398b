use Rattle.std.proofs.Common.{ℕ, List, ap, subst, sym, ◌∙◌}
use Rattle.std.specs.Prelude.{IfOk, flat_map}
use Rattle.ul_index.specs.Catalogs.{requirements}
use Rattle.ul_requirement.specs.Truth.{base}
use Rattle.ul_sound.specs.Merged.{AreEdgesOf}
use Rattle.ul_merge.specs.Blocks.{catalog_in, leaves_in, supported_in}
use Rattle.ul_lock_write.specs.Markers.{edge_marker}
use Rattle.ul_merge.specs.Over.{OrOver}
use Rattle.ul_merge.proofs.HandedOn.{if_handed}
use Rattle.ul_merge.proofs.BlockFacts.{base_users_in}
use Rattle.ul_merge.proofs.blocks.base_edges.Goals as goal

pub edges_of-edges-requires-clause-users : goal.edges_of-edges-requires-clause-users
edges_of-edges-requires-clause-users g c = base_users_in c.args.sources.now.choices.now c.args.group.now c.as_slice.result.now c.in_ok-users.users.items c.as_slice-2.result.now _
    c.requires.group c.as_slice.ensures.value c.in_ok-users.ensures c.as_slice-2.ensures.value (ap (λ (n : List ℕ). (base n, c.args.group.now.key.version.now)) c.in_ok-copy.ensures)

pub returns-clause-edges : goal.returns-clause-edges
returns-clause-edges g c =
    let s = c.args.sources.now in
    let version = c.args.group.now.key.version.now in
    let Are = λ (n : List ℕ). OrOver (flat_map edge_marker) (AreEdgesOf (catalog_in s) (leaves_in s) (supported_in s) (base n, version)) in
    if_handed c.edges_of-edges.result c.made_from.result (Are c.args.group.now.key.name.now) c.made_from.ensures
    (subst (λ (n : List ℕ). IfOk c.edges_of-edges.result (Are n)) c.in_ok-copy.ensures c.edges_of-edges.ensures.edges)

pub edges_of-edges-requires-clause-sources : goal.edges_of-edges-requires-clause-sources
edges_of-edges-requires-clause-sources g c = c.requires.sources

pub edges_of-edges-requires-clause-required : goal.edges_of-edges-requires-clause-required
edges_of-edges-requires-clause-required g c = c.plain.ensures ∙ c.requires.required ∙ ap (λ (n : List ℕ). requirements (catalog_in c.args.sources.now) n c.args.group.now.key.version.now) (sym c.in_ok-copy.ensures)

pub returns-clause-knows : goal.returns-clause-knows
returns-clause-knows g c = c.edges_of-edges.ensures.knows
