use Rattle.std.proofs.Common.{◌≡◌, ℕ, List, ap, sym, subst, ◌∙◌}
use Rattle.ul_base.specs.declared.node.Node.{Node}
use Rattle.ul_base.proofs.ForCallers.{made_holds}
use Rattle.ul_index.specs.Catalogs.{requirements}
use Rattle.ul_requirement.specs.Truth.{with_extra}
use Rattle.ul_sound.specs.Merged.{AreEdgesOf}
use Rattle.std.specs.Prelude.{flat_map}
use Rattle.ul_lock_write.specs.Markers.{edge_marker, extra_markers}
use Rattle.ul_merge.specs.Blocks.{AreUsers, IsMadeExtra, catalog_in, leaves_in, supported_in}
use Rattle.ul_merge.specs.Keys.{pair_of}
use Rattle.ul_merge.specs.Over.{OrOver}
use Rattle.ul_merge.proofs.WholeParts.{extra_over}
use Rattle.ul_merge.proofs.blocks.extra_of.Goals as goal

same_node : (n m x y : List ℕ) → n ≡ m → x ≡ y → with_extra n x ≡ with_extra m y
same_node n m x y e f = ap (λ (z : List ℕ). with_extra z x) e ∙ ap (with_extra m) f

pub edges_of-edges-requires-clause-users : goal.edges_of-edges-requires-clause-users
edges_of-edges-requires-clause-users g c =
    let version = c.args.pair.now.version.now in
    let same = same_node c.in_ok-name.name c.args.pair.now.name.now c.in_ok-extra.extra c.args.group.now.key.name.now c.in_ok-name.ensures c.in_ok-extra.ensures in
    subst (λ (us : List ℕ). AreUsers c.args.sources.now.choices.now (with_extra c.in_ok-name.name c.in_ok-extra.extra, version) us) (sym c.as_slice.ensures.value)
    (subst (λ (n : Node). AreUsers c.args.sources.now.choices.now (n, version) c.args.group.now.values.items) (sym same) c.requires.users)

pub returns-clause-extra : goal.returns-clause-extra
returns-clause-extra g c =
    let s = c.args.sources.now in
    let version = c.args.pair.now.version.now in
    let same = same_node c.in_ok-name.name c.args.pair.now.name.now c.in_ok-extra.extra c.args.group.now.key.name.now c.in_ok-name.ensures c.in_ok-extra.ensures in
    let y = c.args.group.now.key.name.now in
    let edges = made_holds c.edges_of-edges.result c.in_ok-edges.edges _ c.in_ok-edges.ensures c.edges_of-edges.ensures.edges in
    subst (OrOver extra_markers (IsMadeExtra (catalog_in s) (leaves_in s) (supported_in s) (pair_of c.args.pair.now) y)) (sym c.in_ok-extra-2.ensures)
    (extra_over (catalog_in s) (leaves_in s) (supported_in s) (pair_of c.args.pair.now) y c.in_ok-edges.edges
    (subst (λ (n : Node). OrOver (flat_map edge_marker) (AreEdgesOf (catalog_in s) (leaves_in s) (supported_in s) (n, version)) c.in_ok-edges.edges) same edges))

pub edges_of-edges-requires-clause-sources : goal.edges_of-edges-requires-clause-sources
edges_of-edges-requires-clause-sources g c = c.requires.sources

pub edges_of-edges-requires-clause-required : goal.edges_of-edges-requires-clause-required
edges_of-edges-requires-clause-required g c = c.requires.required ∙ ap (λ (n : List ℕ). requirements (catalog_in c.args.sources.now) n c.args.pair.now.version.now) (sym c.in_ok-name.ensures)

pub returns-clause-knows : goal.returns-clause-knows
returns-clause-knows g c = c.edges_of-edges.ensures.knows
