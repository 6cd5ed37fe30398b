use Rattle.std.proofs.Common.{◌≡◌, ◌∷◌, [], List, ap, sym, ◌∙◌, subst, map}
use Rattle.std.specs.List.{All}
use Rattle.ul_base.proofs.ForCallers.{made_holds}
use Rattle.ul_interner.specs.Known.{Known}
use Rattle.ul_nodes.specs.Levels.{atom_level}
use Rattle.ul_algebra.specs.Made.{Seen}
use Rattle.ul_algebra.specs.Spelled.{keyed_node, tree_of}
use Rattle.ul_algebra.proofs.Kept.{made_then}
use Rattle.ul_algebra.proofs.join.opaque_node.Goals as goal

pub node-requires : goal.node-requires
node-requires g c =
    let e = ap (λ v. v.items) c.in_ok-sides.ensures.0 ∙ c.in_ok-parts.ensures in
    subst (λ (z : List Seen). All (λ p. Known c.args.algebra.now p) z) (sym e) c.requires

pub returns-clause-tree : goal.returns-clause-tree
returns-clause-tree g c =
    let both = c.args.holds ∷ c.args.fails ∷ [] in
    let e = ap (λ v. v.items) c.in_ok-sides.ensures.0 ∙ c.in_ok-parts.ensures in
    let same = made_holds c.copy.result c.in_ok-sides.atom (λ a. a ≡ c.args.atom.now) c.in_ok-sides.ensures.1 c.copy.ensures in
    made_then c.node.result (λ m. tree_of m ≡ keyed_node (atom_level c.in_ok-sides.atom) ((1 ∷ []) ∷ []) (map tree_of c.in_ok-sides.sides.items))
    (λ m. tree_of m ≡ keyed_node (atom_level c.args.atom.now) ((1 ∷ []) ∷ []) (map tree_of both))
    (λ m h. h ∙ ap (λ a. keyed_node (atom_level a) ((1 ∷ []) ∷ []) (map tree_of c.in_ok-sides.sides.items)) same ∙ ap (λ z. keyed_node (atom_level c.args.atom.now) ((1 ∷ []) ∷ []) (map tree_of z)) e)
    c.node.ensures.tree

pub returns-clause-knows : goal.returns-clause-knows
returns-clause-knows g c = c.node.ensures.knows

pub returns-clause-known : goal.returns-clause-known
returns-clause-known g c = c.node.ensures.known
