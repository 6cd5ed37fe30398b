use Rattle.std.proofs.Common.{◌≡◌, ◌++◌, ◌∷◌, [], List, ap, sym, ◌∙◌, subst, map}
use Rattle.std.specs.List.{All}
use Rattle.ul_base.proofs.ForCallers.{made_holds}
use Rattle.ul_interner.specs.Known.{Known}
use Rattle.ul_algebra.specs.Made.{Seen}
use Rattle.ul_algebra.specs.Spelled.{spelling, tree_of}
use Rattle.ul_algebra.proofs.Kept.{made_then}
use Rattle.ul_algebra.proofs.join.points_node.Goals as goal

pub node-requires : goal.node-requires
node-requires g c =
    let e = made_holds c.parts_and_other.result c.in_ok-label.parts (λ v. v.items ≡ c.args.parts.items ++ (c.args.other ∷ [])) c.in_ok-label.ensures.1 c.parts_and_other.ensures in
    subst (λ (z : List Seen). All (λ p. Known c.args.algebra.now p) z) (sym e) c.requires

pub returns-clause-tree : goal.returns-clause-tree
returns-clause-tree g c =
    let all = c.args.parts.items ++ (c.args.other ∷ []) in
    let e = made_holds c.parts_and_other.result c.in_ok-label.parts (λ v. v.items ≡ all) c.in_ok-label.ensures.1 c.parts_and_other.ensures in
    made_then c.node.result (λ m. tree_of m ≡ spelling c.in_ok-label.label (map tree_of c.in_ok-label.parts.items)) (λ m. tree_of m ≡ spelling c.args.label (map tree_of all))
    (λ m h. h ∙ ap (λ z. spelling z (map tree_of c.in_ok-label.parts.items)) c.in_ok-label.ensures.0 ∙ ap (λ z. spelling c.args.label (map tree_of z)) e) c.node.ensures.tree
