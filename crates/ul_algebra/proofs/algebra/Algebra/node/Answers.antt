use Rattle.std.proofs.Common.{◌≡◌, map, ap, ◌∙◌, true, false}
use Rattle.ul_core.specs.Trees.{tree_with}
use Rattle.ul_interner.specs.Marked.{plain}
use Rattle.ul_algebra.specs.Spelled.{spells, spelling, tree_of}
use Rattle.ul_algebra.proofs.Decoded.{grown_is}
use Rattle.ul_algebra.proofs.Kept.{kept, made_then, truth_kept}
use Rattle.ul_algebra.proofs.algebra.Algebra.node.Goals as goal

pub invariant_of-self : goal.invariant_of-self
invariant_of-self g c =
    let before = c.self.inside.pass in
    let after = c.make-made.new.pass in
    let more = c.make-made.ensures.knows in (
      more.table ∙ c.self.invariant.0,
      (λ q r e. kept before after q r more (c.self.invariant.1 q r e)),
      truth_kept before after false c.self.inside.truths.no more c.self.invariant.2,
      truth_kept before after true c.self.inside.truths.yes more c.self.invariant.3,
    )

pub returns-clause-tree : goal.returns-clause-tree
returns-clause-tree g c =
    made_then c.make-made.result (λ m. plain m ≡ tree_with c.args.label (map plain c.args.parts.items)) (λ m. tree_of m ≡ spelling c.args.label (map tree_of c.args.parts.items))
    (λ m e. ap spells e ∙ grown_is c.args.label c.args.parts.items) c.make-made.ensures.tree
