use Rattle.std.proofs.Common.{◌∙◌, [], ◌∷◌, append_assoc, arith, map, refl}
use Rattle.std.proofs.lemmas.List.{nil_from_length}
use Rattle.std.specs.Vec.Iter.{into_iter_items}
use Rattle.ul_groups.specs.Adjusted.{constrained_by}
use Rattle.ul_groups.proofs.LeftLists.{left_none}
use Rattle.ul_groups.proofs.adjustment.add_followed.Goals as goal

pub returns : goal.returns
returns c =
    left_none (λ xs. xs) c.loop-follower.list.items _ (into_iter_items c.loop-follower.follower-iterator) refl
    (nil_from_length (into_iter_items c.loop-follower.follower-iterator) (omega (arith, c.in-None.ensures.steps.0, c.loop-follower.follower-iterator.rest.ok)))
    c.loop-follower.invariant
    ∙ append_assoc c.args.list.now.items (c.args.requirement ∷ []) (map (constrained_by c.args.requirement) c.args.constraints.now)
