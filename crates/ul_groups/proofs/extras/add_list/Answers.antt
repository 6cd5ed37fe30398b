use Rattle.std.proofs.Common.{◌∙◌, ◌++◌, [], ◌∷◌, ap, append_assoc, arith, refl, sym}
use Rattle.std.proofs.lemmas.List.{nil_from_length}
use Rattle.std.specs.Vec.Iter.{into_iter_items}
use Rattle.ul_groups.proofs.LeftLists.{left_none}
use Rattle.ul_groups.proofs.extras.add_list.Goals as goal

pub loop-requirement-preserved : goal.loop-requirement-preserved
loop-requirement-preserved c =
    let before = c.loop-requirement.requirements.items in
    let rest = into_iter_items c.next.new.self in
    ap (λ list. list ++ rest) c.in_ok-push.ensures.items ∙ append_assoc before (c.in-Some.requirement ∷ []) rest
    ∙ ap (λ list. before ++ list) (sym c.in-Some.ensures.steps.0) ∙ c.loop-requirement.invariant

pub returns : goal.returns
returns c =
    left_none (λ list. list) c.loop-requirement.requirements.items _ (into_iter_items c.loop-requirement.requirement-iterator) refl
    (nil_from_length (into_iter_items c.loop-requirement.requirement-iterator) (omega (arith, c.in-None.ensures.steps.0, c.loop-requirement.requirement-iterator.rest.ok)))
    c.loop-requirement.invariant
