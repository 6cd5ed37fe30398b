use Rattle.std.proofs.Common.{◌≡◌, ◌++◌, ◌∷◌, ◌∙◌, List, [], ap, length, rules}
use Rattle.ul_requirement.specs.Fields.{RequirementFields}
use Rattle.ul_project.specs.Extras.{extra_size}
use Rattle.ul_project.specs.Lists.{Named}
use Rattle.ul_project.proofs.Mapped.{mapped_next, required_next}
use Rattle.ul_project.proofs.extras.add_lists.Goals as goal

pub loop-name-preserved : goal.loop-name-preserved
loop-name-preserved c =
    let list : Named (List RequirementFields) = (c.in-Some.name, c.in-Some.list) in
    let counted : c.len.result ≡ length c.list.inside.list.items = search rules in
    let size : c.len.result ≡ length c.in-Some.list = counted ∙ ap length c.list.view_is in
    record {
      requirements = required_next c.loop-name.requirements.items c.add_list.new.requirements.items c.loop-name.name-iterator c.next.new.self list
          c.in-Some.ensures.steps (rw c.list.view_is at c.in_ok-add_list.ensures) ∙ c.loop-name.invariant.requirements;
      extras = mapped_next (λ (l : Named (List RequirementFields)). l.0) c.loop-name.extras.items c.push-in-loop-name.new.self.items c.loop-name.name-iterator c.next.new.self list
          c.in-Some.ensures.steps c.in_ok-push-2.ensures.items ∙ c.loop-name.invariant.extras;
      sizes = mapped_next extra_size c.loop-name.sizes.items c.push.new.self.items c.loop-name.name-iterator c.next.new.self list
          c.in-Some.ensures.steps (c.in_ok-push.ensures.items ∙ ap (λ n. c.loop-name.sizes.items ++ n ∷ []) size) ∙ c.loop-name.invariant.sizes;
    }
