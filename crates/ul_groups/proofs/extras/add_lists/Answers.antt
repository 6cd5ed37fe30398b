use Rattle.std.proofs.Common.{◌≡◌, ◌∙◌, ◌++◌, ap, arith, length, map, refl, subst, sym}
use Rattle.std.specs.List.Sorted.{IsStrictlySortedBy}
use Rattle.ul_base.specs.Names.{name_cmp}
use Rattle.ul_project.specs.Extras.{extra_size}
use Rattle.ul_project.specs.Lists.{names_of}
use Rattle.ul_groups.specs.Expanded.{joined_lists}
use Rattle.ul_groups.proofs.LeftLists.{joined_next, left_next, left_none}
use Rattle.ul_groups.proofs.extras.add_lists.Goals as goal

pub loop-name-preserved : goal.loop-name-preserved
loop-name-preserved c =
    let first = c.in-Some.ensures.steps in
    let long : c.len.result ≡ length c.list.inside.list.items = omega (arith, c.len.ensures, c.list.inside.list.ok) in record {
      requirements = joined_next _ _ _ _ _ _ _ (c.in_ok-add_list.ensures ∙ ap (λ list. c.loop-name.requirements.items ++ list) c.list.view_is) first c.loop-name.invariant.requirements;
      extras = left_next (λ list. list.0) _ _ _ _ _ _ _ c.in_ok-push-2.ensures.items refl first c.loop-name.invariant.extras;
      sizes = left_next extra_size _ _ _ _ _ _ _ c.in_ok-push.ensures.items (long ∙ ap length c.list.view_is) first c.loop-name.invariant.sizes;
    }

pub returns-clause-requirements : goal.returns-clause-requirements
returns-clause-requirements c = left_none joined_lists _ _ _ refl c.in-None.ensures.steps.0 c.loop-name.invariant.requirements

pub returns-clause-extras : goal.returns-clause-extras
returns-clause-extras c = left_none names_of _ _ _ refl c.in-None.ensures.steps.0 c.loop-name.invariant.extras

pub returns-clause-sizes : goal.returns-clause-sizes
returns-clause-sizes c = left_none (map extra_size) _ _ _ refl c.in-None.ensures.steps.0 c.loop-name.invariant.sizes

pub returns-clause-rises : goal.returns-clause-rises
returns-clause-rises c = subst (IsStrictlySortedBy name_cmp) (sym (returns-clause-extras c)) c.len-size.ensures.ordered
