use Rattle.std.proofs.Common.{◌≡◌, ◌∙◌, ◌++◌, ◌-◌, ap, arith, drop, length, map, sum, take}
use Rattle.ul_project.specs.Extras.{extra_size}
use Rattle.ul_project.specs.Lists.{names_of}
use Rattle.ul_groups.specs.Expanded.{joined_lists, lists_with, own_size}
use Rattle.ul_groups.proofs.ExtraLists.{lists_are}
use Rattle.ul_groups.proofs.extras.joined_requirements.Goals as goal

own : (c : goal.In_ok-requirements-2) → c.own_size-own.result ≡ own_size c.args.sizes.items c.args.requirements.items
own c =
    let long : c.len.result ≡ length c.args.requirements.items = omega (arith, c.len.ensures, c.args.requirements.ok) in
    c.own_size-own.ensures ∙ (λ i. long i - sum (c.as_slice.ensures.value i))

lists : (c : goal.In_ok-requirements-2)
    → c.in_ok-requirements.lists.entries ≡ lists_with c.args.extras.items c.args.sizes.items c.args.requirements.items c.args.lists.items
lists c =
    lists_are c.args.requirements.items _ c.args.extras.items c.args.sizes.items _ c.args.lists.items _
    ((rw c.in_ok-kept.ensures.1 at c.next_list-first.ensures.rest) ∙ (λ i. drop (own c i) (c.into_iter-rest.ensures.rest i)))
    (rw c.in_ok-kept.ensures.0 at c.as_slice-2.ensures.value)
    (rw c.in_ok-kept.ensures.0 at (rw c.in_ok-requirements.ensures.1 at c.all_lists-lists.ensures))

pub returns-clause-requirements : goal.returns-clause-requirements
returns-clause-requirements c =
    let first : c.in_ok-requirements.requirements.items ≡ take (own_size c.args.sizes.items c.args.requirements.items) c.args.requirements.items =
    rw c.in_ok-requirements.ensures.0
    ((rw c.in_ok-kept.ensures.1 at c.next_list-first.ensures.list) ∙ (λ i. take (own c i) (c.into_iter-rest.ensures.rest i))) in
    rw c.in_ok-requirements-2.ensures.0
    ((rw c.in_ok-requirements-2.ensures.1 at c.add_lists-added.ensures.requirements) ∙ (λ i. first i ++ joined_lists (lists c i)))

pub returns-clause-extras : goal.returns-clause-extras
returns-clause-extras c = (rw c.in_ok-requirements-2.ensures.1 at c.add_lists-added.ensures.extras) ∙ ap names_of (lists c)

pub returns-clause-sizes : goal.returns-clause-sizes
returns-clause-sizes c = (rw c.in_ok-requirements-2.ensures.1 at c.add_lists-added.ensures.sizes) ∙ ap (map extra_size) (lists c)

pub returns-clause-rises : goal.returns-clause-rises
returns-clause-rises c = rw c.in_ok-requirements-2.ensures.1 at c.add_lists-added.ensures.rises
