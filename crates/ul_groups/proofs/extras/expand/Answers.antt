use Rattle.std.proofs.Common.{◌≡◌, ◌∙◌, ap, sym}
use Rattle.std.specs.Prelude.{Ok}
use Rattle.ul_project.specs.Fields.{ProjectFields}
use Rattle.ul_project.specs.Results.{◌>>=◌}
use Rattle.ul_groups.specs.Expanded.{ExtraLists, Expanding, all_lists, group_lists, group_named, with_extras}
use Rattle.ul_groups.proofs.extras.expand.Goals as goal

pub returns : goal.returns
returns c =
    let p = c.args.project in
    let whole : Expanding ExtraLists → Expanding ProjectFields = λ lists. lists >>= λ ls. Ok (with_extras p (all_lists p.extras p.sizes p.package ls)) in
    let groups : c.as_slice.result.now ≡ p.groups = c.as_slice.ensures.value ∙ ap (λ (q : ProjectFields). q.groups) c.project.view_is in
    ap (λ gs. whole (group_lists (group_named gs) gs)) (sym groups) ∙ ap whole c.in_ok-lists.ensures ∙ ap Ok (sym c.in_ok-project.ensures)
