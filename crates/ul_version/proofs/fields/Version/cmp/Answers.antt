use Rattle.std.proofs.Common.{◌≡◌, ap, sym, ◌∙◌}
use Rattle.ul_version.specs.Fields.{Fields}
use Rattle.ul_version.specs.Order.{local_cmp, version_cmp}
use Rattle.ul_version.proofs.Orders.{public-decides, local-decides}
use Rattle.ul_version.proofs.fields.Version.cmp.Goals as goal

pub returns-then-is_ne : goal.returns-then-is_ne
returns-then-is_ne c =
    public-decides c.args.self.now c.args.other.now c.cmp-publics.result
    (c.cmp-publics.ensures ∙ (λ i. version_cmp (c.of.ensures i) (c.of-2.ensures i))) (sym c.if-is_ne.ensures)

pub returns : goal.returns
returns c =
    let mine : c.as_slice.result.now ≡ c.args.self.now.local =
    c.as_slice.ensures.value ∙ ap (λ (f : Fields). f.local) c.self.view_is in
    let theirs : c.as_slice-2.result.now ≡ c.args.other.now.local =
    c.as_slice-2.ensures.value ∙ ap (λ (f : Fields). f.local) c.other.view_is in
    c.cmp_locals.ensures ∙ ((λ i. local_cmp (mine i) (theirs i))
    ∙ local-decides c.args.self.now c.args.other.now c.cmp-publics.result
    (c.cmp-publics.ensures ∙ (λ i. version_cmp (c.of.ensures i) (c.of-2.ensures i))) (sym c.if-is_ne.ensures))
