use Rattle.std.proofs.Common.{◌∙◌, ap}
use Rattle.std.proofs.lemmas.Result.{IfOk-weaker}
use Rattle.ul_index.specs.Usable.{is_among, is_new, versions_with}
use Rattle.ul_index.proofs.documents.is_new.Goals as goal

pub returns : goal.returns
returns c =
    let same = ap (λ e. e.version) c.entry.view_is in
    IfOk-weaker c.is_new_version.result _ _
    (λ new tells earlier h.
    let t = tells earlier h in
    (t.0 ∙ ap (is_new earlier) same, λ v. t.1 v ∙ ap (λ o. is_among (versions_with earlier o) v) same))
    c.is_new_version.ensures
