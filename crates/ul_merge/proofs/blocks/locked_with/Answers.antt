use Rattle.std.proofs.Common.{ap, ◌∙◌}
use Rattle.ul_base.proofs.ForCallers.{made_holds}
use Rattle.ul_merge.proofs.blocks.locked_with.Goals as goal

pub returns-clause-name : goal.returns-clause-name
returns-clause-name c = ap (λ z. z.1) c.in_ok-named.ensures.0 ∙ made_holds c.copy.result c.in_ok-listed.name _ c.in_ok-listed.ensures.1 c.copy.ensures

pub returns-clause-version : goal.returns-clause-version
returns-clause-version c = made_holds c.copy-2.result c.in_ok-named.version _ c.in_ok-named.ensures.1 c.copy-2.ensures

pub returns-clause-files : goal.returns-clause-files
returns-clause-files c =
    ap (λ z. z.0.1) c.in_ok-named.ensures.0 ∙ (ap (λ z. z.1) c.in_ok-listed.ensures.0 ∙ made_holds c.files_of.result c.in_ok-rows.files _ c.in_ok-rows.ensures.1 c.files_of.ensures)

pub returns-clause-edges : goal.returns-clause-edges
returns-clause-edges c = ap (λ z. z.0.0.0) c.in_ok-named.ensures.0 ∙ (ap (λ z. z.0.0) c.in_ok-listed.ensures.0 ∙ ap (λ z. z.0) c.in_ok-rows.ensures.0)

pub returns-clause-extras : goal.returns-clause-extras
returns-clause-extras c = ap (λ z. z.0.0.1) c.in_ok-named.ensures.0 ∙ (ap (λ z. z.0.1) c.in_ok-listed.ensures.0 ∙ ap (λ z. z.1) c.in_ok-rows.ensures.0)
