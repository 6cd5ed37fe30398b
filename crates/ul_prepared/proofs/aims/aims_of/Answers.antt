use Rattle.std.proofs.Common.{List, ap, ◌∙◌, sym, subst}
use Rattle.std.specs.Prelude.{All, IfOk}
use Rattle.ul_base.specs.declared.node.Node.{Node}
use Rattle.ul_specifier.specs.Clauses.{ClauseFields}
use Rattle.ul_requirement.specs.Fields.{RequirementFields}
use Rattle.ul_requirement.specs.Truth.{targets}
use Rattle.ul_region.specs.Best.{needs_of}
use Rattle.ul_prepared.specs.Aims.{needs_on}
use Rattle.ul_prepared.specs.Places.{IsAmong}
use Rattle.ul_prepared.specs.Prepared.{AreAims}
use Rattle.ul_prepared.proofs.Loops.{if_handed}
use Rattle.ul_prepared.proofs.aims.aims_of.Goals as goal

pub aims_at-aims-requires-clause-targets : goal.aims_at-aims-requires-clause-targets
aims_at-aims-requires-clause-targets c = subst (All (IsAmong c.args.nodes.now)) (sym (c.as_slice.ensures.value ∙ c.in_ok-targets.ensures)) c.requires.targets

pub returns-clause-aims : goal.returns-clause-aims
returns-clause-aims c =
    let names = c.args.names.now in
    let nodes = c.args.nodes.now in
    let q = c.args.requirement.now in
    let made = c.aims_at-aims.result in
    let told = subst (λ (ns : List Node). IfOk made (λ row. AreAims names nodes row (needs_on c.requirement.inside.specifiers ns))) (c.as_slice.ensures.value ∙ c.in_ok-targets.ensures) c.aims_at-aims.ensures.aims in
    if_handed made c.made_from.result (λ row. AreAims names nodes row (needs_of q)) c.made_from.ensures
    (subst (λ (s : List ClauseFields). IfOk made (λ row. AreAims names nodes row (needs_on s (targets q)))) (ap (λ (r : RequirementFields). r.specifiers) c.requirement.view_is) told)
