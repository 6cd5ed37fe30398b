use Rattle.std.proofs.Common.{◌≡◌, ap, map, subst, sym, ◌∙◌}
use Rattle.std.specs.Prelude.{All}
use Rattle.std.proofs.lemmas.Result.{IfOk-weaker}
use Rattle.ul_prepared.specs.Lists.{AreListed, lists_in, releases_in}
use Rattle.ul_prepared.specs.Shared.{IsShared, lists_shared, releases_shared}
use Rattle.ul_prepared.proofs.Loops.{if_handed}
use Rattle.ul_prepared.proofs.shared.shared_names.Goals as goal

pub shared_with-shared-requires-clause-listed : goal.shared_with-shared-requires-clause-listed
shared_with-shared-requires-clause-listed g c = subst (λ z. All AreListed z.items) (sym c.in_ok-names.ensures.0) c.requires.listed

pub returns-clause-shared : goal.returns-clause-shared
returns-clause-shared g c =
    if_handed c.shared_with-shared.result c.made_from.result (λ v. All (IsShared c.shared_with-shared.new.algebra c.shared_with-shared.new.truths.marks.items) v.items) c.made_from.ensures c.shared_with-shared.ensures.shared

pub returns-clause-releases : goal.returns-clause-releases
returns-clause-releases g c =
    if_handed c.shared_with-shared.result c.made_from.result (λ v. map releases_shared v.items ≡ map releases_in c.args.names.items) c.made_from.ensures
    (IfOk-weaker c.shared_with-shared.result (λ v. map releases_shared v.items ≡ map releases_in c.in_ok-names.names.items) (λ v. map releases_shared v.items ≡ map releases_in c.args.names.items)
    (λ v e. e ∙ ap (λ z. map releases_in z.items) c.in_ok-names.ensures.0) c.shared_with-shared.ensures.releases)

pub returns-clause-lists : goal.returns-clause-lists
returns-clause-lists g c =
    if_handed c.shared_with-shared.result c.made_from.result (λ v. map lists_shared v.items ≡ map lists_in c.args.names.items) c.made_from.ensures
    (IfOk-weaker c.shared_with-shared.result (λ v. map lists_shared v.items ≡ map lists_in c.in_ok-names.names.items) (λ v. map lists_shared v.items ≡ map lists_in c.args.names.items)
    (λ v e. e ∙ ap (λ z. map lists_in z.items) c.in_ok-names.ensures.0) c.shared_with-shared.ensures.lists)
