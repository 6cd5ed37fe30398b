use Rattle.std.proofs.Common.{arith}
use Rattle.ul_index.proofs.ForCallers.{document_facts}
use Rattle.ul_load.proofs.DocumentSteps.{document_read}
use Rattle.ul_load.proofs.documents.package_of.Goals as goal

pub returns-clause-next : goal.returns-clause-next
returns-clause-next c =
    let is = document_facts _ _ _ (document_read _ _ _ c.in_ok-package-2.ensures.told) in
    record { named = is.named; fits = omega arith; few = is.few }
