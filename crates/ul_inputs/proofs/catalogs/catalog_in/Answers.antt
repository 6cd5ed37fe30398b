use Rattle.std.proofs.Common.{ap, Ok}
use Rattle.ul_groups.specs.Adjusted.{catalog_for}
use Rattle.ul_inputs.specs.Catalogs.{documents}
use Rattle.ul_inputs.specs.Inputs.{just}
use Rattle.ul_inputs.proofs.ForCallers.{goes_on}
use Rattle.ul_inputs.proofs.catalogs.catalog_in.Goals as goal

pub returns-clause-told : goal.returns-clause-told
returns-clause-told g c = λ m a.
    goes_on (λ x. x) (Ok c.in_ok-catalog.catalog) c.in_ok-documents.documents (documents c.args.folder.now c.args.project.now m)
    (λ d. just (Ok (catalog_for c.args.project.now d)) m) (c.in_ok-documents.ensures.told m a) (ap Ok c.in_ok-catalog.ensures)
