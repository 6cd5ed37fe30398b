use Rattle.std.proofs.Common.{Ok, refl}
use Rattle.ul_inputs.specs.Catalogs.{catalog_in}
use Rattle.ul_inputs.specs.Inputs.{just}
use Rattle.ul_inputs.specs.Resolutions.{resolution_of, view}
use Rattle.ul_inputs.proofs.ForCallers.{goes_on, refuses}
use Rattle.ul_inputs.proofs.resolutions.resolution_with.Goals as goal

pub returns-in-Ok-clause-told : goal.returns-in-Ok-clause-told
returns-in-Ok-clause-told g c m a =
    goes_on view (Ok (record { project = c.args.project; catalog = c.in-Ok.catalog; wish = c.wish_of-wish.result })) c.in-Ok.catalog
    (catalog_in c.args.folder.now c.args.project m) (λ x. just (Ok (resolution_of c.args.project c.args.kept.items x)) m)
    (c.in-Ok.ensures.told m a) (rw c.wish_of-wish.ensures refl)

pub returns-in-Err-clause-told : goal.returns-in-Err-clause-told
returns-in-Err-clause-told g c m a =
    refuses (λ x. x) view c.in-Err.refusal (catalog_in c.args.folder.now c.args.project m)
    (λ x. just (Ok (resolution_of c.args.project c.args.kept.items x)) m) (c.in-Err.ensures.told m a)
