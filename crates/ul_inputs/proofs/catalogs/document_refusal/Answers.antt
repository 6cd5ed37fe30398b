use Rattle.std.proofs.Common.{subst}
use Rattle.ul_inputs.specs.Refusals.{IsRefusalFor}
use Rattle.ul_inputs.proofs.catalogs.document_refusal.Goals as goal

pub returns : goal.returns
returns c = subst (λ w. IsRefusalFor w c.file_refusal.result) (c.file_fault.ensures c.args.path.now) c.file_refusal.ensures
