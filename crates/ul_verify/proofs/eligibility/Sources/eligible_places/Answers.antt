use Rattle.std.proofs.Common.{sym, ◌∙◌}
use Rattle.ul_verify.proofs.EligibleFacts.{not_direct}
use Rattle.ul_verify.proofs.ListFacts.{nil_by}
use Rattle.ul_verify.proofs.eligibility.Sources.eligible_places.Goals as goal

pub eligible_indirect-requires : goal.eligible_indirect-requires
eligible_indirect-requires c = not_direct c.args.self.now c.args.name.now c.run.result.now c.requires c.run.ensures (nil_by c.run.result.now (sym c.is_empty.ensures ∙ c.if-is_empty.true))
