use Rattle.std.proofs.Common.{◌≡◌, ap, length, sym, ◌∙◌}
use Rattle.std.proofs.lemmas.Result.{IfOk-weaker}
use Rattle.ul_base.proofs.ForCallers.{made_holds}
use Rattle.ul_ranges.specs.Flags.{front, less}
use Rattle.ul_ranges.proofs.ForCallers.{length-front}
use Rattle.ul_prepared.specs.Clauses.{IsMadeWith}
use Rattle.ul_prepared.proofs.ClauseSets.{combined}
use Rattle.ul_prepared.proofs.clauses.between.Goals as goal

pub combined_set-requires : goal.combined_set-requires
combined_set-requires c =
    IfOk-weaker c.front-2.result (λ s. s ≡ front c.args.size c.args.low) (λ s. length c.in_ok-set.set ≡ length s)
    (λ s e. ap length c.in_ok-set.ensures ∙ length-front c.args.size c.args.high ∙ sym (ap length e ∙ length-front c.args.size c.args.low)) c.front-2.ensures

pub returns : goal.returns
returns c =
    IfOk-weaker c.combined_set.result (IsMadeWith less c.in_ok-set.set c.front-2.result) (λ s. s ≡ less (front c.args.size c.args.high) (front c.args.size c.args.low))
    (λ s h. combined less _ _ _ _ _ h.2 c.in_ok-set.ensures (made_holds c.front-2.result h.0 (λ z. z ≡ front c.args.size c.args.low) h.1 c.front-2.ensures)) c.combined_set.ensures
