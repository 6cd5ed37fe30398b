use Rattle.std.proofs.Common.{◌≡◌, ap, length, map, not, true, sym, ◌∙◌}
use Rattle.std.proofs.lemmas.List.{length-map, length-replicate}
use Rattle.std.proofs.lemmas.Result.{IfOk-weaker}
use Rattle.ul_base.proofs.ForCallers.{made_holds}
use Rattle.ul_ranges.specs.Flags.{less}
use Rattle.ul_prepared.specs.Clauses.{IsMadeWith, equals_by}
use Rattle.ul_prepared.proofs.ClauseSets.{combined, others_are}
use Rattle.ul_prepared.proofs.clauses.unequal_set.Goals as goal

pub combined_set-requires : goal.combined_set-requires
combined_set-requires c =
    let equals = equals_by c.args.part c.args.version.now in
    IfOk-weaker c.equal_set-others.result (λ s. s ≡ map equals c.args.versions.now) (λ s. length c.in_ok-set.set ≡ length s)
    (λ s e. ap length c.in_ok-set.ensures ∙ length-replicate (length c.args.versions.now) true ∙ sym (ap length e ∙ length-map c.args.versions.now equals)) c.equal_set-others.ensures

pub returns : goal.returns
returns c =
    let equals = equals_by c.args.part c.args.version.now in
    IfOk-weaker c.combined_set.result (IsMadeWith less c.in_ok-set.set c.equal_set-others.result) (λ s. s ≡ map (λ x. not (equals x)) c.args.versions.now)
    (λ s h. combined less _ _ _ _ _ h.2 c.in_ok-set.ensures (made_holds c.equal_set-others.result h.0 (λ z. z ≡ map equals c.args.versions.now) h.1 c.equal_set-others.ensures) ∙ others_are equals c.args.versions.now) c.combined_set.ensures
