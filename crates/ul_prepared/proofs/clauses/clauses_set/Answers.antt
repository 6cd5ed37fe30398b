use Rattle.std.proofs.Common.{◌≡◌, ap, length, map, sym, take, ◌∙◌}
use Rattle.std.proofs.lemmas.List.{length-map}
use Rattle.std.proofs.lemmas.Result.{IfOk-weaker}
use Rattle.ul_base.proofs.ForCallers.{made_holds}
use Rattle.ul_specifier.specs.Meaning.{meets_clause, meets_list}
use Rattle.ul_prepared.proofs.ClauseSets.{clause_more, no_clauses}
use Rattle.ul_prepared.proofs.clauses.clauses_set.Goals as goal

pub loop-clause-init : goal.loop-clause-init
loop-clause-init c = c.in_ok-set.ensures ∙ no_clauses c.args.versions.now

pub combined_set-requires : goal.combined_set-requires
combined_set-requires c =
    let met = meets_list (take c.loop-clause.clause-index c.args.clauses.now) in
    IfOk-weaker c.clause_set-met.result (λ s. s ≡ map (meets_clause c.clause-item.result) c.args.versions.now) (λ s. length c.loop-clause.set ≡ length s)
    (λ s e. ap length c.loop-clause.invariant ∙ length-map c.args.versions.now met ∙ sym (ap length e ∙ length-map c.args.versions.now (meets_clause c.clause-item.result))) c.clause_set-met.ensures

pub loop-clause-preserved : goal.loop-clause-preserved
loop-clause-preserved c =
    let more = c.in_ok-set-2.ensures in
    clause_more c.args.clauses.now c.loop-clause.clause-index c.clause-item.result c.args.versions.now c.loop-clause.set more.0 c.in_ok-set-2.set
    c.loop-clause-test.true c.clause-item.is c.loop-clause.invariant (made_holds c.clause_set-met.result more.0 (λ z. z ≡ map (meets_clause c.clause-item.result) c.args.versions.now) more.1 c.clause_set-met.ensures) more.2
