use Rattle.std.proofs.Common.{◌≡◌, Bool, IfOk, ap, map, subst, sym, ◌∙◌}
use Rattle.ul_version.specs.Fields.{Fields}
use Rattle.ul_specifier.specs.Clauses.{ClauseFields, IsClause}
use Rattle.ul_prepared.proofs.Admitted.{compatible_meets, distinct_meets, equal_meets, from_meets, unequal_meets, up_to_meets}
use Rattle.ul_prepared.proofs.clauses.clause_set.Goals as goal

pub returns-in-Equal : goal.returns-in-Equal
returns-in-Equal c =
    let version = ap (λ (s : ClauseFields). s.version) c.clause.view_is in
    let own = ap (λ (s : ClauseFields). s.op) c.clause.view_is in
    subst (λ (p : Fields → Bool). IfOk c.equal_set.result (λ s. s ≡ map p c.args.versions.now))
    (equal_meets c.args.clause.now _ _ c.equality_part.ensures version (sym own ∙ c.in-Equal.is)) c.equal_set.ensures

pub returns-in-Unequal : goal.returns-in-Unequal
returns-in-Unequal c =
    let version = ap (λ (s : ClauseFields). s.version) c.clause.view_is in
    let own = ap (λ (s : ClauseFields). s.op) c.clause.view_is in
    subst (λ (p : Fields → Bool). IfOk c.unequal_set.result (λ s. s ≡ map p c.args.versions.now))
    (unequal_meets c.args.clause.now _ _ c.equality_part-in-Unequal.ensures version (sym own ∙ c.in-Unequal.is)) c.unequal_set.ensures

pub returns-in-AtLeast : goal.returns-in-AtLeast
returns-in-AtLeast c =
    let version = ap (λ (s : ClauseFields). s.version) c.clause.view_is in
    let own = ap (λ (s : ClauseFields). s.op) c.clause.view_is in
    subst (λ (p : Fields → Bool). IfOk c.set_from.result (λ s. s ≡ map p c.args.versions.now))
    (from_meets c.args.clause.now _ (subst IsClause c.clause.view_is c.clause.invariant) version (sym own ∙ c.in-AtLeast.is)) c.set_from.ensures

pub returns-in-AtMost : goal.returns-in-AtMost
returns-in-AtMost c =
    let version = ap (λ (s : ClauseFields). s.version) c.clause.view_is in
    let own = ap (λ (s : ClauseFields). s.op) c.clause.view_is in
    subst (λ (p : Fields → Bool). IfOk c.set_up_to.result (λ s. s ≡ map p c.args.versions.now))
    (up_to_meets c.args.clause.now _ (subst IsClause c.clause.view_is c.clause.invariant) version (sym own ∙ c.in-AtMost.is)) c.set_up_to.ensures

pub returns-in-Compatible : goal.returns-in-Compatible
returns-in-Compatible c =
    let version = ap (λ (s : ClauseFields). s.version) c.clause.view_is in
    let own = ap (λ (s : ClauseFields). s.op) c.clause.view_is in
    subst (λ (p : Fields → Bool). IfOk c.compatible_set.result (λ s. s ≡ map p c.args.versions.now))
    (compatible_meets c.args.clause.now _ (subst IsClause c.clause.view_is c.clause.invariant) version (sym own ∙ c.in-Compatible.is)) c.compatible_set.ensures

pub returns-in-Distinct : goal.returns-in-Distinct
returns-in-Distinct c =
    let version = ap (λ (s : ClauseFields). s.version) c.clause.view_is in
    let own = ap (λ (s : ClauseFields). s.op) c.clause.view_is in
    subst (λ (p : Fields → Bool). IfOk c.unequal_set-in-Distinct.result (λ s. s ≡ map p c.args.versions.now))
    (distinct_meets c.args.clause.now _ version (sym own ∙ c.in-Distinct.is)) c.unequal_set-in-Distinct.ensures
