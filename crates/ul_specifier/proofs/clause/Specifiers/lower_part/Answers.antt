use Rattle.std.proofs.Common.{◌≡◌, sym, ◌∙◌, ap, subst, List, refl}
use Rattle.std.specs.Prelude.{All}
use Rattle.ul_specifier.specs.Clauses.{ClauseFields, IsClause}
use Rattle.ul_specifier.specs.Meaning.{lower_clause, lower_list}
use Rattle.ul_specifier.proofs.Lists.{filter-some, filter-none, filter-whole}
use Rattle.ul_specifier.proofs.LowerBounds.{lower_list-clauses}
use Rattle.ul_specifier.proofs.LawProofs.{weaker}
use Rattle.ul_specifier.specs.Laws.{IsWeaker}
use Rattle.ul_specifier.proofs.clause.Specifiers.lower_part.Goals as goal
use Rattle.ul_specifier.proofs.clause.Specifiers.lower_part.Goals.{in-Some+in_ok-push, in_default}

pub loop-clause-preserved : goal.loop-clause-preserved
loop-clause-preserved c =
    let xs = c.deref-clause-items.result.now in
    let i = c.loop-clause.clause-index in
    elim c.match-branch-2.branch [
      | in-Some+in_ok-push w ↦
          filter-some lower_clause xs c.loop-clause.clauses.items c.match-branch-2.clauses.items i c.clause-item.result w.in-Some.bound c.loop-clause-test.true c.clause-item.is
          c.loop-clause.invariant (sym c.in_ok-bound.ensures ∙ w.in-Some.is) (rw w.clauses-is w.in_ok-push.ensures.items)
      | in_default w ↦
          filter-none lower_clause xs c.loop-clause.clauses.items c.match-branch-2.clauses.items i c.clause-item.result c.loop-clause-test.true c.clause-item.is
          c.loop-clause.invariant (sym c.in_ok-bound.ensures ∙ w.in_default.is) (rw w.clauses-is refl)
    ]

pub invariant_of-result : goal.invariant_of-result
invariant_of-result c =
    let xs = c.deref-clause-items.result.now in
    let same : c.loop-clause.clauses.items ≡ lower_list xs = filter-whole lower_clause xs c.loop-clause.clauses.items c.loop-clause.clause-index c.loop-clause-test.false c.loop-clause.invariant in
    let P : List ClauseFields → Type 0 = λ l. All IsClause l in
    subst P (sym (same ∙ ap (λ (l : List ClauseFields). lower_list l) c.deref-clause-items.ensures.value)) (lower_list-clauses c.self.inside.clauses.items c.self.invariant)

pub returns-clause-valid : goal.returns-clause-valid
returns-clause-valid c = invariant_of-result c

pub returns-clause-weaker : goal.returns-clause-weaker
returns-clause-weaker c =
    let xs = c.deref-clause-items.result.now in
    let same : c.loop-clause.clauses.items ≡ lower_list xs = filter-whole lower_clause xs c.loop-clause.clauses.items c.loop-clause.clause-index c.loop-clause-test.false c.loop-clause.invariant in
    let P : List ClauseFields → Type 0 = λ l. IsWeaker c.self.inside.clauses.items l in
    rw (← c.self.view_is) (subst P (sym (same ∙ ap (λ (l : List ClauseFields). lower_list l) c.deref-clause-items.ensures.value)) (weaker c.self.inside.clauses.items c.self.invariant))
