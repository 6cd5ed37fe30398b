use Rattle.ul_conflict.specs.declared.analysis.Resolvent.{Resolvent}
use Rattle.std.proofs.Common.{add-one, inl, inr, List, length, length-append, ◌++◌, ◌∷◌, [], ◌+◌, ◌≡◌, ap, subst, sym, ◌∙◌, arith}
use Rattle.std.proofs.lemmas.Option.{same_Some}
use Rattle.ul_problem.specs.Steps.{IsResolvent}
use Rattle.ul_problem.specs.declared.term.Term.{Term}
use Rattle.ul_problem.specs.declared.step.Step.{Step}
use Rattle.ul_problem.specs.declared.step.Step.TheVariants.{Cut}
use Rattle.ul_conflict.proofs.analysis.cut.Goals as goal
use Rattle.ul_conflict.proofs.analysis.cut.Goals.{in-Some, in-None+in_ok-copy-in-None+in_ok-push-in-None}

pub resolvent-requires : goal.resolvent-requires
resolvent-requires c = (c.args.problem.now, c.requires.left, c.requires.fits c.terms.result.now c.terms.ensures)

pub place_of-found-requires-clause-fits : goal.place_of-found-requires-clause-fits
place_of-found-requires-clause-fits c = c.in_ok-terms.ensures.fits c.args.problem.now c.requires.left (c.requires.fits c.terms.result.now c.terms.ensures)

pub returns : goal.returns
returns c = record {
  fits = c.in_ok-terms.ensures.fits c.args.problem.now c.requires.left (c.requires.fits c.terms.result.now c.terms.ensures);
  resolvent = λ ts e. subst (λ (z : List Term). IsResolvent c.args.node c.args.resolved.now.terms z c.in_ok-terms.terms) (same_Some c.terms.result.now ts (sym c.terms.ensures ∙ e)) c.in_ok-terms.ensures.value;
  step = elim c.match-found.branch [
    | in-Some w ↦ inl (
      ap (λ (r : Resolvent). r.learned.items) w.resolved-is,
      record { place = w.in-Some.place; is = w.in-Some.ensures.said; numbered = ap (λ (r : Resolvent). r.number) w.resolved-is ∙ add-one w.in-Some.place },
    )
    | in-None+in_ok-copy-in-None+in_ok-push-in-None w ↦ inr (record {
      learned = ap (λ (r : Resolvent). r.learned.items) w.resolved-is
          ∙ (w.in_ok-push-in-None.ensures.items ∙ ap (λ (z : List Term). c.args.resolved.now.learned.items ++ Cut c.args.resolved.now.number (c.args.cause + 1) c.args.node z ∷ []) w.in_ok-copy-in-None.ensures);
      number = (let l = c.count-count.ensures.value in
          let e : length w.push.new.self.items ≡ length c.args.resolved.now.learned.items + 1 = ap (λ (x : List Step). length x) w.in_ok-push-in-None.ensures.items ∙ length-append c.args.resolved.now.learned.items _ in
          let n = ap (λ (r : Resolvent). r.number) w.resolved-is in omega arith);
    })
  ];
}
