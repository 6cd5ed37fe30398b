use Rattle.std.proofs.Common.{arith, refl, sym, ◌∙◌}
use Rattle.std.proofs.lemmas.Grind.{common_steps}
use Rattle.ul_report_judge.specs.Names.{term_of_names, terms_of_names}
use Rattle.ul_report_judge.proofs.Looked.{next_made, none_made}
use Rattle.ul_report_judge.proofs.naming.terms.Goals as goal

pub loop-text-preserved : goal.loop-text-preserved
loop-text-preserved c =
    rw c.in_ok-push-in-Some.ensures.items (next_made (term_of_names c.args.problem.now) (terms_of_names c.args.problem.now) (λ x xs. refl) c.loop-text.terms.items c.args.texts.now c.loop-text.text-index c.text-item.result c.in-Some.term
    (grind (arith, common_steps)) c.text-item.is (sym c.in_ok-term.ensures ∙ c.in-Some.is) c.loop-text.invariant)

pub returns-in-None : goal.returns-in-None
returns-in-None c =
    none_made (term_of_names c.args.problem.now) (terms_of_names c.args.problem.now) (λ x xs. refl) c.loop-text.terms.items c.args.texts.now c.loop-text.text-index c.text-item.result
    (grind (arith, common_steps)) c.text-item.is (sym c.in_ok-term.ensures ∙ c.in-None.is) c.loop-text.invariant
