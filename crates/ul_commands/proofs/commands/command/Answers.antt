use Rattle.std.proofs.Common.{◌≡◌, [], sym, subst}
use Rattle.ul_answers.specs.Views.{view as answer_view}
use Rattle.ul_inputs.specs.Refusals.{Answers}
use Rattle.ul_commands.specs.Commands.{command}
use Rattle.ul_commands.specs.Views.{IsByWords, view}
use Rattle.ul_commands.proofs.commands.command.Goals as goal

pub returns-in-Lock-clause-told : goal.returns-in-Lock-clause-told
returns-in-Lock-clause-told g c m a = subst (λ q. Answers answer_view c.resolved_files.result (command (view q) m)) (sym c.in-Lock.is) (c.resolved_files.ensures.told m a)

pub returns-in-Why-clause-told : goal.returns-in-Why-clause-told
returns-in-Why-clause-told g c m a = subst (λ q. Answers answer_view c.resolved_files-in-Why.result (command (view q) m)) (sym c.in-Why.is) (c.resolved_files-in-Why.ensures.told m a)

pub returns-in-Relock-clause-told : goal.returns-in-Relock-clause-told
returns-in-Relock-clause-told g c m a = subst (λ q. Answers answer_view c.relock_files.result (command (view q) m)) (sym c.in-Relock.is) (c.relock_files.ensures.told m a)

pub returns-in-Env-clause-told : goal.returns-in-Env-clause-told
returns-in-Env-clause-told g c m a = subst (λ q. Answers answer_view c.env_files.result (command (view q) m)) (sym c.in-Env.is) (c.env_files.ensures.told m a)

pub returns-in-Check-clause-told : goal.returns-in-Check-clause-told
returns-in-Check-clause-told g c m a = subst (λ q. Answers answer_view c.check_files.result (command (view q) m)) (sym c.in-Check.is) (c.check_files.ensures.told m a)

pub returns-in-Gen-clause-told : goal.returns-in-Gen-clause-told
returns-in-Gen-clause-told g c m a = subst (λ q. Answers answer_view c.gen_files.result (command (view q) m)) (sym c.in-Gen.is) (c.gen_files.ensures.told m)

pub returns-in-Gen-clause-by_words : goal.returns-in-Gen-clause-by_words
returns-in-Gen-clause-by_words g c = subst (λ q. IsByWords q c.gen_files.result) (sym c.in-Gen.is) (c.gen_files.ensures.answering, (c.gen_files.ensures.sure, c.gen_files.ensures.told []))

pub returns-in-Export-clause-told : goal.returns-in-Export-clause-told
returns-in-Export-clause-told g c m a = subst (λ q. Answers answer_view c.export_files.result (command (view q) m)) (sym c.in-Export.is) (c.export_files.ensures.told m a)

pub returns-in-Verify-clause-told : goal.returns-in-Verify-clause-told
returns-in-Verify-clause-told g c m a = subst (λ q. Answers answer_view c.verify_files.result (command (view q) m)) (sym c.in-Verify.is) (c.verify_files.ensures.told m a)

pub returns-in-Marker-clause-told : goal.returns-in-Marker-clause-told
returns-in-Marker-clause-told g c m a = subst (λ q. Answers answer_view c.marker_files.result (command (view q) m)) (sym c.in-Marker.is) (c.marker_files.ensures.told m a)
