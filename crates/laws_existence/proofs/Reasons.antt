-- What `why` answers to what files give.
use Rattle.std.proofs.Common.{Bool, true, false, Result, Ok, Err, refl}
use Rattle.ul_tree.specs.Paths.{is_printable}
use Rattle.ul_generations.specs.Generations.{leaves_are, refused_at, too_many}
use Rattle.ul_forks.specs.Headline.{TreeAnswer, TreeRefusal}
use Rattle.ul_report.specs.Naming.{named_steps}
use Rattle.ul_report.specs.Texts.{steps_text}
use Rattle.ul_inputs.specs.Refused.{Refused}
use Rattle.ul_inputs.specs.Resolutions.{ResolutionFields}
use Rattle.ul_answers.specs.Answer.{Answer, derived, none_refused, untold}
use Rattle.ul_commands.specs.Questions.{IsForked, too_many_forks}
use Rattle.ul_commands.specs.Reasons.{DerivedWhere, GivesReason, IsWhyAnswer}
use Rattle.laws_refutations.specs.Exists.{DerivationExists}
use Rattle.laws_existence.proofs.Forks.{ForkLaws, HasUnserved, IsKnown, forked_given, refused_problem}

-- what reasons rest on: fork answers, and a problem that nothing serves has a derivation
pub record ReasonLaws : Type 0 where
  pub forks : ForkLaws
  pub derivations : DerivationExists

derived_where : DerivationExists → (r : ResolutionFields) (fork : TreeRefusal) → HasUnserved r fork.region → (b : Bool)
    → (a : Result Answer Refused) × DerivedWhere b r fork a
derived_where derivations r fork had true =
    let steps = derivations had.problem had.of_region.well_formed had.none in
    let lines = steps_text (named_steps had.problem steps.0) in (
      Ok (derived fork.path fork.region lines),
      record {
        lines = lines;
        steps = record {
          problem = had.problem;
          of_region = had.of_region;
          steps = steps.0;
          accepted = steps.1;
          are = refl;
        };
        is = refl;
      },
    )
derived_where derivations r fork had false = (Ok untold, refl)

reason_for : ReasonLaws → (r : ResolutionFields) → IsKnown r → (f : TreeAnswer) → IsForked r f
    → (a : Result Answer Refused) × GivesReason r f a
reason_for laws r known (leaves_are leaves) forked = (Ok none_refused, refl)
reason_for laws r known (refused_at fork) forked =
    derived_where laws.derivations r fork (refused_problem laws.forks r fork known forked) (is_printable fork.region)
reason_for laws r known (too_many count) forked = (Err too_many_forks, refl)

-- `why` answers
pub why_answered : ReasonLaws → (r : ResolutionFields) → IsKnown r → (a : Result Answer Refused) × IsWhyAnswer r a
why_answered laws r known =
    let forked = forked_given laws.forks r known in
    let found = reason_for laws r known forked.0 forked.1 in
    (found.0, record { forked = forked.0; are_forks = forked.1; gives = found.1 })
