use Rattle.laws_existence.proofs.Answers.{answers_exist as law}
use Rattle.laws_existence.proofs.Forks.{ForkLaws}
use Rattle.laws_existence.proofs.laws.answers_exist.Goals as goal

pub returns : goal.returns
returns c =
    let forks : ForkLaws = record {
      answers = c.fork_answer_exists.ensures;
      problems = c.problem_exists.ensures;
      unserved = c.refused_are_unserved.ensures.forks;
      nothing = c.nothing_serves.ensures;
    } in
    law (record {
      given = record {
        inputs = c.inputs_are_given.ensures;
        ends = c.loading_ends.ensures;
        resolution = c.given_is_resolution.ensures.resolution;
        texts = c.given_has_texts.ensures;
        askable = c.given_is_askable.ensures;
      };
      locks = record {
        forks = forks;
        merge = c.forks_merge.ensures;
        locks = c.lock_exists.ensures;
        cores = c.core_laws.ensures.exists;
      };
      reasons = record { forks = forks; derivations = c.derivation_exists.ensures };
      walks = record { few = c.few_extras.ensures; picks = c.picks_exist.ensures; rows = c.rows_exist.ensures };
      checks = record {
        problems = c.problem_exists.ensures;
        steps = c.steps_are_judged.ensures;
        verdicts = c.verdict_exists.ensures;
        no_extra = c.no_extra.ensures;
      };
      trees = c.truth_trees.ensures;
    })
