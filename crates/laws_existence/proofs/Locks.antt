-- What `lock` answers to what files give.
use Rattle.std.proofs.Common.{Bool, true, false, Result, Ok, Err, length, map, refl}
use Rattle.ul_tree.specs.Paths.{is_printable}
use Rattle.ul_blame.specs.Laws.{CoreExists}
use Rattle.ul_blame.specs.Texts.{core_text}
use Rattle.ul_generations.specs.Generations.{leaves_are, refused_at, too_many}
use Rattle.ul_forks.specs.Headline.{TreeAnswer, TreeRefusal}
use Rattle.ul_inputs.specs.Refused.{Refused}
use Rattle.ul_inputs.specs.Resolutions.{ResolutionFields}
use Rattle.ul_answers.specs.Answer.{Answer, no_selection, untold}
use Rattle.ul_commands.specs.Locking.{IsLockAnswer, LocksFor, RefusedWhere, answer_of, leaf_fields}
use Rattle.ul_commands.specs.Questions.{IsForked, too_many_forks}
use Rattle.laws_commands.specs.WellFormed.{ForksMerge}
use Rattle.laws_locks.specs.Exists.{LockExists}
use Rattle.laws_existence.proofs.Forks.{ForkLaws, HasUnserved, IsKnown, forked_given, refused_problem}

-- what locks rest on: fork answers; their leaves can be merged, and leaves that can be have a lock; and a problem that
-- nothing serves has a core
pub record LockLaws : Type 0 where
  pub forks : ForkLaws
  pub merge : ForksMerge
  pub locks : LockExists
  pub cores : CoreExists

refused_where : CoreExists → (r : ResolutionFields) (fork : TreeRefusal) → HasUnserved r fork.region → (b : Bool)
    → (a : Result Answer Refused) × RefusedWhere b r fork a
refused_where cores r fork had true =
    let core = cores had.problem had.none in
    let lines = core_text had.problem core.0 in (
      Ok (no_selection fork.path fork.region lines),
      record {
        lines = lines;
        core = record {
          problem = had.problem;
          of_region = had.of_region;
          text = record { core = core.0; is_core = core.1; are = refl };
        };
        is = refl;
      },
    )
refused_where cores r fork had false = (Ok untold, refl)

locks_for : LockLaws → (r : ResolutionFields) → IsKnown r → (f : TreeAnswer) → IsForked r f
    → (a : Result Answer Refused) × LocksFor r f a
locks_for laws r known (leaves_are leaves) forked =
    let merge = laws.merge r leaves known.resolution known.texts forked in
    let lock =
    laws.locks r.catalog r.project (map leaf_fields leaves) known.asked.packages known.asked.requirements merge in
    (Ok (answer_of lock.0 (length leaves)), record { lock = lock.0; merged = lock.1; is = refl })
locks_for laws r known (refused_at fork) forked =
    refused_where laws.cores r fork (refused_problem laws.forks r fork known forked) (is_printable fork.region)
locks_for laws r known (too_many count) forked = (Err too_many_forks, refl)

-- `lock` answers
pub lock_answered : LockLaws → (r : ResolutionFields) → IsKnown r → (a : Result Answer Refused) × IsLockAnswer r a
lock_answered laws r known =
    let forked = forked_given laws.forks r known in
    let found = locks_for laws r known forked.0 forked.1 in
    (found.0, record { forked = forked.0; are_forks = forked.1; locks = found.1 })
