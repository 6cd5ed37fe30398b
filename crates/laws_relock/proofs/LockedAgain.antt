-- `lock` gives a lock of one fork again, where it is the old lock.
use Rattle.std.proofs.Common.{[], None, Ok, refl, subst, inl, inr}
use Rattle.ul_inputs.specs.Locks.{kept_of}
use Rattle.ul_inputs.specs.Resolutions.{IsResolution, ResolutionFields, resolution_in, resolution_of}
use Rattle.ul_answers.specs.Answer.{locked}
use Rattle.ul_commands.specs.Locking.{IsLockAnswer}
use Rattle.laws_commands.proofs.ForCallers.{read_of}
use Rattle.laws_frames.specs.Frames.{InputsByWhatIsRead}
use Rattle.laws_relock.specs.Again.{OneForkStays}
use Rattle.laws_relock.specs.LockedAgain.{LocksAreLockedAgain}
use Rattle.ul_commands.specs.Relocking.{unkept}
use Rattle.laws_relock.proofs.Settled.{SettledLaws, answered_settled, given_anew, lock_read, made_with, settled_moves}

pub locks_are_locked_again : InputsByWhatIsRead → SettledLaws → OneForkStays → LocksAreLockedAgain
locks_are_locked_again inputs laws stays project folder path old before now l forks agree levels (inl h) alone at few = absurd h
locks_are_locked_again inputs laws stays project folder path old before now l forks agree levels (inr h) alone at few =
    let r = h.value in
    let had = read_of project folder old before r h.gave in
    let p = had.fields in
    let c = had.catalog in
    let anew = subst (λ (s : ResolutionFields). (resolution_in project folder None before).gives (Ok (unkept s))) had.is
    (given_anew project folder old before r h.gave) in
    let moved = ((inputs.resolution project folder None before now agree).gives (Ok (resolution_of p [] c))).0 anew in
    let again : IsLockAnswer (resolution_of p (kept_of l) c) (Ok (locked l forks)) =
    stays p had.kept c l forks (subst IsResolution had.is (laws.printed.resolution project folder old before r h.gave))
    (levels (resolution_of p [] c) anew)
    (subst (λ (s : ResolutionFields). IsLockAnswer s (Ok (locked l forks))) had.is h.answers) alone in
    let settled = answered_settled laws project folder old before r l forks h.gave h.answers few in
    let there = settled_moves inputs project folder before now l agree settled in
    let read = read_of project folder None now (resolution_of p [] c) moved in
    inr (record {
      value = resolution_of read.fields (kept_of l) read.catalog;
      gave = inr (record {
        value = read.fields;
        gave = read.said;
        answers = inr (record {
          value = kept_of l;
          gave = inr (record {
            value = l;
            gave = lock_read laws.printed.texts project folder path now l there at;
            answers = refl;
          });
          answers = made_with folder read.fields (kept_of l) read.catalog now read.made;
        });
      });
      answers = subst (λ (s : ResolutionFields). IsLockAnswer (resolution_of s.project (kept_of l) s.catalog) (Ok (locked l forks)))
          read.is again;
    })
