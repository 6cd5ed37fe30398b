-- A fork that is printed in place of a lock is served by nothing.
use Rattle.std.proofs.Common.{◌≡◌, ℕ, List, Bool, true, false, Ok, sym, subst}
use Rattle.ul_nodes.specs.Plain.{Plain}
use Rattle.ul_tree.specs.Paths.{is_printable}
use Rattle.ul_generations.specs.Generations.{leaves_are, refused_at, too_many}
use Rattle.ul_forks.specs.Headline.{TreeAnswer, TreeRefusal}
use Rattle.ul_inputs.specs.Resolutions.{IsResolution, ResolutionFields}
use Rattle.laws_given.specs.Given.{GivenIsResolution}
use Rattle.ul_answers.specs.Answer.{derived, no_selection}
use Rattle.ul_commands.specs.Laws.{ForksAreUnserved, IsUnserved, RefusedAreUnserved}
use Rattle.ul_commands.specs.Questions.{IsForked}
use Rattle.ul_commands.specs.Reasons.{DerivedWhere, GivesReason}
use Rattle.laws_commands.specs.Complete.{InputsAreAnswered}
use Rattle.laws_commands.specs.Refusals.{ReasonsOfFiles, RefusalsOfFiles}
use Rattle.laws_commands.proofs.Reasons.{same_region}

pub refusals_of_files : InputsAreAnswered → GivenIsResolution → RefusedAreUnserved → RefusalsOfFiles
refusals_of_files inputs given unserved project folder old workers m r path region core gave answers =
    unserved r path region core (given project folder old m r gave)
    (inputs.lock project folder workers old m r (Ok (no_selection path region core)) gave answers)

-- the region that is told is the fork's
told_region : (told : Bool) (r : ResolutionFields) (fork : TreeRefusal) (path : List Bool) (region : Plain) (steps : List ℕ)
    → DerivedWhere told r fork (Ok (derived path region steps)) → region ≡ fork.region
told_region true r fork path region steps h = same_region path fork.path region fork.region steps h.lines h.is
told_region false r fork path region steps h = absurd (cc)

by_forks : ForksAreUnserved → (r : ResolutionFields) (path : List Bool) (region : Plain) (steps : List ℕ) → IsResolution r
    → (f : TreeAnswer) → IsForked r f → GivesReason r f (Ok (derived path region steps)) → IsUnserved r region
by_forks unserved r path region steps is (leaves_are ls) forked h = absurd (cc)
by_forks unserved r path region steps is (refused_at fork) forked h =
    subst (IsUnserved r) (sym (told_region (is_printable fork.region) r fork path region steps h)) (unserved r fork is forked)
by_forks unserved r path region steps is (too_many n) forked h = absurd (cc)

pub reasons_of_files : InputsAreAnswered → GivenIsResolution → ForksAreUnserved → ReasonsOfFiles
reasons_of_files inputs given unserved project folder old workers m r path region steps gave answers =
    let why = inputs.why project folder workers old m r (Ok (derived path region steps)) gave answers in
    by_forks unserved r path region steps (given project folder old m r gave) why.forked why.are_forks why.gives
