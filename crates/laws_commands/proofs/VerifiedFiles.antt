-- What `verify` reads and accepts.
use Rattle.std.proofs.Common.{◌≡◌, ℕ, List, [], ◌∷◌, map, Option, None, Ok, refl, ap, subst, inl, inr}
use Rattle.ul_files.specs.Files.{FileMap}
use Rattle.ul_requirement.specs.Fields.{ReleaseFields}
use Rattle.ul_project.specs.Fields.{ProjectFields}
use Rattle.ul_groups.specs.Adjusted.{ByName, adjusted_release, all_on, package_for}
use Rattle.ul_lock_read.specs.TextOf.{IsTextOf}
use Rattle.ul_lock.specs.declared.parts.Lock.{Lock}
use Rattle.ul_lock.specs.WellFormed.{IsWellFormed}
use Rattle.ul_verified.specs.Headline.{HasProject}
use Rattle.ul_verified.specs.Verified.{IsVerified}
use Rattle.ul_inputs.specs.Locks.{lock_at}
use Rattle.ul_inputs.specs.Projects.{project_at}
use Rattle.ul_inputs.specs.Resolutions.{ResolutionFields, resolution_in, resolution_of, resolution_with}
use Rattle.laws_given.specs.Given.{BeginsWithProject}
use Rattle.ul_answers.specs.Answer.{environment, locked, verified}
use Rattle.ul_commands.specs.Asked.{verify}
use Rattle.ul_commands.specs.Commands.{command}
use Rattle.ul_commands.specs.Locking.{IsLockAnswer}
use Rattle.ul_commands.specs.Verifying.{IsVerifyAnswer}
use Rattle.laws_commands.specs.Complete.{InputsAreAnswered}
use Rattle.laws_commands.specs.Verified.{EnvironmentsOfVerified, EnvironmentsOfVerifiedFiles, LocksAreVerified, VerifiedAreSound, VerifiedFilesAreSound}
use Rattle.laws_commands.specs.Printed.{PrintedLaws}
use Rattle.laws_frames.specs.Frames.{InputsByWhatIsRead}
use Rattle.laws_commands.proofs.ReadFiles.{made_itself, made_now, read_of, said_now, text_read}

-- a lock that is read is well formed
pub read_well : (path : List ℕ) (m : FileMap) (l : Lock) → (lock_at path m).gives (Ok l) → IsWellFormed l
read_well path m l (inl h) = absurd h
read_well path m l (inr h) = let is : IsTextOf h.value l = h.answers in is.well_formed

-- what `verify` answers to what the files give
pub verified_answer : InputsAreAnswered → (project folder path : List ℕ) (m : FileMap) (r : ResolutionFields) (l : Lock)
    → (resolution_in project folder None m).gives (Ok r) → (lock_at path m).gives (Ok l)
    → (command (verify project folder path) m).gives (Ok verified) → IsVerifyAnswer r l (Ok verified)
verified_answer inputs project folder path m r l gave read accepts =
    let had = read_of project folder None m r gave in
    let made = made_itself project folder m r had in
    inputs.verify project folder path m had.fields l r (Ok verified) had.said read made accepts

pub verified_files_are_sound : InputsAreAnswered → VerifiedAreSound → VerifiedFilesAreSound
verified_files_are_sound inputs sound project folder path m r l gave read accepts =
    sound r l (read_well path m l read) (verified_answer inputs project folder path m r l gave read accepts)

pub environments_of_verified_files : InputsAreAnswered → EnvironmentsOfVerified → EnvironmentsOfVerifiedFiles
environments_of_verified_files inputs lists project folder path machine words m r l x text comparisons gave read machined accepts all world extras prints =
    lists r l x words text comparisons (read_well path m l read) (verified_answer inputs project folder path m r l gave read accepts) all world extras
    (inputs.env path machine words m l x (Ok (environment text)) read machined prints)

-- ---- what `lock` printed

-- adjusted releases have their versions
versions_stay : (constraints overrides sources : ByName) (rs : List ReleaseFields)
    → map (λ (r : ReleaseFields). r.version) (map (adjusted_release constraints overrides sources) rs)
    ≡ map (λ (r : ReleaseFields). r.version) rs
versions_stay constraints overrides sources [] = refl
versions_stay constraints overrides sources (r ∷ rs) =
    ap (λ vs. r.version ∷ vs) (versions_stay constraints overrides sources rs)

has_project : (r : ResolutionFields) → BeginsWithProject r → HasProject r.catalog r.project
has_project r begun =
    let constraints = all_on r.project.constraints in
    let overrides = all_on r.project.overrides in
    let sources = begun.begins.sources in
    record {
      first = package_for r.project sources r.project.package;
      rest = begun.begins.others;
      is = begun.begins.is;
      named = refl;
      versions = versions_stay constraints overrides (all_on sources) r.project.package.releases;
    }

-- the lock that is answered is verified
pub answered_verified : PrintedLaws → (project folder : List ℕ) (old : Option (List ℕ)) (m : FileMap) (r : ResolutionFields) (l : Lock) (forks : ℕ)
    → (resolution_in project folder old m).gives (Ok r) → IsLockAnswer r (Ok (locked l forks)) → IsVerified r.catalog r.project l
answered_verified laws project folder old m r l forks gave answer =
    let of = laws.leaves r l forks (laws.resolution project folder old m r gave) answer in
    laws.verified.merged r.catalog r.project of.leaves l (has_project r (laws.begins project folder old m r gave)) of.served of.merged

-- and well formed
pub answered_well : PrintedLaws → (project folder : List ℕ) (old : Option (List ℕ)) (m : FileMap) (r : ResolutionFields) (l : Lock) (forks : ℕ)
    → (resolution_in project folder old m).gives (Ok r) → IsLockAnswer r (Ok (locked l forks)) → IsWellFormed l
answered_well laws project folder old m r l forks gave answer =
    laws.formed r l forks (laws.resolution project folder old m r gave) (laws.had project folder old m r gave) answer

-- what `verify` reads and answers, part by part
accepted : (project folder path : List ℕ) (m : FileMap) (p : ProjectFields) (r : ResolutionFields) (l : Lock)
    → (project_at project m).gives (Ok p) → (lock_at path m).gives (Ok l)
    → (resolution_with folder p [] m).gives (Ok r) → IsVerifyAnswer r l (Ok verified)
    → (command (verify project folder path) m).gives (Ok verified)
accepted project folder path m p r l said read made answer = inr (record {
  value = p;
  gave = said;
  answers = inr (record { value = l; gave = read; answers = inr (record { value = r; gave = made; answers = answer }) });
})

pub locks_are_verified : InputsByWhatIsRead → PrintedLaws → LocksAreVerified
locks_are_verified inputs laws project folder path old workers before now l forks (inl h) agree at few = absurd h
locks_are_verified inputs laws project folder path old workers before now l forks (inr h) agree at few =
    let well = answered_well laws project folder old before h.value l forks h.gave h.answers in
    let read = read_of project folder old before h.value h.gave in
    let is = answered_verified laws project folder old before h.value l forks h.gave h.answers in
    let bare = resolution_of read.fields [] read.catalog in
    let here : IsVerified read.catalog read.fields l =
    subst (λ (r : ResolutionFields). IsVerified r.catalog r.project l) read.is is in
    accepted project folder path now read.fields bare l
    (said_now inputs project folder before now read.fields agree read.said)
    (text_read laws.texts now path l well (laws.printable h.value l forks h.answers) at few)
    (made_now inputs project folder before now read.fields bare agree read.said read.made) (inl (record { verified = here; is = refl }))
