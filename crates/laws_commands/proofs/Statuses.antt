-- With which status `env` ends of a lock that is right for a project.
use Rattle.std.proofs.Common.{◌≡◌, ◌↔◌, ◌∙◌, ℕ, List, [], ◌∷◌, Bool, true, false, not, cond, find, Option, Some, None, Contains, Result, Ok, refl, sym, ap, subst}
use Rattle.ul_base.specs.Names.{is_name, name_of, normal_form}
use Rattle.ul_base.proofs.ForCallers.{contains_first, contains_flat, contains_later, name-is_name, none_found}
use Rattle.ul_comparison.specs.Atoms.{AtomFields}
use Rattle.ul_comparison.specs.Machines.{MachineFields, world_of}
use Rattle.ul_nodes.specs.Plain.{Plain}
use Rattle.ul_tree.specs.Values.{tree_holds}
use Rattle.ul_project.specs.Fields.{ProjectFields}
use Rattle.ul_lock.specs.WellFormed.{IsWellFormed}
use Rattle.ul_lock.specs.declared.parts.Lock.{Lock}
use Rattle.ul_lock_nodes.specs.Roots.{root_lists}
use Rattle.ul_sound.specs.Leaves.{supported_by}
use Rattle.ul_sound.specs.Sound.{AreProjectExtras}
use Rattle.ul_verified.specs.Verified.{IsRoot}
use Rattle.ul_verified.proofs.ForCallers.{root_has}
use Rattle.ul_filter.specs.Comparisons.{HasAll, lock_atoms, machine_world}
use Rattle.ul_filter.specs.Headline.{MoreAgrees, is_supported_at}
use Rattle.ul_inputs.specs.Refused.{Refused}
use Rattle.ul_answers.specs.Answer.{Answer, locked}
use Rattle.ul_answers.specs.Printed.{printed}
use Rattle.ul_lock_commands.specs.Environments.{GivesFor, GivesWhere, IsEnvAnswer}
use Rattle.ul_lock_commands.specs.Words.{first_other, has_extra, is_extra_word, names_in, names_of}
use Rattle.laws_commands.specs.Complete.{InputsAreAnswered}
use Rattle.laws_commands.specs.Printed.{PrintedLaws}
use Rattle.laws_commands.specs.Statuses.{EndsRightly, StatusesOfFiles, StatusesOfVerifiedFiles, WordsAreNames}
use Rattle.laws_commands.proofs.ReadFiles.{text_read}
use Rattle.laws_commands.proofs.Verified.{verified_lock}
use Rattle.laws_commands.proofs.VerifiedFiles.{answered_verified, answered_well, read_well, verified_answer}

-- ---- words

-- a search finds nothing where each element fails the test
none_passes : {A : Type 0} (test : A → Bool) (xs : List A) → ((x : A) → Contains xs x → test x ≡ false) → find test xs ≡ None
none_passes test [] h = refl
none_passes test (x ∷ xs) h =
    ap (λ b. cond b (Some x) (find test xs)) (h x (contains_first x xs)) ∙ none_passes test xs (λ y at. h y (contains_later x xs y at))

is_so : (b : Bool) → not b ≡ false → b ≡ true
is_so true e = refl
is_so false e = absurd (cc e)

-- a word that is a name has its normal form for one
name_at : (word : List ℕ) → is_name word ≡ true → name_of word ≡ Some (normal_form word)
unfolding name_of
name_at word e = ap (λ b. cond b (Some (normal_form word)) None) e

-- the name of one of the words is one of their names
named_in : (words : List (List ℕ)) (word name : List ℕ) → Contains words word → name_of word ≡ Some name → Contains (names_of words) name
unfolding names_of
named_in words word name at is =
    contains_flat (λ w. names_in (name_of w)) words word name at
    (subst (λ (o : Option (List ℕ)). Contains (names_in o) name) (sym is) (contains_first name []))

-- a word with an extra of the root is a name
has_name : (l : Lock) (word : List ℕ) (o : Option (List ℕ)) → name_of word ≡ o → has_extra l o ≡ true → is_name word ≡ true
has_name l word None is has = absurd (cc has)
has_name l word (Some name) is has = name-is_name word name is

-- where no word is refused, each is a name
all_named : (l : Lock) (words : List (List ℕ)) → first_other l words ≡ None → WordsAreNames words
unfolding first_other
all_named l words none word at =
    has_name l word (name_of word) refl (is_so (is_extra_word l word) (none_found (λ w. not (is_extra_word l w)) words word none at))

-- where the root is the project's, no word is refused that is the name of one of its extras
none_refused : (p : ProjectFields) (l : Lock) → IsRoot p l → (words : List (List ℕ)) → AreProjectExtras p (names_of words) → WordsAreNames words
    → first_other l words ≡ None
unfolding first_other
none_refused p l root words extras named =
    none_passes (λ w. not (is_extra_word l w)) words
    (λ word at.
    let name = normal_form word in
    let is = name_at word (named word at) in
    let has : root_lists l name ≡ true = root_has p l root name (extras name (named_in words word name at is)) in
    ap (λ o. not (has_extra l o)) is ∙ ap not has)

-- ---- answers

-- where the lock is for the machine, the status is 0 exactly where no word is refused
for_words : (l : Lock) (m : MachineFields) (words : List (List ℕ)) (other : Option (List ℕ)) (a : Result Answer Refused)
    → GivesFor l m words other a → ((printed a).0 ≡ 0) ↔ (other ≡ None)
for_words l m words None a h = ((λ e. refl), (λ e. ap (λ b. (printed b).0) h.is))
for_words l m words (Some word) a h =
    ((λ e. absurd (let eight : 8 ≡ 0 = ap (λ b. (printed b).0) (sym h) ∙ e in cc)), (λ e. absurd (cc e)))

-- the status is 0 exactly where the lock is for the machine and no word is refused
for_machine : (supported : Bool) (l : Lock) (m : MachineFields) (words : List (List ℕ)) (a : Result Answer Refused)
    → GivesWhere supported l m words a → ((printed a).0 ≡ 0) ↔ ((supported ≡ true) × (first_other l words ≡ None))
for_machine true l m words a h =
    let by_words = for_words l m words (first_other l words) a h in ((λ e. (refl, by_words.0 e)), (λ both. by_words.1 both.1))
for_machine false l m words a h =
    ((λ e. absurd (let eight : 8 ≡ 0 = ap (λ b. (printed b).0) (sym h) ∙ e in cc)), (λ both. absurd (cc both.0)))

-- of a lock with the project's root and region `env` ends rightly
ends_rightly : MoreAgrees → (p : ProjectFields) (l : Lock) → IsWellFormed l → IsRoot p l → l.supported ≡ p.region
    → (m : MachineFields) (words : List (List ℕ)) (a : Result Answer Refused) (comparisons : List AtomFields)
    → HasAll comparisons (lock_atoms l) → AreProjectExtras p (names_of words) → IsEnvAnswer l m words a
    → EndsRightly p (world_of m comparisons) words (printed a).0
ends_rightly more p l well root supported m words a comparisons all extras answers =
    let w = world_of m comparisons in
    let same : is_supported_at l (machine_world l m) ≡ supported_by p w =
    (more l m comparisons well all).1 ∙ ap (λ (t : Plain). tree_holds t w []) supported in
    let at_machine = for_machine (is_supported_at l (machine_world l m)) l m words a answers in (
      λ ended. let both = at_machine.0 ended in (sym same ∙ both.0, all_named l words both.1),
      λ both. at_machine.1 (same ∙ both.0, none_refused p l root words extras both.1),
    )

-- ---- files

pub statuses_of_files : InputsAreAnswered → MoreAgrees → PrintedLaws → StatusesOfFiles
statuses_of_files inputs more laws project folder old workers path machine words before now r l forks m a comparisons
    gave locks at few machined all extras answers =
    let locked_by = inputs.lock project folder workers old before r (Ok (locked l forks)) gave locks in
    let well = answered_well laws project folder old before r l forks gave locked_by in
    let is = answered_verified laws project folder old before r l forks gave locked_by in
    let read = text_read laws.texts now path l well (laws.printable r l forks locked_by) at few in
    ends_rightly more r.project l well is.root is.supported m words a comparisons all extras
    (inputs.env path machine words now l m a read machined answers)

pub statuses_of_verified_files : InputsAreAnswered → MoreAgrees → StatusesOfVerifiedFiles
statuses_of_verified_files inputs more project folder path machine words m r l x a comparisons gave read machined accepts all extras answers =
    let is = verified_lock r l (verified_answer inputs project folder path m r l gave read accepts) in
    ends_rightly more r.project l (read_well path m l read) is.root is.supported x words a comparisons all extras
    (inputs.env path machine words m l x a read machined answers)
