-- What `export` prints of a lock that is right for a project.
use Rattle.std.proofs.Common.{◌≡◌, ◌≢◌, ◌∙◌, ℕ, List, Ok, refl, sym, ap, subst}
use Rattle.std.specs.Prelude.{◌↔◌}
use Rattle.ul_base.specs.declared.node.Node.{Node}
use Rattle.ul_nodes.specs.Plain.{Plain}
use Rattle.ul_version.specs.Fields.{Fields}
use Rattle.ul_comparison.specs.Worlds.{WorldFields}
use Rattle.ul_tree.specs.Regions.{region_of}
use Rattle.ul_lock.specs.declared.parts.Lock.{Lock}
use Rattle.ul_sound.specs.Leaves.{supported_by}
use Rattle.ul_sound.specs.Sound.{IsSound, IsSoundAt}
use Rattle.ul_reach.specs.Headline.{HasRowIn, IsGiven}
use Rattle.ul_reach.specs.Rows.{is_supported, row_key}
use Rattle.ul_reach.specs.declared.rows.Reached.{Reached}
use Rattle.ul_inputs.specs.Resolutions.{ResolutionFields}
use Rattle.ul_answers.specs.Answer.{exported, locked}
use Rattle.ul_lock_commands.specs.Exports.{ExportsAreExact, SayWhatIsGiven}
use Rattle.ul_lock_commands.specs.Words.{names_of}
use Rattle.ul_commands.specs.Laws.{LocksAreSound}
use Rattle.laws_commands.specs.Complete.{InputsAreAnswered}
use Rattle.laws_commands.specs.Environments.{IsRequired}
use Rattle.laws_commands.specs.Exports.{ExportsOfFiles, ExportsOfVerifiedFiles, ExportsRequired, HoldsIn, ListsRequired}
use Rattle.laws_commands.specs.Printed.{PrintedLaws}
use Rattle.laws_commands.specs.Verified.{VerifiedFilesAreSound}
use Rattle.laws_commands.proofs.ReadFiles.{text_read}
use Rattle.laws_commands.proofs.Verified.{verified_lock}
use Rattle.laws_commands.proofs.VerifiedFiles.{answered_verified, answered_well, read_well, verified_answer}

module _ (r : ResolutionFields) (l : Lock) (words : List (List ℕ)) (rows : List Reached) (w : WorldFields)
    (named : l.root ≡ r.project.package.name)
    (exact : (p : Node × Fields) → HasRowIn rows w p ↔ IsGiven l w (names_of words) p)
    (sound : IsSoundAt r.catalog r.project l w (names_of words)) where
  -- what a row that holds is of, the lock gives
  row_given : (row : Reached) → HoldsIn rows w row → IsGiven l w (names_of words) (row_key row)
  row_given row h = (exact (row_key row)).0 (row, h.listed, refl, h.holds)

  -- what is required has a row that holds
  required_row : (n : Node) → IsRequired r l w (names_of words) n → (row : Reached) × HoldsIn rows w row × (row.node ≡ n)
  required_row n h =
      let walk = (sound.closure n).1 h.1 in
      let other : n.name ≢ l.root = λ e. h.0 (e ∙ named) in
      let has = (exact (n, walk.0)).1 (other, walk.1) in
      (has.0, record { listed = has.1; holds = has.3 }, ap (λ (p : Node × Fields). p.0) has.2)

  -- and what a row that holds is of is required
  row_required : (n : Node) (row : Reached) → HoldsIn rows w row → row.node ≡ n → IsRequired r l w (names_of words) n
  row_required n row h is =
      let given = row_given row h in
      let here : IsRequired r l w (names_of words) row.node =
      (λ e. given.0 (e ∙ sym named), (sound.closure row.node).0 (row.version, given.1)) in
      subst (IsRequired r l w (names_of words)) is here

  lists_required : ListsRequired r l words rows w
  lists_required = record {
    nodes = λ n. (required_row n, λ h. row_required n h.0 h.1 h.2);
    one_version = λ j k g h same.
        sound.one_version j.node k.node j.version k.version (row_given j g).1 (row_given k h).1 same;
    eligible = λ row h. sound.eligible_each row.node row.version (row_given row h).1;
  }

-- the rows of a lock that is right for the project
exports_required : (r : ResolutionFields) (l : Lock) (words : List (List ℕ)) (rows : List Reached)
    → l.root ≡ r.project.package.name → l.supported ≡ r.project.region → IsSound r.catalog r.project l
    → SayWhatIsGiven l words rows → ExportsRequired r l words rows
exports_required r l words rows named supported sound say own w world within =
    let same : is_supported l w ≡ supported_by r.project w = ap (λ (t : Plain). region_of t w) supported in
    lists_required r l words rows w named (say.exact w world (same ∙ within)) (sound w world within (names_of words) own)

pub exports_of_files : InputsAreAnswered → ExportsAreExact → LocksAreSound → PrintedLaws → ExportsOfFiles
exports_of_files inputs exact sound laws project folder old workers path words before now r l forks rows gave locks at few prints =
    let locked_by = inputs.lock project folder workers old before r (Ok (locked l forks)) gave locks in
    let well = answered_well laws project folder old before r l forks gave locked_by in
    let is = answered_verified laws project folder old before r l forks gave locked_by in
    let read = text_read laws.texts now path l well (laws.printable r l forks locked_by) at few in
    exports_required r l words rows is.root.named is.supported (sound r l forks (laws.resolution project folder old before r gave) locked_by)
    (exact l words rows well (inputs.export path words now l (Ok (exported rows)) read prints))

pub exports_of_verified_files : InputsAreAnswered → ExportsAreExact → VerifiedFilesAreSound → ExportsOfVerifiedFiles
exports_of_verified_files inputs exact sound project folder path words m r l rows gave read accepts prints =
    let is = verified_lock r l (verified_answer inputs project folder path m r l gave read accepts) in
    exports_required r l words rows is.root.named is.supported (sound project folder path m r l gave read accepts)
    (exact l words rows (read_well path m l read) (inputs.export path words m l (Ok (exported rows)) read prints))
