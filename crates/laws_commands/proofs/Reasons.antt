-- What `why` prints of a refused fork is accepted by `check`.
use Rattle.std.proofs.Common.{◌≡◌, ◌≢◌, ◌∙◌, ◌<◌, ◌≤◌, ◌+◌, ◌^◌, ℕ, zero, suc, List, [], ◌∷◌, ◌++◌, Bool, true, false, length, map, Some, Result, Ok, refl, sym, ap, subst, arith, inl, inr}
use Rattle.std.specs.Prelude.{Contains, slice_get}
use Rattle.std.proofs.lemmas.List.{length-append, length-map}
use Rattle.ul_files.specs.Files.{FileMap}
use Rattle.ul_base.specs.declared.node.Node.{Node}
use Rattle.ul_base.proofs.ForCallers.{contains_cases, contains_first, contains_from_map, contains_later, reached_in}
use Rattle.ul_version.specs.Fields.{IsVersion}
use Rattle.ul_comparison.specs.Worlds.{WorldFields}
use Rattle.ul_requirement.specs.Truth.{base, with_extra}
use Rattle.ul_nodes.specs.Plain.{Plain, truth}
use Rattle.ul_tree.specs.Paths.{is_printable}
use Rattle.ul_tree.specs.Regions.{IsRegionTree, NoExtra, region_of}
use Rattle.ul_tree.specs.Values.{tree_holds}
use Rattle.ul_index.specs.Regions.{HasWorld}
use Rattle.ul_marker_text.proofs.ForCallers.{printable_readable}
use Rattle.ul_lines.specs.Reader.{Each}
use Rattle.ul_lock.specs.Region.{IsRegion}
use Rattle.ul_problem.specs.Plain.{Plain as Problem, node_at}
use Rattle.ul_problem.specs.declared.problem.NodeFacts.{NodeFacts}
use Rattle.ul_problem.specs.declared.step.Step.{Step}
use Rattle.ul_derivation.specs.Laws.{AcceptedLaw}
use Rattle.ul_region.specs.Laws.{NothingServes}
use Rattle.ul_region.specs.Problem.{IsProblemOf, Leads}
use Rattle.ul_generations.specs.declared.outcomes.Outcome.TheVariants.{Split}
use Rattle.ul_generations.specs.Generations.{leaves_are, refused_at, too_many}
use Rattle.ul_generations.proofs.ForCallers.{refused_has}
use Rattle.ul_forks.specs.Headline.{IsAnswer, TreeAnswer, TreeRefusal}
use Rattle.ul_forks.specs.Outcome.{IsOutcome, Question, starts_of}
use Rattle.ul_report.specs.Naming.{named_step, named_steps}
use Rattle.ul_report.specs.Texts.{lines_from, refusal_text, step_line, steps_text}
use Rattle.ul_report.specs.declared.text_steps.TextStep.{TextStep}
use Rattle.ul_report_read.specs.Laws.{HasTexts as NodeHasTexts, PrintedIsRead, printed}
use Rattle.ul_report_read.specs.Proofs.{IsNamed, IsTextOf}
use Rattle.ul_report_read.specs.declared.proof.Proof.{Proof}
use Rattle.ul_report_judge.specs.Laws.{PrintedIsAccepted}
use Rattle.ul_project.specs.Fields.{ProjectFields}
use Rattle.ul_inputs.specs.Inputs.{large_file, text_bytes}
use Rattle.ul_inputs.specs.Projects.{project_at}
use Rattle.ul_inputs.specs.Refused.{Refused}
use Rattle.ul_inputs.specs.Resolutions.{IsResolution, ResolutionFields, resolution_of, resolution_with}
use Rattle.laws_given.specs.Given.{GivenHasTexts, GivenIsResolution, HasTexts}
use Rattle.ul_answers.specs.Answer.{Answer, accepted, derived}
use Rattle.ul_commands.specs.Asked.{check}
use Rattle.ul_commands.specs.Checking.{IsCheckAnswer}
use Rattle.ul_commands.specs.Commands.{command}
use Rattle.ul_commands.specs.Laws.{ForksAreUnserved}
use Rattle.ul_commands.specs.Questions.{question_of}
use Rattle.ul_commands.specs.Reasons.{AreStepsOf, DerivedWhere, GivesReason}
use Rattle.laws_commands.specs.Reasons.{AcceptedAreUnserved, FilesAreAccepted, HasAcceptedProof, ReasonsAreAccepted, reason_text}
use Rattle.laws_frames.specs.Frames.{InputsByWhatIsRead}
use Rattle.laws_commands.proofs.ReadFiles.{file_text, made_now, read_of, said_now}
use Rattle.laws_commands.proofs.Unkept.{accepted_unkept}

-- the laws of lower crates on which this rests
pub record ReasonLaws : Type 0 where
  pub unserved : ForksAreUnserved
  pub no_extra : NoExtra
  pub read : PrintedIsRead
  pub judged : PrintedIsAccepted

-- ---- the names and versions of a problem

pub start_named : (r : ResolutionFields) → HasTexts r → (n : Node) → Contains (starts_of (question_of r)) n → IsNamed n
start_named r texts n at =
    elim (contains_cases (base r.project.package.name) (map (with_extra r.project.package.name) r.project.extras) n at) [
      | inl same ↦ subst IsNamed (sym same) (record { name = texts.project; extra = tt })
      | inr later ↦
          let found = contains_from_map (with_extra r.project.package.name) r.project.extras n later in
          subst IsNamed (sym found.2) (record { name = texts.project; extra = texts.extras found.0 found.1 })
    ]

node_named : (r : ResolutionFields) → HasTexts r → (region : Plain) (p : Problem)
    → IsProblemOf r.catalog (starts_of (question_of r)) r.wish (region_of region) p
    → (k : ℕ) (f : NodeFacts) → node_at p k ≡ Some f → IsNamed f.node
node_named r texts region p is k f at =
    reached_in {B = Contains (starts_of (question_of r))} {S = Leads r.catalog (region_of region)} IsNamed (start_named r texts)
    (λ n t _ _ leads.
    let both = texts.nodes n.name leads.version leads.requirement t leads.firm.applied.listed leads.aimed in
    record { name = both.0; extra = both.1 }) (is.reached k f at)

all_are : {A : Type 0} (P : A → Type 0) (xs : List A) → ((x : A) → Contains xs x → P x) → Each P xs
all_are P [] h = tt
all_are P (x ∷ xs) h = (h x (contains_first x xs), all_are P xs (λ y at. h y (contains_later x xs y at)))

node_has : (r : ResolutionFields) → HasTexts r → (region : Plain) (p : Problem)
    → IsProblemOf r.catalog (starts_of (question_of r)) r.wish (region_of region) p
    → (k : ℕ) (f : NodeFacts) → node_at p k ≡ Some f → NodeHasTexts f
node_has r texts region p is k f at = record {
  node = node_named r texts region p is k f at;
  versions = all_are IsVersion f.versions
      (λ v here. texts.versions f.node.name v (subst (λ vs. Contains vs v) (is.facts k f at).versions here));
}

at_place : {A : Type 0} (xs : List A) (x : A) → Contains xs x → (k : ℕ) × (slice_get xs k ≡ Some x)
at_place [] x (k, lt, e) = absurd (omega (arith, lt))
at_place (y ∷ xs) x (zero, lt, e) = (zero, ap Some e)
at_place (y ∷ xs) x (suc k, lt, e) = let rest = at_place xs x (k, omega (arith, lt), e) in (suc rest.0, rest.1)

nodes_have : (r : ResolutionFields) → HasTexts r → (region : Plain) (p : Problem)
    → IsProblemOf r.catalog (starts_of (question_of r)) r.wish (region_of region) p → Each NodeHasTexts p.nodes
nodes_have r texts region p is =
    all_are NodeHasTexts p.nodes (λ f here. let at = at_place p.nodes f here in node_has r texts region p is at.0 f at.1)

-- ---- the region of a refused fork

-- both regions of a split have trees
pub split_goes : (q : Question) (t a b : Plain) → IsOutcome q t (Split a b) → IsRegionTree t
    → IsRegionTree a × IsRegionTree b
split_goes q t a b split h = (
  record { reduced = split.true_in.reduced; truth = λ w x is. split.true_in.truth w x is ∙ sym (split.true_in.truth w [] is) },
  record { reduced = split.false_in.reduced; truth = λ w x is. split.false_in.truth w x is ∙ sym (split.false_in.truth w [] is) },
)

no_world : (w : WorldFields) → tree_holds (truth false) w [] ≡ true → ⊥
no_world w h = let bad : false ≡ true = h in cc

pub not_false : (t : Plain) → HasWorld (region_of t) → t ≢ truth false
not_false t had is = no_world had.0 (subst (λ x. tree_holds x had.0 [] ≡ true) is had.2)

fork_region : ReasonLaws → (r : ResolutionFields) (counts : List ℕ) (fork : TreeRefusal) → IsResolution r
    → IsAnswer (question_of r) r.project.region counts (refused_at fork) → IsRegion fork.region
fork_region laws r counts fork is answer =
    let tree = refused_has (IsOutcome (question_of r)) IsRegionTree (split_goes (question_of r)) r.project.region counts fork is.project.region answer in
    record {
      reduced = tree.reduced;
      not_false = not_false fork.region (laws.unserved r fork is (record { counts = counts; answer = answer })).world;
      no_extra = laws.no_extra.region fork.region tree;
    }

-- ---- how many steps there are

line_counts : (n : ℕ) (s : TextStep) → 1 ≤ length (step_line n s)
unfolding step_line
line_counts n s = rw (length-append, length-append) (omega arith)

lines_count : (n : ℕ) (ss : List TextStep) → length ss ≤ length (lines_from n ss)
lines_count n [] = omega arith
lines_count n (s ∷ ss) =
    let one = line_counts n s in
    let rest = lines_count (n + 1) ss in
    let both = length-append (step_line n s) (lines_from (n + 1) ss) in
    omega (arith, one, rest, both)

few_steps : (front : List ℕ) (p : Problem) (steps : List Step) → length (front ++ steps_text (named_steps p steps)) ≤ text_bytes → length steps < 2 ^ 64
few_steps front p steps h =
    let count : length (named_steps p steps) ≤ length (steps_text (named_steps p steps)) = lines_count 1 (named_steps p steps) in
    let same : length (named_steps p steps) ≡ length steps = length-map steps (named_step p) in
    let both = length-append front (steps_text (named_steps p steps)) in
    omega (arith, h, count, same, both)

-- ---- what is printed

-- the derivation of a refused fork is a file that is accepted
of_fork : ReasonLaws → (r : ResolutionFields) (counts : List ℕ) (fork : TreeRefusal) (lines : List ℕ) → IsResolution r → HasTexts r
    → IsAnswer (question_of r) r.project.region counts (refused_at fork) → AreStepsOf r fork.region lines
    → is_printable fork.region ≡ true → length (reason_text fork.path fork.region lines) ≤ text_bytes → HasAcceptedProof r (reason_text fork.path fork.region lines)
of_fork laws r counts fork lines is texts answer steps printable few =
    let p = steps.problem in
    let well = steps.of_region.well_formed in
    let short = few_steps (refusal_text fork.path fork.region) p steps.steps
    (subst (λ z. length (refusal_text fork.path fork.region ++ z) ≤ text_bytes) steps.are few) in
    record {
      proof = printed p fork.path fork.region steps.steps;
      is_text = record {
        is_proof = laws.read.is_proof p fork.path fork.region steps.steps well (nodes_have r texts fork.region p steps.of_region)
            (fork_region laws r counts fork is answer) (printable_readable fork.region printable) short steps.accepted.0;
        same = ap (λ z. refusal_text fork.path fork.region ++ z) (sym steps.are);
      };
      answer = inl (record {
        problem = p;
        of_region = steps.of_region;
        accepts = laws.judged.names p steps.steps well steps.accepted;
        is = refl;
      });
    }

same_path : (p q : List Bool) (t u : Plain) (xs ys : List ℕ) → (let a : Result Answer Refused = Ok (derived p t xs) in a) ≡ Ok (derived q u ys) → p ≡ q
same_path p q t u xs ys e = cc

pub same_region : (p q : List Bool) (t u : Plain) (xs ys : List ℕ) → (let a : Result Answer Refused = Ok (derived p t xs) in a) ≡ Ok (derived q u ys) → t ≡ u
same_region p q t u xs ys e = cc

same_lines : (p q : List Bool) (t u : Plain) (xs ys : List ℕ) → (let a : Result Answer Refused = Ok (derived p t xs) in a) ≡ Ok (derived q u ys) → xs ≡ ys
same_lines p q t u xs ys e = cc

same_text : (p q : List Bool) (t u : Plain) (xs ys : List ℕ) → (let a : Result Answer Refused = Ok (derived p t xs) in a) ≡ Ok (derived q u ys)
    → reason_text p t xs ≡ reason_text q u ys
same_text p q t u xs ys e =
    let path = same_path p q t u xs ys e in
    let region = same_region p q t u xs ys e in
    let lines = same_lines p q t u xs ys e in
    λ i. reason_text (path i) (region i) (lines i)

-- a fork that is told has a region that is printable
by_region : ReasonLaws → (r : ResolutionFields) (path : List Bool) (region : Plain) (steps : List ℕ) → IsResolution r → HasTexts r
    → (fork : TreeRefusal) (counts : List ℕ) → IsAnswer (question_of r) r.project.region counts (refused_at fork)
    → (told : Bool) → is_printable fork.region ≡ told → DerivedWhere told r fork (Ok (derived path region steps))
    → length (reason_text path region steps) ≤ text_bytes → HasAcceptedProof r (reason_text path region steps)
by_region laws r path region steps is texts fork counts answer true printable h few =
    let same = same_text path fork.path region fork.region steps h.lines h.is in
    subst (HasAcceptedProof r) (sym same)
    (of_fork laws r counts fork h.lines is texts answer h.steps printable (subst (λ z. length z ≤ text_bytes) same few))
by_region laws r path region steps is texts fork counts answer false printable h few = absurd (cc)

by_forks : ReasonLaws → (r : ResolutionFields) (path : List Bool) (region : Plain) (steps : List ℕ) → IsResolution r → HasTexts r
    → (f : TreeAnswer) (counts : List ℕ) → IsAnswer (question_of r) r.project.region counts f → GivesReason r f (Ok (derived path region steps))
    → length (reason_text path region steps) ≤ text_bytes → HasAcceptedProof r (reason_text path region steps)
by_forks laws r path region steps is texts (leaves_are ls) counts answer h few = absurd (cc)
by_forks laws r path region steps is texts (too_many n) counts answer h few = absurd (cc)
by_forks laws r path region steps is texts (refused_at fork) counts answer h few =
    by_region laws r path region steps is texts fork counts answer (is_printable fork.region) refl h few

pub reasons_are_accepted : ReasonLaws → ReasonsAreAccepted
reasons_are_accepted laws r path region steps is texts h few =
    by_forks laws r path region steps is texts h.forked h.are_forks.counts h.are_forks.answer h.gives few

-- ---- files

-- what `check` reads and answers, part by part
checked : (project folder derivation text : List ℕ) (m : FileMap) (p : ProjectFields) (r : ResolutionFields) (x : Proof)
    → (project_at project m).gives (Ok p) → (large_file derivation m).gives (Ok text) → IsTextOf text x
    → (resolution_with folder p [] m).gives (Ok r) → IsCheckAnswer r x (Ok accepted)
    → (command (check project folder derivation) m).gives (Ok accepted)
checked project folder derivation text m p r x said file is_text made answer = inr (record {
  value = p;
  gave = said;
  answers = inr (record {
    value = x;
    gave = inr (record { value = text; gave = file; answers = is_text });
    answers = inr (record { value = r; gave = made; answers = answer });
  });
})

pub files_are_accepted : InputsByWhatIsRead → ReasonLaws → GivenIsResolution → GivenHasTexts → FilesAreAccepted
files_are_accepted inputs laws given texts project folder derivation old workers before now path region steps (inl h) agree at few = absurd h
files_are_accepted inputs laws given texts project folder derivation old workers before now path region steps (inr h) agree at few =
    let text = reason_text path region steps in
    let is = given project folder old before h.value h.gave in
    let had = texts project folder old before h.value h.gave in
    let found = reasons_are_accepted laws h.value path region steps is had h.answers few in
    let read = read_of project folder old before h.value h.gave in
    let kept = subst (λ r. IsCheckAnswer r found.proof (Ok accepted)) read.is found.answer in
    let bare = resolution_of read.fields [] read.catalog in
    checked project folder derivation text now read.fields bare found.proof
    (said_now inputs project folder before now read.fields agree read.said)
    (file_text now derivation text at few) found.is_text
    (made_now inputs project folder before now read.fields bare agree read.said read.made)
    (accepted_unkept read.fields read.catalog read.kept found.proof kept)

-- ---- what an accepted derivation says

pub accepted_are_unserved : AcceptedLaw → NothingServes → AcceptedAreUnserved
accepted_are_unserved law nothing r x (inl h) =
    let none = law h.problem h.accepts.0 h.of_region.well_formed h.accepts.2 in
    (nothing r.catalog (starts_of (question_of r)) r.wish (region_of x.region) h.problem h.of_region).0 none
accepted_are_unserved law nothing r x (inr h) = let bad = h.is in absurd (cc)
