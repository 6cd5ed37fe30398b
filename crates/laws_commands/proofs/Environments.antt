-- What `env` prints of a lock that `lock` gives is what the project requires.
use Rattle.std.proofs.Common.{◌≡◌, ◌≢◌, ◌∙◌, ◌⊎◌, ◌||◌, ℕ, List, [], ◌∷◌, Bool, true, false, map, bytes_eq, Option, Some, None, IfSome, Contains, Result, Ok, refl, sym, ap, subst, inl, inr}
use Rattle.std.specs.Cmp.{first_so, second_so}
use Rattle.std.specs.List.{list_all, list_any}
use Rattle.std.proofs.lemmas.Slice.Eq.{bytes_eq-Decides}
use Rattle.ul_base.specs.Reached.{led}
use Rattle.ul_base.specs.declared.node.Node.{Node}
use Rattle.ul_base.proofs.ForCallers.{contains_cases, contains_first, contains_from_map, contains_later, contains_map, none_in, reached_in}
use Rattle.ul_version.specs.Fields.{Fields}
use Rattle.ul_version.specs.Laws.{TextTells}
use Rattle.ul_version.specs.Texts.{version_text}
use Rattle.ul_comparison.specs.Atoms.{AtomFields}
use Rattle.ul_comparison.specs.Machines.{MachineFields, world_of}
use Rattle.ul_comparison.specs.Worlds.{WorldFields, IsWorld}
use Rattle.ul_requirement.specs.Fields.{RequirementFields}
use Rattle.ul_requirement.specs.Truth.{base, targets, with_extra}
use Rattle.ul_nodes.specs.Plain.{Plain}
use Rattle.ul_tree.specs.Values.{tree_holds}
use Rattle.ul_index.specs.Catalogs.{Packages}
use Rattle.ul_index.specs.Eligible.{eligible}
use Rattle.ul_lines.specs.Reader.{Each}
use Rattle.ul_lock.specs.WellFormed.{IsEdge, IsListed, IsPackage, IsWellFormed}
use Rattle.ul_lock.specs.declared.parts.Edge.{Edge}
use Rattle.ul_lock.specs.declared.parts.Extra.{Extra}
use Rattle.ul_lock.specs.declared.parts.Lock.{Lock}
use Rattle.ul_lock.specs.declared.parts.Locked.{Locked}
use Rattle.ul_lock.specs.Targets.{has_target, have_targets, is_named, is_target, lists_option, package_leads_on}
use Rattle.ul_lock.specs.Walk.{AgreeOnLock, HasEdge, IsEdgeOf, Pick as NodeAt, Walk, WalkBegins, WalkLeads, WalksAgree}
use Rattle.ul_lock_nodes.specs.Routes.{routes_of}
use Rattle.ul_sound.specs.Headline.{HasCatalogTexts, MergePromises}
use Rattle.ul_sound.specs.Leaves.{supported_by}
use Rattle.ul_sound.specs.Sound.{AreProjectExtras, Closure, ClosureBegins, ClosureLeads, IsEligible, IsSound, IsSoundAt}
use Rattle.ul_filter.specs.Comparisons.{HasAll, lock_atoms, machine_world}
use Rattle.ul_filter.specs.Headline.{IsEnvironment, MoreAgrees, is_supported_at}
use Rattle.ul_filter.specs.Picks.{ArePicks, pick_view, picks_of}
use Rattle.ul_filter.specs.declared.picks.Pick.{Pick}
use Rattle.ul_inputs.specs.Refused.{Refused}
use Rattle.ul_inputs.specs.Resolutions.{ResolutionFields}
use Rattle.ul_answers.specs.Answer.{Answer, environment}
use Rattle.ul_lock_commands.specs.Environments.{GivesFor, GivesWhere, IsEnvAnswer}
use Rattle.ul_lock_commands.specs.Words.{first_other, names_of}
use Rattle.ul_commands.specs.Laws.{LocksAreOfLeaves}
use Rattle.laws_commands.specs.Environments.{EnvironmentsOfLocks, HasNode, IsRequired, IsSpelled, ListsExactly}
use Rattle.laws_commands.specs.Verified.{EnvironmentsOfVerified, VerifiedAreSound}
use Rattle.laws_commands.specs.WellFormed.{LocksAreWellFormed}
use Rattle.laws_commands.proofs.Picks.{AreFlags, IsPickOf, ListsExtra, Parts, flags_from, picks_from, picks_have}
use Rattle.laws_commands.proofs.Verified.{verified_lock}

-- ---- lists

each_at : {A : Type 0} (P : A → Type 0) (xs : List A) (x : A) → Each P xs → Contains xs x → P x
each_at P [] x h at = absurd (none_in x at)
each_at P (y ∷ ys) x h at = elim (contains_cases y ys x at) [
  | inl same ↦ subst P (sym same) h.0
  | inr later ↦ each_at P ys x h.1 later
]

all_at : {A : Type 0} (test : A → Bool) (xs : List A) (x : A) → list_all test xs ≡ true → Contains xs x → test x ≡ true
all_at test [] x h at = absurd (none_in x at)
all_at test (y ∷ ys) x h at = elim (contains_cases y ys x at) [
  | inl same ↦ ap test same ∙ first_so (test y) (list_all test ys) h
  | inr later ↦ all_at test ys x (second_so (test y) (list_all test ys) h) later
]

either_is : (a b : Bool) → (a || b) ≡ true → (a ≡ true) ⊎ (b ≡ true)
either_is true b h = inl refl
either_is false b h = inr h

any_at : {A : Type 0} (test : A → Bool) (xs : List A) → list_any test xs ≡ true → (x : A) × Contains xs x × (test x ≡ true)
any_at test [] h = absurd (cc)
any_at test (y ∷ ys) h = elim (either_is (test y) (list_any test ys) h) [
  | inl one ↦ (y, contains_first y ys, one)
  | inr more ↦ let rest = any_at test ys more in (rest.0, contains_later y ys rest.0 rest.1, rest.2)
]

same_bytes : (xs ys : List ℕ) → bytes_eq xs ys ≡ true → xs ≡ ys
same_bytes xs ys e = (bytes_eq-Decides xs ys).0 e

-- a fact on a node at a version, on another of the same name and version
moved : (P : NodeAt → Type 0) (m n : List ℕ) (x : Option (List ℕ)) (v u : Fields) → m ≡ n → v ≡ u
    → P (record { name = m; extra = x }, v) → P (record { name = n; extra = x }, u)
moved P m n x v u name version h =
    let first : NodeAt = (record { name = m; extra = x }, v) in
    let second : NodeAt = (record { name = n; extra = x }, u) in
    let same : first ≡ second = λ i. (record { name = name i; extra = x }, version i) in
    subst P same h

-- ---- where the walk leads

-- the lock has the node at its version: its package, and its extra, if it has one
record StandsIn (l : Lock) (p : NodeAt) : Type 0 where
  block : Locked
  listed : Contains l.packages block
  name : block.name ≡ p.0.name
  version : block.version ≡ p.1
  extra : ListsExtra block p.0.extra

edge_in : (l : Lock) → IsWellFormed l → (p : NodeAt) (e : Edge) → HasEdge l p e → IsEdge e
edge_in l well p e h = go p.0.extra h.edge
  where
    at : IsPackage h.from.block
    at = each_at IsPackage l.packages h.from.block well.packages h.from.listed

    go : (x : Option (List ℕ)) → IsEdgeOf h.from.block x e → IsEdge e
    go None i = each_at IsEdge h.from.block.edges e at.edges.each i
    go (Some x) i = each_at IsEdge i.0.edges e (each_at IsListed h.from.block.extras i.0 at.extras i.1).edges.each i.3

edge_leads : (l : Lock) → IsWellFormed l → (p : NodeAt) (e : Edge) → HasEdge l p e → has_target l.packages e ≡ true
edge_leads l well p e h = go p.0.extra h.edge
  where
    on : package_leads_on l.packages h.from.block ≡ true
    on = all_at (package_leads_on l.packages) l.packages h.from.block well.targets h.from.listed

    base_on : have_targets l.packages h.from.block.edges ≡ true
    base_on = first_so _ (list_all (λ (x : Extra). have_targets l.packages x.edges) h.from.block.extras) on

    extras_on : list_all (λ (x : Extra). have_targets l.packages x.edges) h.from.block.extras ≡ true
    extras_on = second_so (have_targets l.packages h.from.block.edges) _ on

    go : (x : Option (List ℕ)) → IsEdgeOf h.from.block x e → has_target l.packages e ≡ true
    go None i = all_at (has_target l.packages) h.from.block.edges e base_on i
    go (Some x) i =
        all_at (has_target l.packages) i.0.edges e (all_at (λ (x : Extra). have_targets l.packages x.edges) h.from.block.extras i.0 extras_on i.1) i.3

listed_extra : (b : Locked) (x : Option (List ℕ)) → lists_option b.extras x ≡ true → ListsExtra b x
listed_extra b None h = tt
listed_extra b (Some x) h =
    let found = any_at (λ (y : Extra). bytes_eq y.name x) b.extras h in
    (found.0, found.1, same_bytes found.0.name x found.2)

-- a package that is an edge's target
target_in : TextTells → (l : Lock) → IsWellFormed l → (e : Edge) → IsEdge e → (b : Locked) → Contains l.packages b → is_target e b ≡ true
    → StandsIn l (e.target, e.version)
target_in tells l well e good b at is =
    let named = first_so (is_named e b) (lists_option b.extras e.target.extra) is in
    let name = first_so (bytes_eq b.name e.target.name) (bytes_eq (version_text b.version) (version_text e.version)) named in
    let version = second_so (bytes_eq b.name e.target.name) (bytes_eq (version_text b.version) (version_text e.version)) named in
    record {
      block = b;
      listed = at;
      name = same_bytes b.name e.target.name name;
      version = tells b.version e.version (each_at IsPackage l.packages b well.packages at).version good.version
          (same_bytes (version_text b.version) (version_text e.version) version);
      extra = listed_extra b e.target.extra (second_so (is_named e b) (lists_option b.extras e.target.extra) is);
    }

led_in : TextTells → (l : Lock) (w : WorldFields) → IsWellFormed l → (p q : NodeAt) → WalkLeads l w p q → StandsIn l q
unfolding has_target
led_in tells l w well p q h =
    let found = any_at (is_target h.0) l.packages (edge_leads l well p h.0 h.1) in
    let stands = target_in tells l well h.0 (edge_in l well p h.0 h.1) found.0 found.1 found.2 in
    let there : NodeAt = (h.0.target, h.0.version) in
    let same : there ≡ q = λ i. (h.3 i, h.4 i) in
    subst (StandsIn l) same stands

-- where the walk has a node that isn't the root's, the lock has it
stands_in : TextTells → (l : Lock) (w : WorldFields) (xs : List (List ℕ)) → IsWellFormed l → (p : NodeAt) → Walk l w xs p → p.0.name ≢ l.root
    → StandsIn l p
stands_in tells l w xs well p walk =
    reached_in {B = WalkBegins l xs} {S = WalkLeads l w} (λ q. q.0.name ≢ l.root → StandsIn l q) (λ q begins differ. absurd (differ begins.1.0))
    (λ a b _ _ leads differ. led_in tells l w well a b leads) walk

-- ---- what is required has the base of each extra

target_named : (q : RequirementFields) (t : Node) → Contains (targets q) t → t.name ≡ q.name
target_named q t at = elim (contains_cases (base q.name) (map (with_extra q.name) q.extras) t at) [
  | inl same ↦ ap (λ (n : Node). n.name) same
  | inr later ↦ ap (λ (n : Node). n.name) (contains_from_map (with_extra q.name) q.extras t later).2
]

base_aimed : (q : RequirementFields) (t : Node) → Contains (targets q) t → Contains (targets q) (base t.name)
base_aimed q t at =
    subst (λ n. Contains (targets q) (base n)) (sym (target_named q t at)) (contains_first (base q.name) (map (with_extra q.name) q.extras))

begins_named : (r : ResolutionFields) (xs : List (List ℕ)) (n : Node) → ClosureBegins r.project xs n → n.name ≡ r.project.package.name
begins_named r xs n (inl same) = ap (λ (z : Node). z.name) same
begins_named r xs n (inr found) = ap (λ (z : Node). z.name) found.2

base_required : (r : ResolutionFields) (l : Lock) (w : WorldFields) (xs : List (List ℕ)) (n : Node)
    → Closure r.catalog r.project l w xs n → n.name ≢ r.project.package.name → Closure r.catalog r.project l w xs (base n.name)
base_required r l w xs n h =
    reached_in {B = ClosureBegins r.project xs} {S = ClosureLeads r.catalog l w xs}
    (λ t. t.name ≢ r.project.package.name → Closure r.catalog r.project l w xs (base t.name))
    (λ t begins differ. absurd (differ (begins_named r xs t begins)))
    (λ a t reached _ leads differ.
    led a (base t.name) reached
    (record {
      version = leads.version;
      given = leads.given;
      requirement = leads.requirement;
      listed = leads.listed;
      holds = leads.holds;
      aimed = base_aimed leads.requirement t leads.aimed;
    }))
    h

-- a line with these parts has a node
has_node : (line : Pick) (n : Node) (name : List ℕ) (version : Fields) (extras : List (List ℕ)) → (name, version, extras) ≡ pick_view line
    → name ≡ n.name → IfSome n.extra (λ x. Contains extras x) → HasNode line n
has_node line n name version extras same named extra = record {
  name = sym (ap (λ (s : Parts). s.0) same) ∙ named;
  extra = subst (λ (s : Parts). IfSome n.extra (λ x. Contains s.2 x)) same extra;
}

-- ---- the lines

-- what is known of a lock that is given: of what it gives beside the root, the versions can be chosen
record Given (CanBeChosen : List ℕ → Fields → Type 0) (r : ResolutionFields) (l : Lock) (w : WorldFields) (xs : List (List ℕ))
    : Type 0 where
  root : l.root ≡ r.project.package.name
  sound : IsSoundAt r.catalog r.project l w xs
  well : IsWellFormed l
  chosen : (n : Node) (v : Fields) → Walk l w xs (n, v) → n.name ≢ l.root → CanBeChosen n.name v

module _ (tells : TextTells) (CanBeChosen : List ℕ → Fields → Type 0) (r : ResolutionFields) (l : Lock) (w : WorldFields)
    (xs : List (List ℕ)) (given : Given CanBeChosen r l w xs) (ps : List Pick) (are : ArePicks l w xs ps) where
  flags : AreFlags (Walk l w xs) (routes_of l.packages) are.flags
  flags = flags_from (Walk l w xs) (routes_of l.packages) are.flags are.each are.long

  -- the package of a line
  line_of : (line : Pick) → Contains ps line → (b : Locked) × IsPickOf (Walk l w xs) l.root b (pick_view line)
  line_of line at =
      picks_from (Walk l w xs) l.root l.packages are.flags flags (pick_view line)
      (subst (λ (ts : List Parts). Contains ts (pick_view line)) are.are (contains_map pick_view ps line at))

  -- some node of a line is in the walk
  line_walks : (line : Pick) → Contains ps line → (x : Option (List ℕ)) × Walk l w xs (record { name = line.name; extra = x }, line.version)
  line_walks line at =
      let found = line_of line at in (
        found.1.some.0,
        moved (Walk l w xs) found.0.name line.name found.1.some.0 found.0.version line.version (sym found.1.name) (sym found.1.version) found.1.some.1,
      )

  line_other : (line : Pick) → Contains ps line → line.name ≢ r.project.package.name
  line_other line at same = let found = line_of line at in found.1.other (sym found.1.name ∙ (same ∙ sym given.root))

  -- the nodes of a line are required
  required_by : (line : Pick) → Contains ps line → (x : Option (List ℕ)) → IfSome x (λ z. Contains line.extras.items z)
      → Closure r.catalog r.project l w xs (record { name = line.name; extra = x })
  required_by line at None listed =
      let some = line_walks line at in
      let node : Node = record { name = line.name; extra = some.0 } in
      base_required r l w xs node ((given.sound.closure node).0 (line.version, some.1)) (line_other line at)
  required_by line at (Some x) listed =
      let found = line_of line at in
      let walk = moved (Walk l w xs) found.0.name line.name (Some x) found.0.version line.version (sym found.1.name) (sym found.1.version)
      (found.1.extras x listed) in
      let node : Node = record { name = line.name; extra = Some x } in
      (given.sound.closure node).0 (line.version, walk)

  -- a line has its node's name and extra
  required : (line : Pick) → Contains ps line → (n : Node) → HasNode line n → IsRequired r l w xs n
  required line at n h = (
    λ same. line_other line at (h.name ∙ same),
    subst (λ name. Closure r.catalog r.project l w xs (record { name = name; extra = n.extra })) h.name (required_by line at n.extra h.extra),
  )

  -- the line of a pick that has a node
  line_in : (n : Node) (name : List ℕ) (version : Fields) (extras : List (List ℕ)) → Contains (picks_of l.root l.packages are.flags) (name, version, extras)
      → name ≡ n.name → IfSome n.extra (λ x. Contains extras x) → (line : Pick) × Contains ps line × HasNode line n
  line_in n name version extras listed named extra =
      let parts : Parts = (name, version, extras) in
      let line = contains_from_map pick_view ps parts (subst (λ (ts : List Parts). Contains ts parts) (sym are.are) listed) in
      (line.0, line.1, has_node line.0 n name version extras line.2 named extra)

  -- what is required has a line
  has_line : (n : Node) → IsRequired r l w xs n → (line : Pick) × Contains ps line × HasNode line n
  has_line n h =
      let walk = (given.sound.closure n).1 h.1 in
      let other : n.name ≢ l.root = λ same. h.0 (same ∙ given.root) in
      let stands = stands_in tells l w xs given.well (n, walk.0) walk.1 other in
      let here = moved (Walk l w xs) n.name stands.block.name n.extra walk.0 stands.block.version (sym stands.name) (sym stands.version) walk.1 in
      let found = picks_have (Walk l w xs) l.root l.packages are.flags flags stands.block stands.listed (λ same. other (sym stands.name ∙ same))
      n.extra stands.extra here in
      line_in n stands.block.name stands.block.version found.extras found.listed stands.name found.extra

  one_version : (j k : Pick) → Contains ps j → Contains ps k → j.name ≡ k.name → j.version ≡ k.version
  one_version j k first second same =
      let one = line_walks j first in
      let other = line_walks k second in
      given.sound.one_version (record { name = j.name; extra = one.0 }) (record { name = k.name; extra = other.0 }) j.version k.version one.1 other.1 same

  can_be_chosen : (line : Pick) → Contains ps line → CanBeChosen line.name line.version
  can_be_chosen line at =
      let one = line_walks line at in
      given.chosen (record { name = line.name; extra = one.0 }) line.version one.1 (λ same. line_other line at (same ∙ given.root))

-- ---- what is printed

same_environment : (s t : List ℕ) → (let a : Result Answer Refused = Ok (environment s) in a) ≡ Ok (environment t) → s ≡ t
same_environment s t e = cc

-- the lines that are printed
given_lines : (l : Lock) (m : MachineFields) (words : List (List ℕ)) (o : Option (List ℕ)) (text : List ℕ)
    → GivesFor l m words o (Ok (environment text)) → IsEnvironment l (machine_world l m) (names_of words) text
given_lines l m words None text h =
    subst (IsEnvironment l (machine_world l m) (names_of words)) (sym (same_environment text h.text h.is)) h.lines
given_lines l m words (Some word) text h = absurd (cc)

record IsPrinted (supported : Bool) (l : Lock) (m : MachineFields) (words : List (List ℕ)) (text : List ℕ) : Type 0 where
  holds : supported ≡ true
  lines : IsEnvironment l (machine_world l m) (names_of words) text

printed_where : (supported : Bool) (l : Lock) (m : MachineFields) (words : List (List ℕ)) (text : List ℕ)
    → GivesWhere supported l m words (Ok (environment text)) → IsPrinted supported l m words text
printed_where false l m words text h = absurd (cc)
printed_where true l m words text h = record { holds = refl; lines = given_lines l m words (first_other l words) text h }

-- worlds that agree on the lock have the same lines
agreeing_lines : WalksAgree → (l : Lock) (w v : WorldFields) (xs : List (List ℕ)) (ps : List Pick) → AgreeOnLock l w v → ArePicks l w xs ps
    → ArePicks l v xs ps
agreeing_lines walks l w v xs ps agree h = record {
  flags = h.flags;
  each = λ k s at. let one = h.each k s at in let both = walks l w v xs agree s.0 in ((λ e. both.0 (one.0 e)), (λ z. one.1 (both.1 z)));
  long = h.long;
  are = h.are;
}

-- what is known of a lock for a project: the project is its root, it is for what the project supports, and it is right there
pub record IsRightLock (CanBeChosen : List ℕ → Fields → Type 0) (r : ResolutionFields) (l : Lock) : Type 0 where
  pub root : l.root ≡ r.project.package.name
  pub supported : l.supported ≡ r.project.region
  pub sound : IsSound r.catalog r.project l
  pub well : IsWellFormed l
  pub chosen : (w : WorldFields) (xs : List (List ℕ)) → IsWorld w → supported_by r.project w ≡ true → AreProjectExtras r.project xs
      → (n : Node) (v : Fields) → Walk l w xs (n, v) → n.name ≢ l.root → CanBeChosen n.name v

-- the laws on which the lines rest
pub record LineLaws : Type 0 where
  pub tells : TextTells
  pub walks : WalksAgree
  pub more : MoreAgrees

-- what `env` prints of such a lock lists exactly what is required
pub lists_exactly : LineLaws → (CanBeChosen : List ℕ → Fields → Type 0) (r : ResolutionFields) (l : Lock) → IsRightLock CanBeChosen r l
    → (m : MachineFields) (words : List (List ℕ)) (text : List ℕ) (comparisons : List AtomFields)
    → HasAll comparisons (lock_atoms l) → IsWorld (world_of m comparisons) → AreProjectExtras r.project (names_of words)
    → IsEnvAnswer l m words (Ok (environment text))
    → ListsExactly CanBeChosen (IsRequired r l (world_of m comparisons) (names_of words)) text
lists_exactly laws CanBeChosen r l right m words text comparisons all world extras answers =
    let w = world_of m comparisons in
    let xs = names_of words in
    let agree = laws.more l m comparisons right.well all in
    let prints = printed_where (is_supported_at l (machine_world l m)) l m words text answers in
    let supported : supported_by r.project w ≡ true = subst (λ (t : Plain). tree_holds t w [] ≡ true) right.supported (sym agree.1 ∙ prints.holds) in
    let given : Given CanBeChosen r l w xs =
    record { root = right.root; sound = right.sound w world supported xs extras; well = right.well; chosen = right.chosen w xs world supported extras } in
    let ps = prints.lines.0 in
    let are = agreeing_lines laws.walks l (machine_world l m) w xs ps agree.0 prints.lines.1 in
    record {
      lines = ps;
      are = prints.lines.2;
      nodes = λ n. (
        has_line laws.tells CanBeChosen r l w xs given ps are n,
        λ found. required laws.tells CanBeChosen r l w xs given ps are found.0 found.1 n found.2,
      );
      one_version = one_version laws.tells CanBeChosen r l w xs given ps are;
      can_be_chosen = can_be_chosen laws.tells CanBeChosen r l w xs given ps are;
    }

-- ---- locks that are given

-- what leaves merge into spells its versions as the catalog does
spelled_as : TextTells → (c : Packages) (l : Lock) (w : WorldFields) (xs : List (List ℕ)) → IsWellFormed l → HasCatalogTexts c l
    → (n : Node) (v : Fields) → Walk l w xs (n, v) → n.name ≢ l.root → IsSpelled c n.name v
spelled_as tells c l w xs well texts n v walk other =
    let stands = stands_in tells l w xs well (n, v) walk other in
    let there : List ℕ × Fields = (stands.block.name, stands.block.version) in
    let same : there ≡ (n.name, v) = λ i. (stands.name i, stands.version i) in
    subst (λ (p : List ℕ × Fields). Contains (eligible c p.0) p.1) same (texts stands.block stands.listed)

pub environments_of_locks : LineLaws → MergePromises → LocksAreOfLeaves → LocksAreWellFormed → EnvironmentsOfLocks
environments_of_locks laws merges leaves formed r l forks m words text comparisons is had gives all world extras answers =
    let of = leaves r l forks is gives in
    let well = formed r l forks is had gives in
    let texts = merges.texts r.catalog r.project of.leaves l of.served of.merged in
    lists_exactly laws (IsSpelled r.catalog) r l
    (record {
      root = of.merged.root;
      supported = of.merged.supported;
      sound = merges.sound r.catalog r.project of.leaves l of.served of.merged;
      well = well;
      chosen = λ w xs _ _ _ n v walk other. spelled_as laws.tells r.catalog l w xs well texts n v walk other;
    }) m words text comparisons all world extras answers

-- ---- locks that are verified

-- the version is eligible, up to the order of versions
verified_eligible : (r : ResolutionFields) (l : Lock) → IsSound r.catalog r.project l → (w : WorldFields) (xs : List (List ℕ)) → IsWorld w
    → supported_by r.project w ≡ true → AreProjectExtras r.project xs → (n : Node) (v : Fields) → Walk l w xs (n, v)
    → IsEligible r.catalog n.name v
verified_eligible r l sound w xs world supported extras n v walk = (sound w world supported xs extras).eligible_each n v walk

pub environments_of_verified : LineLaws → VerifiedAreSound → EnvironmentsOfVerified
environments_of_verified laws sound r l m words text comparisons well verifies all world extras answers =
    let right = sound r l well verifies in
    let is = verified_lock r l verifies in
    lists_exactly laws (IsEligible r.catalog) r l
    (record {
      root = is.root.named;
      supported = is.supported;
      sound = right;
      well = well;
      chosen = λ w xs world here extras n v walk other. verified_eligible r l right w xs world here extras n v walk;
    }) m words text comparisons all world extras answers
