-- The leaves of the fork answer can be merged, and a refused fork has a world.
use Rattle.std.proofs.Common.{◌≡◌, ◌≢◌, ◌+◌, ◌≤◌, ℕ, suc, List, [], ◌∷◌, Bool, Vec, Global, length, map, true, false, Option, Some, None, Result, Ok, refl, ap, sym, ◌∙◌, subst, arith}
use Rattle.std.specs.Prelude.{All}
use Rattle.std.specs.List.{AllByRecursion}
use Rattle.std.proofs.lemmas.List.Elements.{All-cons, All-nil}
use Rattle.ul_comparison.specs.Worlds.{WorldFields, IsWorld}
use Rattle.ul_nodes.specs.Plain.{Plain, truth}
use Rattle.ul_tree.specs.Paths.{is_printable}
use Rattle.ul_tree.specs.Regions.{NoExtra, region_of}
use Rattle.ul_tree.specs.Sample.{HoldsSomewhere}
use Rattle.ul_tree.specs.Values.{tree_holds}
use Rattle.ul_algebra.specs.Spelled.{tree_of}
use Rattle.ul_index.specs.Regions.{HasWorld}
use Rattle.ul_problem.specs.declared.step.Step.{Step}
use Rattle.ul_region.specs.Truths.{DiagramMark, PassView, IsRegion}
use Rattle.ul_generations.specs.declared.answers.Forked.TheVariants.{Leaves, Refused}
use Rattle.ul_generations.specs.declared.outcomes.Outcome.TheVariants.{Split}
use Rattle.ul_generations.specs.Laws.{holders, one_if}
use Rattle.ul_generations.specs.Maps.{leaf_seen}
use Rattle.ul_generations.specs.Generations.{leaves_are, refused_at}
use Rattle.ul_forks.specs.Headline.{ForkLaws, IsAnswer, IsLeaf as IsForkLeaf, TreeLeaf, TreeRefusal}
use Rattle.ul_forks.specs.Outcome.{IsOutcome, Question}
use Rattle.ul_sound.specs.Leaves.{Begins}
use Rattle.ul_merge.specs.Merging.{AreLeaves, IsLeaf}
use Rattle.ul_merge.specs.Over.{IsMergedOrOver}
use Rattle.ul_merge.specs.Views.{ForkLeaf, leaf_of}
use Rattle.ul_sound.specs.Merged.{IsMergedLock}
use Rattle.ul_lock.specs.declared.parts.Lock.{Lock}
use Rattle.ul_answers.specs.Answer.{Answer, locked, no_selection, unwritten}
use Rattle.ul_commands.specs.Locking.{AreCoreLines, IsLockAnswer, RefusedWhere, answer_of, answer_where, leaf_fields}
use Rattle.ul_inputs.specs.Resolutions.{IsResolution, ResolutionFields}
use Rattle.ul_commands.specs.Forking.{AreForksOf}
use Rattle.ul_commands.specs.Questions.{question_of}
use Rattle.ul_generations.proofs.ForCallers.{each_leaf, refused_has}

-- both parts of a split region with a world have one
parts_have : ForkLaws → (q : Question) (t a b : Plain) → IsOutcome q t (Split a b) → HasWorld (region_of t)
    → HasWorld (region_of a) × HasWorld (region_of b)
parts_have laws q t a b split had = (laws.cut q t a b split).have_worlds had

-- the regions of leaves have worlds
pub leaves_have_worlds : ForkLaws → (q : Question) (region : Plain) (counts : List ℕ) (ls : List TreeLeaf) → HasWorld (region_of region)
    → IsAnswer q region counts (leaves_are ls) → AllByRecursion (λ (l : TreeLeaf). HasWorld (region_of l.region)) ls
leaves_have_worlds laws q region counts ls had h =
    each_leaf (IsOutcome q) (λ t. HasWorld (region_of t)) (parts_have laws q) region counts ls had h

-- a refused region has one
pub refused_has_world : ForkLaws → (q : Question) (region : Plain) (counts : List ℕ) (r : TreeRefusal) → HasWorld (region_of region)
    → IsAnswer q region counts (refused_at r) → HasWorld (region_of r.region)
refused_has_world laws q region counts r had h =
    refused_has (IsOutcome q) (λ t. HasWorld (region_of t)) (parts_have laws q) region counts r had h

-- a tree with a world isn't false
pub not_false : (t : Plain) → HasWorld (region_of t) → t ≢ truth false
not_false t had is = let bad : tree_holds (truth false) had.0 [] ≡ true = subst (λ x. tree_holds x had.0 [] ≡ true) is had.2 in absurd (cc)

-- a leaf's worlds are the region's
abbrev pub IsInside : Plain → TreeLeaf → Type 0
IsInside region l = (w : WorldFields) → IsWorld w → region_of l.region w ≡ true → region_of region w ≡ true

-- what has at most the number of one truth, and 1, is that truth
one_is : (b : Bool) → 1 ≤ one_if b → b ≡ true
one_is true h = refl
one_is false h = absurd (omega (arith, h))

-- leaves of which at most one holds at a world, and only where the region does, are inside it
pub all_inside : (region : Plain) (ls : List TreeLeaf)
    → ((w : WorldFields) → IsWorld w → holders (λ t. region_of t w) (map (λ (l : TreeLeaf). l.region) ls) ≤ one_if (region_of region w))
    → AllByRecursion (IsInside region) ls
all_inside region [] most = tt
all_inside region (l ∷ ls) most = (
  λ w is holds. one_is (region_of region w)
      (let all = most w is in let one : one_if (region_of l.region w) ≡ 1 = ap one_if holds in omega (arith, all, one)),
  all_inside region ls (λ w is. let all = most w is in omega (arith, all)),
)

-- the leaf of marks, as one of trees
abbrev pub tree_leaf : ForkLeaf → TreeLeaf
tree_leaf l = leaf_seen tree_of (λ d. d.items) l

-- a leaf that can be merged
merges : (r : ResolutionFields) (h : PassView) (l : ForkLeaf) → IsRegion h l.region → IsForkLeaf (question_of r) (tree_leaf l)
    → HasWorld (region_of (tree_of l.region)) → IsInside r.project.region (tree_leaf l) → IsLeaf h r.catalog r.project l
merges r h l known leaf had inside = record {
  known = known.diagram;
  region = known.truth;
  not_false = not_false (tree_of l.region) had;
  inside = inside;
  starts_in = leaf.serves_whole.starts_in;
  eligible_in = leaf.serves_whole.eligible_in;
}

all_merge : (r : ResolutionFields) (h : PassView) (ls : List ForkLeaf)
    → AllByRecursion (λ (l : ForkLeaf). IsRegion h l.region × Unit {0}) ls
    → AllByRecursion (IsForkLeaf (question_of r)) (map tree_leaf ls)
    → AllByRecursion (λ (l : TreeLeaf). HasWorld (region_of l.region)) (map tree_leaf ls)
    → AllByRecursion (IsInside r.project.region) (map tree_leaf ls)
    → All (IsLeaf h r.catalog r.project) ls
all_merge r h [] known leaves had inside = All-nil (IsLeaf h r.catalog r.project)
all_merge r h (l ∷ ls) known leaves had inside =
    All-cons (IsLeaf h r.catalog r.project) l ls (merges r h l known.0.0 leaves.0 had.0 inside.0) (all_merge r h ls known.1 leaves.1 had.1 inside.1)

-- the catalog begins with the project
pub begins : (r : ResolutionFields) → IsResolution r → Begins r.catalog r.project.package.name
begins r is = record { first = is.first; rest = is.others; is = is.begins; named = is.named; one = ap length is.one }

-- the supported region has a world
pub supported_has_world : HoldsSomewhere → NoExtra → (r : ResolutionFields) → IsResolution r → HasWorld (region_of r.project.region)
supported_has_world somewhere no_extra r is =
    let t = r.project.region in
    let found = somewhere.without_extra t is.project.region.reduced is.project.some (no_extra.region t is.project.region) in
    (found.0, found.1, found.2 [], refl)

-- the leaves of a fork answer of marks can be merged
pub leaves_merge : ForkLaws → HoldsSomewhere → NoExtra → (r : ResolutionFields) (h : PassView) (leaves : Vec ForkLeaf Global)
    → IsResolution r → AreForksOf r h (Leaves leaves) → AreLeaves h r.catalog r.project leaves.items
leaves_merge laws somewhere no_extra r h leaves is forks =
    let q = question_of r in
    let region = r.project.region in
    let ls = map tree_leaf leaves.items in
    let counts = forks.is_answer.counts in
    let answer : IsAnswer q region counts (leaves_are ls) = forks.is_answer.answer in
    let all = laws.forks q region in
    let had = leaves_have_worlds laws q region counts ls (supported_has_world somewhere no_extra r is) answer in
    let part = all.part counts ls answer in
    record {
      begins = begins r is;
      each = all_merge r h leaves.items forks.known (all.leaves counts ls answer) had
          (all_inside region ls (λ w world. let e = part w world in omega (arith, e)));
    }

-- the region of a refused fork of marks isn't false
pub refused_not_false : ForkLaws → HoldsSomewhere → NoExtra → (r : ResolutionFields) (h : PassView) (path : List Bool)
    (region : DiagramMark) (steps : List Step) → IsResolution r → AreForksOf r h (Refused path region steps) → tree_of region ≢ truth false
refused_not_false laws somewhere no_extra r h path region steps is forks =
    not_false (tree_of region)
    (refused_has_world laws (question_of r) r.project.region forks.is_answer.counts _ (supported_has_world somewhere no_extra r is) forks.is_answer.answer)

same_leaves : (ls : List ForkLeaf) → map leaf_fields (map tree_leaf ls) ≡ map leaf_of ls
same_leaves [] = refl
same_leaves (l ∷ ls) = ap (λ xs. leaf_of l ∷ xs) (same_leaves ls)

same_number : (ls : List ForkLeaf) → length (map tree_leaf ls) ≡ length ls
same_number [] = refl
same_number (l ∷ ls) = ap suc (same_number ls)

-- the answer of the lock that leaves merge into
lock_is : (r : ResolutionFields) (h : PassView) (leaves : Vec ForkLeaf Global) (l : Lock) (a : Answer) → AreForksOf r h (Leaves leaves)
    → IsMergedLock r.catalog r.project (map leaf_of leaves.items) l → a ≡ answer_of l (length leaves.items) → IsLockAnswer r (Ok a)
lock_is r h leaves l a forks merged is = record {
  forked = leaves_are (map tree_leaf leaves.items);
  are_forks = forks.is_answer;
  locks = record {
    lock = l;
    merged = subst (λ xs. IsMergedLock r.catalog r.project xs l) (sym (same_leaves leaves.items)) merged;
    is = ap (λ x. Ok x) (is ∙ ap (answer_of l) (sym (same_number leaves.items)));
  };
}

-- where all of its markers are printable the lock is answered
pub locked_answer : (r : ResolutionFields) (h : PassView) (leaves : Vec ForkLeaf Global) (l : Lock) (number : ℕ) → AreForksOf r h (Leaves leaves)
    → IsMergedOrOver r.catalog r.project (map leaf_of leaves.items) (Some l) → number ≡ length leaves.items → IsLockAnswer r (Ok (locked l number))
locked_answer r h leaves l number forks merged is =
    lock_is r h leaves l (locked l number) forks merged.0 (ap (locked l) is ∙ sym (ap (λ o. answer_where o l (length leaves.items)) merged.1))

-- and where not all are, that it isn't written
pub unwritten_answer : (r : ResolutionFields) (h : PassView) (leaves : Vec ForkLeaf Global) → AreForksOf r h (Leaves leaves)
    → IsMergedOrOver r.catalog r.project (map leaf_of leaves.items) None → IsLockAnswer r (Ok unwritten)
unwritten_answer r h leaves forks (l, merged, (paths, over)) =
    lock_is r h leaves l unwritten forks merged (sym (ap (λ o. answer_where o l (length leaves.items)) over))

-- a refused fork is answered, where its region is printable
pub refused_answer : (r : ResolutionFields) (h : PassView) (path : List Bool) (region : DiagramMark) (steps : List Step)
    (lines : List ℕ) → AreForksOf r h (Refused path region steps) → is_printable (tree_of region) ≡ true → AreCoreLines r (tree_of region) lines
    → IsLockAnswer r (Ok (no_selection path (tree_of region) lines))
refused_answer r h path region steps lines forks printable core = record {
  forked = refused_at (record { path = path; region = tree_of region; refusal = tt });
  are_forks = forks.is_answer;
  locks = subst (λ b. RefusedWhere b r (record { path = path; region = tree_of region; refusal = tt }) (Ok (no_selection path (tree_of region) lines)))
      (sym printable) (record { lines = lines; core = core; is = refl });
}
