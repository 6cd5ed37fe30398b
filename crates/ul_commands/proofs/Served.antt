-- The leaves of the fork answer serve the supported region, so that their lock is right; and nothing serves a refused fork.
use Rattle.std.proofs.Common.{◌≡◌, ◌∙◌, ◌⊎◌, ◌+◌, ◌<◌, ◌≤◌, ℕ, zero, suc, List, [], ◌∷◌, Bool, true, false, length, map, Result, Ok, Err, refl, ap, sym, subst, arith, inl, inr}
use Rattle.std.specs.Prelude.{Contains}
use Rattle.std.specs.List.{AllByRecursion}
use Rattle.std.proofs.lemmas.Bool.{cases_Bool}
use Rattle.ul_comparison.specs.Worlds.{WorldFields, IsWorld}
use Rattle.ul_lock.specs.declared.parts.Lock.{Lock}
use Rattle.ul_lock_write.specs.Markers.{first_over, markers_of}
use Rattle.ul_nodes.specs.Plain.{Plain}
use Rattle.ul_tree.specs.Paths.{is_printable}
use Rattle.ul_tree.specs.Regions.{NoExtra, region_of}
use Rattle.ul_tree.specs.Sample.{HoldsSomewhere}
use Rattle.ul_requirement.specs.declared.wish.Strategy.TheVariants.{Deep}
use Rattle.ul_index.specs.Serves.{Selection, ServesWhole}
use Rattle.ul_split.specs.Worlds.{ServesAt}
use Rattle.ul_generations.specs.Laws.{holders, one_if}
use Rattle.ul_generations.specs.Generations.{leaves_are, refused_at, too_many}
use Rattle.ul_forks.specs.Headline.{ForkLaws, IsAnswer, IsLeaf, TreeAnswer, TreeLeaf, TreeRefusal}
use Rattle.ul_forks.specs.Outcome.{starts_of}
use Rattle.ul_sound.specs.Headline.{AreServed, MergePromises}
use Rattle.ul_sound.specs.Leaves.{AreApart, Begins, Cover, LeafFields, ServeWhole, project_nodes, supported_by, worlds_of}
use Rattle.ul_inputs.specs.Refused.{Refused}
use Rattle.ul_inputs.specs.Resolutions.{IsResolution, ResolutionFields}
use Rattle.ul_answers.specs.Answer as answer
use Rattle.ul_commands.specs.Locking.{IsLockAnswer, LocksFor, leaf_fields}
use Rattle.ul_commands.specs.Laws.{DeepRefusesNone, ForksAreUnserved, IsOfLeaves, IsUnserved, LocksAreOfLeaves, LocksAreSound, RefusedAreUnserved}
use Rattle.ul_commands.specs.Questions.{IsForked, question_of}
use Rattle.ul_commands.proofs.Mergeable.{begins, refused_has_world, supported_has_world}
use Rattle.ul_commands.proofs.Written.{fork_not_locked, lock_not_refused, lock_not_untold, told_region, written_lock}

-- an element of a list is the first or one of the others
contains_cases : {X : Type 0} (x z : X) (xs : List X) → Contains (x ∷ xs) z → (x ≡ z) ⊎ Contains xs z
contains_cases x z xs (zero, lt, e) = inl e
contains_cases x z xs (suc k, lt, e) = inr (k, omega arith, e)

contains_later : {X : Type 0} (x z : X) (xs : List X) → Contains xs z → Contains (x ∷ xs) z
contains_later x z xs at = (suc at.0, omega (arith, at.1), at.2)

-- how many of the leaves have the world
abbrev count_at : WorldFields → List TreeLeaf → ℕ
count_at w ls = holders (λ t. region_of t w) (map (λ (l : TreeLeaf). l.region) ls)

-- where one has it there is one
some_has : (w : WorldFields) (ls : List TreeLeaf) → 1 ≤ count_at w ls
    → (l : LeafFields) × Contains (map leaf_fields ls) l × (worlds_of l w ≡ true)
some_has w [] h = absurd (omega (arith, h))
some_has w (l ∷ ls) h = elim (cases_Bool (region_of l.region w)) [
  | inl holds ↦ (leaf_fields l, (0, omega arith, refl), holds)
  | inr fails ↦
      let none : one_if (region_of l.region w) ≡ 0 = ap one_if fails in
      let found = some_has w ls (omega (arith, h, none)) in
      (found.0, contains_later (leaf_fields l) found.0 (map leaf_fields ls) found.1, found.2)
]

-- a leaf that has it counts
counts : (w : WorldFields) (ls : List TreeLeaf) (l : LeafFields) → Contains (map leaf_fields ls) l → worlds_of l w ≡ true → 1 ≤ count_at w ls
counts w [] l at has = absurd (omega (arith, at.1))
counts w (m ∷ ls) l at has = elim (contains_cases (leaf_fields m) l (map leaf_fields ls) at) [
  | inl same ↦
      let one : one_if (region_of m.region w) ≡ 1 = ap one_if (ap (λ x. worlds_of x w) same ∙ has) in
      omega (arith, one)
  | inr later ↦ let rest = counts w ls l later has in omega (arith, rest)
]

-- where at most one has it, two that have it are one
one_has : (w : WorldFields) (ls : List TreeLeaf) (k l : LeafFields) → count_at w ls ≤ 1 → Contains (map leaf_fields ls) k → Contains (map leaf_fields ls) l
    → worlds_of k w ≡ true → worlds_of l w ≡ true → k ≡ l
one_has w [] k l few at other has had = absurd (omega (arith, at.1))
one_has w (m ∷ ls) k l few at other has had = elim (contains_cases (leaf_fields m) k (map leaf_fields ls) at) [
  | inl first ↦ elim (contains_cases (leaf_fields m) l (map leaf_fields ls) other) [
    | inl second ↦ sym first ∙ second
    | inr later ↦
        let one : one_if (region_of m.region w) ≡ 1 = ap one_if (ap (λ x. worlds_of x w) first ∙ has) in
        let more = counts w ls l later had in absurd (omega (arith, one, more, few))
  ]
  | inr first ↦ elim (contains_cases (leaf_fields m) l (map leaf_fields ls) other) [
    | inl second ↦
        let one : one_if (region_of m.region w) ≡ 1 = ap one_if (ap (λ x. worlds_of x w) second ∙ had) in
        let more = counts w ls k first has in absurd (omega (arith, one, more, few))
    | inr later ↦ one_has w ls k l (omega (arith, few)) first later has had
  ]
]

all_whole : (r : ResolutionFields) (ls : List TreeLeaf) → AllByRecursion (IsLeaf (question_of r)) ls → (l : LeafFields)
    → Contains (map leaf_fields ls) l → ServesWhole r.catalog (project_nodes r.project) (worlds_of l) l.picks
all_whole r [] all l at = absurd (omega (arith, at.1))
all_whole r (m ∷ ls) all l at = elim (contains_cases (leaf_fields m) l (map leaf_fields ls) at) [
  | inl same ↦ subst (λ x. ServesWhole r.catalog (project_nodes r.project) (worlds_of x) x.picks) same all.0.serves_whole
  | inr later ↦ all_whole r ls all.1 l later
]

most_one : (b : Bool) → one_if b ≤ 1
most_one true = omega arith
most_one false = omega arith

-- the leaves of the fork answer serve the supported region
served : ForkLaws → (r : ResolutionFields) (counts : List ℕ) (ls : List TreeLeaf) → IsResolution r
    → IsAnswer (question_of r) r.project.region counts (leaves_are ls) → AreServed r.catalog r.project (map leaf_fields ls)
served laws r counts ls is answer =
    let all = laws.forks (question_of r) r.project.region in
    let part = all.part counts ls answer in
    record {
      project = is.project;
      begins = begins r is;
      cover = λ w world in_region. let e = part w world in
          let one : one_if (region_of r.project.region w) ≡ 1 = ap one_if in_region in
          some_has w ls (omega (arith, e, one));
      apart = λ w k l world at by has had. let e = part w world in
          let few = most_one (region_of r.project.region w) in
          one_has w ls k l (omega (arith, e, few)) at by has had;
      whole = all_whole r ls (all.leaves counts ls answer);
    }

of_leaves : ForkLaws → (r : ResolutionFields) (l : Lock) (n : ℕ) → IsResolution r → (forked : TreeAnswer) (counts : List ℕ)
    → IsAnswer (question_of r) r.project.region counts forked → LocksFor r forked (Ok (answer.locked l n)) → IsOfLeaves r l
of_leaves laws r l n is (leaves_are ls) counts answer h =
    subst (IsOfLeaves r) (sym (written_lock (first_over (markers_of h.lock)) l h.lock n (length ls) h.is))
    (record { leaves = map leaf_fields ls; served = served laws r counts ls is answer; merged = h.merged })
of_leaves laws r l n is (refused_at fork) counts answer h = absurd (fork_not_locked (is_printable fork.region) r fork l n h)
of_leaves laws r l n is (too_many m) counts answer h = absurd (cc)

pub locks_are_of_leaves : ForkLaws → LocksAreOfLeaves
locks_are_of_leaves laws r l n is h = of_leaves laws r l n is h.forked h.are_forks.counts h.are_forks.answer h.locks

pub locks_are_sound : ForkLaws → MergePromises → LocksAreSound
locks_are_sound laws merges r l n is h =
    let of = locks_are_of_leaves laws r l n is h in
    merges.sound r.catalog r.project of.leaves l of.served of.merged

unserved : ForkLaws → HoldsSomewhere → NoExtra → (r : ResolutionFields) → IsResolution r → (fork : TreeRefusal) (counts : List ℕ)
    → IsAnswer (question_of r) r.project.region counts (refused_at fork) → IsUnserved r fork.region
unserved laws somewhere no_extra r is fork counts answer = record {
  world = refused_has_world laws (question_of r) r.project.region counts fork (supported_has_world somewhere no_extra r is) answer;
  none = ((laws.forks (question_of r) r.project.region).refusal counts fork answer).refused;
  at_worlds = ((laws.forks (question_of r) r.project.region).refusal counts fork answer).at_worlds;
}

refused_by : ForkLaws → HoldsSomewhere → NoExtra → (r : ResolutionFields) (path : List Bool) (region : Plain) (core : List ℕ) → IsResolution r → (forked : TreeAnswer) (counts : List ℕ)
    → IsAnswer (question_of r) r.project.region counts forked → LocksFor r forked (Ok (answer.no_selection path region core)) → IsUnserved r region
refused_by laws somewhere no_extra r path region core is (leaves_are ls) counts answer h =
    absurd (lock_not_refused (first_over (markers_of h.lock)) h.lock (length ls) path region core h.is)
refused_by laws somewhere no_extra r path region core is (refused_at fork) counts answer h =
    subst (IsUnserved r) (sym (told_region (is_printable fork.region) r fork path region core h)) (unserved laws somewhere no_extra r is fork counts answer)
refused_by laws somewhere no_extra r path region core is (too_many n) counts answer h = absurd (cc)

pub refused_are_unserved : ForkLaws → HoldsSomewhere → NoExtra → RefusedAreUnserved
refused_are_unserved laws somewhere no_extra r path region core is h =
    refused_by laws somewhere no_extra r path region core is h.forked h.are_forks.counts h.are_forks.answer h.locks

pub forks_are_unserved : ForkLaws → HoldsSomewhere → NoExtra → ForksAreUnserved
forks_are_unserved laws somewhere no_extra r fork is h = unserved laws somewhere no_extra r is fork h.counts h.answer

-- where each world that the project supports has a selection, no fork is refused under `deep`
none_refused : ForkLaws → HoldsSomewhere → NoExtra → (r : ResolutionFields) → IsResolution r → r.wish.strategy ≡ Deep
    → ((w : WorldFields) → IsWorld w → region_of r.project.region w ≡ true → (s : Selection) × ServesAt r.catalog (starts_of (question_of r)) w s)
    → (fork : TreeRefusal) → IsForked r (refused_at fork) → ⊥
none_refused laws somewhere no_extra r is deep each fork forked =
    let found = unserved laws somewhere no_extra r is fork forked.counts forked.answer in
    let w = found.world in
    let inside = ((laws.forks (question_of r) r.project.region).refusal forked.counts fork forked.answer).inside w.0 w.1 w.2 in
    let s = each w.0 w.1 inside in
    found.at_worlds deep w.0 w.1 w.2 s.0 s.1

-- a fork that is told, or isn't, is a refused one
told_refused : (r : ResolutionFields) (path : List Bool) (region : Plain) (core : List ℕ) (f : TreeAnswer)
    → LocksFor r f (Ok (answer.no_selection path region core)) → (fork : TreeRefusal) × (f ≡ refused_at fork)
told_refused r path region core (leaves_are ls) h =
    absurd (lock_not_refused (first_over (markers_of h.lock)) h.lock (length ls) path region core h.is)
told_refused r path region core (refused_at fork) h = (fork, refl)
told_refused r path region core (too_many n) h = absurd (cc)

untold_refused : (r : ResolutionFields) (f : TreeAnswer) → LocksFor r f (Ok answer.untold) → (fork : TreeRefusal) × (f ≡ refused_at fork)
untold_refused r (leaves_are ls) h = absurd (lock_not_untold (first_over (markers_of h.lock)) h.lock (length ls) h.is)
untold_refused r (refused_at fork) h = (fork, refl)
untold_refused r (too_many n) h = absurd (cc)

pub deep_refuses_none : ForkLaws → HoldsSomewhere → NoExtra → DeepRefusesNone
deep_refuses_none laws somewhere no_extra r is deep each = (
  λ path region core h. let found = told_refused r path region core h.forked h.locks in
      none_refused laws somewhere no_extra r is deep each found.0 (subst (IsForked r) found.1 h.are_forks),
  λ h. let found = untold_refused r h.forked h.locks in
      none_refused laws somewhere no_extra r is deep each found.0 (subst (IsForked r) found.1 h.are_forks),
)
