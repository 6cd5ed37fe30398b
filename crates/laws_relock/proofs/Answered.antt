-- A lock that is answered has the files of the documents, and its root lists no other extras than the project's and
-- those that its edges lead to.
use Rattle.std.proofs.Common.{◌≡◌, ◌⊎◌, ℕ, List, [], ◌∷◌, map, length, Option, Some, None, Contains, Result, Ok, sym, ap, subst, inl, inr, arith}
use Rattle.std.specs.List.{AllByRecursion}
use Rattle.ul_base.specs.declared.node.Node.{Node}
use Rattle.ul_base.proofs.ForCallers.{contains_cases, contains_from_map, contains_map, none_in}
use Rattle.ul_version.specs.Fields.{Fields}
use Rattle.ul_requirement.specs.Truth.{base, with_extra}
use Rattle.ul_tree.specs.Paths.{is_printable}
use Rattle.ul_tree.specs.Regions.{region_of}
use Rattle.ul_index.specs.Serves.{choice_of}
use Rattle.ul_region.proofs.ForCallers.{chosen_in}
use Rattle.ul_generations.specs.Generations.{leaves_are, refused_at, too_many}
use Rattle.ul_forks.specs.Headline.{ForkLaws, IsLeaf, TreeAnswer, TreeLeaf}
use Rattle.ul_forks.specs.Outcome.{starts_of}
use Rattle.ul_lock.specs.declared.parts.Lock.{Lock}
use Rattle.ul_lock_write.specs.Markers.{first_over, markers_of}
use Rattle.ul_sound.specs.Leaves.{LeafFields}
use Rattle.ul_sound.specs.Merged.{IsBlock, IsMergedLock, IsTrueEdge, IsWantedExtra}
use Rattle.ul_sound.proofs.ForCallers.{leads_to}
use Rattle.ul_inputs.specs.Refused.{Refused}
use Rattle.ul_inputs.specs.Resolutions.{IsResolution, ResolutionFields}
use Rattle.ul_answers.specs.Answer.{Answer, locked}
use Rattle.ul_commands.specs.Locking.{IsLockAnswer, LocksFor, answer_where, leaf_fields}
use Rattle.ul_commands.specs.Questions.{IsForked, question_of}
use Rattle.ul_commands.proofs.ForCallers.{IsInside, all_inside, fork_not_locked, written_lock}
use Rattle.ul_commands.specs.Relocking.{IsAskedFor, ListsNoOther}
use Rattle.laws_relock.specs.Answered.{FilesAreDocuments, RootsListNoOther}
use Rattle.laws_relock.proofs.Needed.{IsNeededBy, needed}

-- what all of a list are, each is
pub each_of : {A : Type 0} (P : A → Type 0) (xs : List A) → AllByRecursion P xs → (x : A) → Contains xs x → P x
each_of P [] all x at = absurd (none_in x at)
each_of P (y ∷ xs) all x at = by_cases (contains_cases y xs x at) (each_of P xs all.1 x)
  where
    by_cases : (x ≡ y) ⊎ Contains xs x → (Contains xs x → P x) → P x
    by_cases (inl same) on = subst P (sym same) all.0
    by_cases (inr later) on = on later

-- the lock is what the leaves of a fork answer merge into
pub record IsOfForks (r : ResolutionFields) (l : Lock) (forks : ℕ) : Type 0 where
  pub leaves : List TreeLeaf
  pub are_forks : IsForked r (leaves_are leaves)
  pub merged : IsMergedLock r.catalog r.project (map leaf_fields leaves) l
  pub number : forks ≡ length leaves

number_is : (o : Option ℕ) (k l : Lock) (m n : ℕ) → (let a : Result Answer Refused = Ok (locked k m) in a) ≡ Ok (answer_where o l n) → m ≡ n
number_is None k l m n e = cc
number_is (Some paths) k l m n e = absurd (cc)

by_forks : (r : ResolutionFields) (l : Lock) (forks : ℕ) (forked : TreeAnswer) → IsForked r forked
    → LocksFor r forked (Ok (locked l forks)) → IsOfForks r l forks
by_forks r l forks (leaves_are ls) are h = record {
  leaves = ls;
  are_forks = are;
  merged = subst (IsMergedLock r.catalog r.project (map leaf_fields ls))
      (sym (written_lock (first_over (markers_of h.lock)) l h.lock forks (length ls) h.is)) h.merged;
  number = number_is (first_over (markers_of h.lock)) l h.lock forks (length ls) h.is;
}
by_forks r l forks (refused_at fork) are h = absurd (fork_not_locked (is_printable fork.region) r fork l forks h)
by_forks r l forks (too_many n) are h = absurd (cc)

-- a lock that is answered is such
pub of_forks : (r : ResolutionFields) (l : Lock) (forks : ℕ) → IsLockAnswer r (Ok (locked l forks)) → IsOfForks r l forks
of_forks r l forks h = by_forks r l forks h.forked h.are_forks h.locks

pub files_are_documents : FilesAreDocuments
files_are_documents r l forks h b listed =
    let block : IsBlock r.catalog r.project (map leaf_fields (of_forks r l forks h).leaves) b =
    (of_forks r l forks h).merged.packages.right b listed in
    block.files

-- ---- the extras of the root

other_extra : (name own : List ℕ) (x : List ℕ) → with_extra name x ≡ base own → ⊥
other_extra name own x e = let bad : Some x ≡ None = ap (λ (n : Node). n.extra) e in cc

same_extra : (name own x y : List ℕ) → with_extra name x ≡ with_extra own y → x ≡ y
same_extra name own x y e = let same : Some x ≡ Some y = ap (λ (n : Node). n.extra) e in cc

-- a start with an extra has one of the project's
start_extra : (r : ResolutionFields) (name x : List ℕ) → Contains (starts_of (question_of r)) (with_extra name x)
    → Contains r.project.extras x
start_extra r name x at =
    by_cases (contains_cases (base r.project.package.name) (map (with_extra r.project.package.name) r.project.extras) (with_extra name x) at)
  where
    by_cases : (with_extra name x ≡ base r.project.package.name)
        ⊎ Contains (map (with_extra r.project.package.name) r.project.extras) (with_extra name x) → Contains r.project.extras x
    by_cases (inl bad) = absurd (other_extra name r.project.package.name x bad)
    by_cases (inr later) =
        let found = contains_from_map (with_extra r.project.package.name) r.project.extras (with_extra name x) later in
        subst (Contains r.project.extras) (sym (same_extra name r.project.package.name x found.0 found.2)) found.1

module _ (laws : ForkLaws) (r : ResolutionFields) (is : IsResolution r) (l : Lock) (forks : ℕ) (of : IsOfForks r l forks) where
  abbrev leaves : List LeafFields
  leaves = map leaf_fields of.leaves

  leaf_is : (k : TreeLeaf) → Contains of.leaves k → IsLeaf (question_of r) k
  leaf_is = each_of (IsLeaf (question_of r)) of.leaves
      ((laws.forks (question_of r) r.project.region).leaves of.are_forks.counts of.leaves of.are_forks.answer)

  leaf_inside : (k : TreeLeaf) → Contains of.leaves k → IsInside r.project.region k
  leaf_inside =
      let part = (laws.forks (question_of r) r.project.region).part of.are_forks.counts of.leaves of.are_forks.answer in
      each_of (IsInside r.project.region) of.leaves
      (all_inside r.project.region of.leaves (λ w world. let e = part w world in omega (arith, e)))

  -- a chosen extra of the root that isn't one of the project's is asked for by an edge
  chosen_extra : (x : List ℕ) (v : Fields) (k : TreeLeaf) → Contains of.leaves k
      → choice_of k.done (with_extra l.root x) ≡ Some v → Contains r.project.extras x ⊎ IsAskedFor l x
  chosen_extra x v k listed chosen =
      by_cases (needed r.catalog (starts_of (question_of r)) r.wish (region_of k.region) k.done (leaf_is k listed).is_best (with_extra l.root x, v)
      (chosen_in k.done (with_extra l.root x) v chosen))
    where
      asked : IsNeededBy r.catalog (starts_of (question_of r)) r.wish (region_of k.region) k.done (with_extra l.root x) → IsAskedFor l x
      asked need =
          let world = need.by.firm.applied.somewhere in
          let true_there : IsTrueEdge r.catalog leaves need.from (with_extra l.root x, v) world.0 = record {
            leaf = leaf_fields k;
            listed = contains_map leaf_fields of.leaves k listed;
            within = world.2;
            source = need.chosen;
            target = chosen;
            requirement = need.by.requirement;
            applied = need.by.firm.applied;
            aimed = need.by.aimed;
            holds = world.3;
          } in
          let edge = leads_to r.catalog r.project leaves l is.project.region.reduced of.merged need.from (with_extra l.root x, v) world.0 world.1
          (leaf_inside k listed world.0 world.1 world.2) true_there in
          record { from = need.from; edge = edge.0; has = edge.1; leads = edge.3 }

      by_cases : Contains (starts_of (question_of r)) (with_extra l.root x)
          ⊎ IsNeededBy r.catalog (starts_of (question_of r)) r.wish (region_of k.region) k.done (with_extra l.root x)
          → Contains r.project.extras x ⊎ IsAskedFor l x
      by_cases (inl start) = inl (start_extra r l.root x start)
      by_cases (inr need) = inr (asked need)

  lists_no_other : ListsNoOther r.project l
  lists_no_other b y listed named at =
      let block : IsBlock r.catalog r.project leaves b = of.merged.packages.right b listed in
      by_cases (block.extras.wanted y at)
    where
      by_cases : IsWantedExtra r.project leaves b.name b.version y.name → Contains r.project.extras y.name ⊎ IsAskedFor l y.name
      by_cases (inr own) = inl own.1
      by_cases (inl chosen) =
          let found = contains_from_map leaf_fields of.leaves chosen.0 chosen.1 in
          chosen_extra y.name b.version found.0 found.1
          (subst (λ (name : List ℕ). choice_of found.0.done (with_extra name y.name) ≡ Some b.version) named
          (subst (λ (k : LeafFields). choice_of k.picks (with_extra b.name y.name) ≡ Some b.version) found.2 chosen.2))

pub roots_list_no_other : ForkLaws → RootsListNoOther
roots_list_no_other laws r l forks is h = lists_no_other laws r is l forks (of_forks r l forks h)
