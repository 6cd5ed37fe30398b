-- The leaves of a fork answer can be merged, and their lock is well formed.
use Rattle.std.proofs.Common.{◌≡◌, ◌⊎◌, ◌≤◌, ℕ, List, [], ◌∷◌, ◌++◌, Bool, true, false, length, map, Some, Ok, refl, ap, sym, ◌∙◌, subst, arith, inl, inr}
use Rattle.std.specs.Prelude.{Contains, not, is_some, cond}
use Rattle.std.specs.List.{AllByRecursion}
use Rattle.std.specs.Ordering.{is_eq}
use Rattle.std.specs.declared.cmp.Ordering.{Ordering}
use Rattle.std.specs.declared.cmp.Ordering.TheVariants.{Less, Equal, Greater}
use Rattle.std.proofs.lemmas.List.Elements.{Contains-append_cases}
use Rattle.ul_base.specs.Kept.{Kept}
use Rattle.ul_base.specs.Nodes.{node_cmp, node_eq, node_ties}
use Rattle.ul_base.specs.declared.node.Node.{Node}
use Rattle.ul_base.proofs.ForCallers.{contains_cases, contains_first, contains_from_flat, contains_from_map, contains_later, found_in, node_cmp_same}
use Rattle.ul_version.specs.Fields.{Fields}
use Rattle.ul_comparison.specs.Worlds.{WorldFields}
use Rattle.ul_requirement.specs.Fields.{RequirementFields}
use Rattle.ul_requirement.specs.Truth.{targets}
use Rattle.ul_tree.specs.Paths.{is_printable}
use Rattle.ul_tree.specs.Regions.{IsRegionTree, NoExtra, region_of}
use Rattle.ul_tree.specs.Sample.{HoldsSomewhere}
use Rattle.ul_index.specs.Catalogs.{requirements}
use Rattle.ul_index.specs.Regions.{HasWorld, Region}
use Rattle.ul_index.specs.Serves.{Selection, choice_of}
use Rattle.ul_region.specs.Best.{AreJoined, IsBestFrom, Need, needs_of, next}
use Rattle.ul_generations.proofs.ForCallers.{each_leaf}
use Rattle.ul_generations.specs.Laws.{holders, one_if}
use Rattle.ul_generations.specs.Generations.{leaves_are, refused_at, too_many}
use Rattle.ul_forks.specs.Headline.{ForkLaws, IsAnswer, IsLeaf, TreeAnswer, TreeLeaf}
use Rattle.ul_forks.specs.Outcome.{IsOutcome, starts_of}
use Rattle.ul_lock.specs.declared.parts.Lock.{Lock}
use Rattle.ul_lock.specs.WellFormed.{IsWellFormed}
use Rattle.ul_lock_write.specs.Markers.{first_over, markers_of}
use Rattle.ul_report_read.specs.Proofs.{IsNamed}
use Rattle.ul_sound.specs.Headline.{IsLeafOf, IsPick, MergePromises}
use Rattle.ul_sound.specs.Leaves.{LeafFields}
use Rattle.ul_inputs.specs.Resolutions.{IsResolution, ResolutionFields}
use Rattle.ul_answers.specs.Answer as answer
use Rattle.ul_commands.specs.Locking.{LocksFor, leaf_fields}
use Rattle.ul_commands.specs.Questions.{IsForked, question_of}
use Rattle.laws_given.specs.Given.{GivenHasTexts, GivenIsResolution, HasTexts}
use Rattle.ul_commands.proofs.ForCallers.{IsInside, all_inside, begins, leaves_have_worlds, supported_has_world, fork_not_locked, written_lock}
use Rattle.laws_commands.specs.WellFormed.{ForksMerge, GivenAreWellFormed, LocksAreWellFormed}
use Rattle.laws_commands.proofs.Reasons.{not_false, split_goes, start_named}

-- ---- what is chosen has a name

kept_in : {A : Type 0} (P : A → Type 0) (xs ys : List A) (y : A) → Kept P xs ys → Contains ys y → Contains xs y
kept_in P [] ys y kept at = subst (λ zs. Contains zs y) kept at
kept_in P (x ∷ xs) ys y (inl kept) at = by_cases (contains_cases x kept.rest y (subst (λ zs. Contains zs y) kept.is at)) (λ later. kept_in P xs kept.rest y kept.more later)
  where
    by_cases : (y ≡ x) ⊎ Contains kept.rest y → (Contains kept.rest y → Contains xs y) → Contains (x ∷ xs) y
    by_cases (inl same) on = subst (λ z. Contains (x ∷ xs) z) (sym same) (contains_first x xs)
    by_cases (inr later) on = contains_later x xs y (on later)
kept_in P (x ∷ xs) ys y (inr kept) at = contains_later x xs y (kept_in P xs ys y kept.more at)

need_named : (r : ResolutionFields) → HasTexts r → (name : List ℕ) (v : Fields) (q : RequirementFields) (t : Need)
    → Contains (requirements r.catalog name v) q → Contains (needs_of q) t → IsNamed t.node
need_named r texts name v q t listed at =
    let found = contains_from_map (λ (n : Node). record { node = n; specifiers = q.specifiers }) (targets q) t at in
    let both = texts.nodes name v q found.0 listed found.1 in
    subst IsNamed (sym (ap (λ (x : Need). x.node) found.2)) (record { name = both.0; extra = both.1 })

joined_named : (r : ResolutionFields) → HasTexts r → (R : Region) (done : Selection) (ts : List Need) (t : Need)
    → AreJoined r.catalog R done ts → Contains ts t → IsNamed t.node
joined_named r texts R [] ts t joined at = absurd (let no = subst (λ zs. Contains zs t) joined at in omega (arith, no.1))
joined_named r texts R (d ∷ ds) ts t joined at =
    by_cases (Contains-append_cases joined.own joined.rest t (subst (λ zs. Contains zs t) joined.joined at))
    (λ later. joined_named r texts R ds joined.rest t joined.of_rest later)
  where
    by_cases : Contains joined.own t ⊎ Contains joined.rest t → (Contains joined.rest t → IsNamed t.node) → IsNamed t.node
    by_cases (inl own) on =
        let found = contains_from_flat needs_of joined.of_own.firm t (subst (λ zs. Contains zs t) joined.of_own.are own) in
        need_named r texts d.0.name d.1 found.0 t (kept_in _ (requirements r.catalog d.0.name d.1) joined.of_own.firm found.0 joined.of_own.kept found.1) found.2
    by_cases (inr later) on = on later

next_named : (r : ResolutionFields) → HasTexts r → (R : Region) (done : Selection) (ts : List Need) (n : Node) → AreJoined r.catalog R done ts
    → next (starts_of (question_of r)) done ts ≡ Some n → IsNamed n
next_named r texts R done ts n joined e =
    by_cases (Contains-append_cases (starts_of (question_of r)) (map (λ (t : Need). t.node) ts) n (found_in (λ x. not (is_some (choice_of done x))) (starts_of (question_of r) ++ map (λ (t : Need). t.node) ts) n e))
  where
    by_cases : Contains (starts_of (question_of r)) n ⊎ Contains (map (λ (t : Need). t.node) ts) n → IsNamed n
    by_cases (inl start) = start_named r texts n start
    by_cases (inr need) =
        let found = contains_from_map (λ (t : Need). t.node) ts n need in
        subst IsNamed (sym found.2) (joined_named r texts R done ts found.0 joined found.1)

best_named : (r : ResolutionFields) → HasTexts r → (R : Region) (done ds : Selection) → IsBestFrom r.catalog (starts_of (question_of r)) r.wish R done ds
    → (d : Node × Fields) → Contains ds d → IsNamed d.0
best_named r texts R done [] best d at = absurd (omega (arith, at.1))
best_named r texts R done (e ∷ ds) best d at =
    by_cases (contains_cases e ds d at) (best_named r texts R (done ++ e ∷ []) ds best.more d)
  where
    by_cases : (d ≡ e) ⊎ Contains ds d → (Contains ds d → IsNamed d.0) → IsNamed d.0
    by_cases (inl same) on = subst IsNamed (sym (ap (λ (x : Node × Fields). x.0) same)) (next_named r texts R done best.needs e.0 best.of_needs best.node)
    by_cases (inr later) on = on later

is_equal : (o : Ordering) → is_eq o ≡ true → o ≡ Equal
is_equal Less e = absurd (cc e)
is_equal Equal e = refl
is_equal Greater e = absurd (cc e)

same_node : (a b : Node) → node_eq a b ≡ true → a ≡ b
same_node a b e = node_cmp_same a b (is_equal (node_cmp a b) (sym (node_ties a b) ∙ e))

chosen_in : (s : Selection) (n : Node) (v : Fields) → choice_of s n ≡ Some v → (d : Node × Fields) × Contains s d × (d.0 ≡ n)
unfolding choice_of
chosen_in [] n v e = absurd (cc e)
chosen_in (d ∷ s) n v e = by_test (node_eq d.0 n) refl e (chosen_in s n v)
  where
    by_test : (same : Bool) → node_eq d.0 n ≡ same → cond same (Some d.1) (choice_of s n) ≡ Some v
        → (choice_of s n ≡ Some v → (x : Node × Fields) × Contains s x × (x.0 ≡ n)) → (x : Node × Fields) × Contains (d ∷ s) x × (x.0 ≡ n)
    by_test true same e on = (d, contains_first d s, same_node d.0 n same)
    by_test false same e on = let rest = on e in (rest.0, contains_later d s rest.0 rest.1, rest.2)

-- ---- leaves

-- there is a leaf where some region holds
some_leaf : (w : WorldFields) (ls : List TreeLeaf) → 1 ≤ holders (λ t. region_of t w) (map (λ (l : TreeLeaf). l.region) ls)
    → (l : LeafFields) × Contains (map leaf_fields ls) l
some_leaf w [] h = absurd (omega (arith, h))
some_leaf w (l ∷ ls) h = (leaf_fields l, (0, omega arith, refl))

pick_is : (r : ResolutionFields) → HasTexts r → (l : TreeLeaf) → IsLeaf (question_of r) l → (n : Node) (v : Fields) → choice_of l.done n ≡ Some v → IsPick n v
pick_is r texts l leaf n v e =
    let found = chosen_in l.done n v e in
    let named = subst IsNamed found.2 (best_named r texts (region_of l.region) [] l.done leaf.is_best found.0 found.1) in
    record { name = named.name; extra = named.extra; version = texts.versions n.name v (leaf.serves_whole.eligible_in n v e) }

leaf_is : (r : ResolutionFields) → HasTexts r → (l : TreeLeaf) → IsLeaf (question_of r) l → IsRegionTree l.region → HasWorld (region_of l.region)
    → IsInside r.project.region l → IsLeafOf r.catalog r.project (leaf_fields l)
leaf_is r texts l leaf region had inside = record {
  region = region;
  not_false = not_false l.region had;
  inside = inside;
  starts_in = leaf.serves_whole.starts_in;
  eligible_in = leaf.serves_whole.eligible_in;
  picks = pick_is r texts l leaf;
}

leaves_are_such : (r : ResolutionFields) → HasTexts r → (ls : List TreeLeaf) → AllByRecursion (IsLeaf (question_of r)) ls
    → AllByRecursion (λ (l : TreeLeaf). IsRegionTree l.region) ls → AllByRecursion (λ (l : TreeLeaf). HasWorld (region_of l.region)) ls
    → AllByRecursion (IsInside r.project.region) ls → (l : LeafFields) → Contains (map leaf_fields ls) l → IsLeafOf r.catalog r.project l
leaves_are_such r texts [] leaves regions had inside l at = absurd (omega (arith, at.1))
leaves_are_such r texts (m ∷ ls) leaves regions had inside l at =
    by_cases (contains_cases (leaf_fields m) (map leaf_fields ls) l at) (leaves_are_such r texts ls leaves.1 regions.1 had.1 inside.1 l)
  where
    by_cases : (l ≡ leaf_fields m) ⊎ Contains (map leaf_fields ls) l → (Contains (map leaf_fields ls) l → IsLeafOf r.catalog r.project l) → IsLeafOf r.catalog r.project l
    by_cases (inl same) on = subst (IsLeafOf r.catalog r.project) (sym same) (leaf_is r texts m leaves.0 regions.0 had.0 inside.0)
    by_cases (inr later) on = on later

pub forks_merge : ForkLaws → HoldsSomewhere → NoExtra → ForksMerge
forks_merge laws somewhere no_extra r ls is texts forked =
    let q = question_of r in
    let region = r.project.region in
    let counts = forked.counts in
    let answer : IsAnswer q region counts (leaves_are ls) = forked.answer in
    let all = laws.forks q region in
    let world = supported_has_world somewhere no_extra r is in
    let part = all.part counts ls answer in
    record {
      project = is.project;
      begins = begins r is;
      extras = texts.extras;
      some = some_leaf world.0 ls (let e = part world.0 world.1 in let one : one_if (region_of region world.0) ≡ 1 = ap one_if world.2 in omega (arith, e, one));
      each = leaves_are_such r texts ls (all.leaves counts ls answer)
          (each_leaf (IsOutcome q) IsRegionTree (split_goes q) region counts ls is.project.region answer)
          (leaves_have_worlds laws q region counts ls world answer)
          (all_inside region ls (λ w is_world. let e = part w is_world in omega (arith, e)));
      files = texts.files;
    }

-- ---- locks

by_forks : ForksMerge → MergePromises → (r : ResolutionFields) (l : Lock) (n : ℕ) → IsResolution r → HasTexts r → (forked : TreeAnswer)
    → IsForked r forked → LocksFor r forked (Ok (answer.locked l n)) → IsWellFormed l
by_forks merge merges r l n is texts (leaves_are ls) forked h =
    subst IsWellFormed (sym (written_lock (first_over (markers_of h.lock)) l h.lock n (length ls) h.is))
    (merges.well_formed r.catalog r.project (map leaf_fields ls) h.lock (merge r ls is texts forked) h.merged)
by_forks merge merges r l n is texts (refused_at fork) forked h = absurd (fork_not_locked (is_printable fork.region) r fork l n h)
by_forks merge merges r l n is texts (too_many m) forked h = absurd (cc)

pub locks_are_well_formed : ForksMerge → MergePromises → LocksAreWellFormed
locks_are_well_formed merge merges r l n is texts h = by_forks merge merges r l n is texts h.forked h.are_forks h.locks

pub given_are_well_formed : GivenIsResolution → GivenHasTexts → LocksAreWellFormed → GivenAreWellFormed
given_are_well_formed given texts well project folder old workers m l forks (inl h) = absurd h
given_are_well_formed given texts well project folder old workers m l forks (inr h) =
    well h.value l forks (given project folder old m h.value h.gave) (texts project folder old m h.value h.gave) h.answers
