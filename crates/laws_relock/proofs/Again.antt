-- A lock of one fork is locked again as it is: each name has one version there, which comes first in the order of
-- preference and serves, so each decision takes it.
use Rattle.std.proofs.Common.{◌≡◌, ◌∙◌, ◌⊎◌, ◌≤◌, ◌+◌, ℕ, List, [], ◌∷◌, ◌++◌, map, length, filter, reverse, cond, not, Bool, true, false, Option, Some, None, Contains, Result, Ok, refl, sym, ap, subst, inl, inr, arith, bytes_eq}
use Rattle.std.specs.Prelude.{◌&&◌, ◌||◌}
use Rattle.std.specs.List.{list_any}
use Rattle.std.specs.Cmp.{tied_itself}
use Rattle.std.specs.Ordering.{is_eq}
use Rattle.std.specs.declared.cmp.Ordering.{Ordering}
use Rattle.std.specs.declared.cmp.Ordering.TheVariants.{Equal, Greater, Less}
use Rattle.std.proofs.lemmas.List.Elements.{Contains-append_left}
use Rattle.std.proofs.lemmas.List.Folds.{list_any_at}
use Rattle.std.proofs.lemmas.List.Sorted.{Contains-permutation, IsPermutation-reverse}
use Rattle.std.proofs.lemmas.Slice.Eq.{bytes_eq-Decides}
use Rattle.ul_base.specs.Kept.{IsFirst}
use Rattle.ul_base.specs.declared.node.Node.{Node}
use Rattle.ul_base.proofs.ForCallers.{bytes_eq-same, contains_cases, contains_first, contains_from_map, contains_later, contains_map, first_holds, none_in, only_one, some_is}
use Rattle.ul_version.specs.Fields.{Fields}
use Rattle.ul_version.specs.Order.{version_cmp}
use Rattle.ul_version.proofs.ForCallers.{version_total}
use Rattle.ul_requirement.specs.Fields.{WishFields}
use Rattle.ul_requirement.specs.Truth.{base}
use Rattle.ul_nodes.specs.Plain.{Plain}
use Rattle.ul_tree.specs.Laws.{OneTruthOneTree}
use Rattle.ul_tree.specs.Regions.{IsRegionTree, NoExtra, region_of}
use Rattle.ul_tree.specs.Sample.{HoldsSomewhere}
use Rattle.ul_index.specs.Catalogs.{Packages}
use Rattle.ul_index.specs.Eligible.{eligible}
use Rattle.ul_index.specs.Laws.{EligibleSame, PreferenceSame}
use Rattle.ul_index.specs.Preference.{is_direct, is_kept, is_oldest_first, preference}
use Rattle.ul_index.specs.Regions.{Region}
use Rattle.ul_index.specs.Serves.{Selection, Serves, choice_of}
use Rattle.ul_region.specs.Best.{CanServe, IsBest, IsBestFrom}
use Rattle.ul_generations.specs.Generations.{leaves_are}
use Rattle.ul_generations.specs.Laws.{one_if}
use Rattle.ul_generations.proofs.ForCallers.{each_leaf}
use Rattle.ul_generations.proofs.Reached.{leaves_are_done}
use Rattle.ul_forks.specs.Headline.{ForkLaws, IsAnswer, IsLeaf, TreeLeaf}
use Rattle.ul_forks.specs.Outcome.{IsDone, IsOutcome, Question, starts_of}
use Rattle.ul_project.specs.Fields.{ProjectFields}
use Rattle.ul_lock.specs.declared.parts.Lock.{Lock}
use Rattle.ul_lock.specs.declared.parts.Locked.{Locked}
use Rattle.ul_lock_write.specs.Markers.{first_over, markers_of}
use Rattle.ul_sound.specs.Leaves.{Begins, HasPair, LeafFields}
use Rattle.ul_sound.specs.Merged.{AreForks, IsMergedLock, Pair}
use Rattle.ul_sound.proofs.ForCallers.{only_version}
use Rattle.ul_inputs.specs.Locks.{Kept, kept_of}
use Rattle.ul_inputs.specs.Refused.{Refused}
use Rattle.ul_inputs.specs.Resolutions.{IsResolution, ResolutionFields, resolution_of, wish_of}
use Rattle.ul_answers.specs.Answer.{Answer, locked}
use Rattle.ul_commands.specs.Laws.{LocksArePrintable}
use Rattle.ul_commands.specs.Locking.{IsLockAnswer, answer_where, leaf_fields}
use Rattle.ul_commands.specs.Questions.{question_of}
use Rattle.ul_commands.proofs.ForCallers.{begins, supported_has_world}
use Rattle.laws_commands.proofs.ForCallers.{split_goes}
use Rattle.laws_relock.specs.Again.{LevelAreEqual, OneForkStays}
use Rattle.laws_relock.proofs.Answered.{of_forks}
use Rattle.laws_relock.proofs.Needed.{best_chosen}
use Rattle.laws_relock.proofs.OneLeaf.{done_forked, only_leaf}

-- ---- lists

-- the list begins with the element
abbrev pub Heads : {A : Type 0} → List A → A → Type 0
Heads {A} xs x = (rest : List A) × (xs ≡ x ∷ rest)

module _ {A : Type 0} where
  -- a list that has an element and no other begins with it
  heads : (xs : List A) (x : A) → Contains xs x → ((y : A) → Contains xs y → y ≡ x) → Heads xs x
  heads [] x at same = absurd (none_in x at)
  heads (y ∷ ys) x at same = (ys, ap (λ z. z ∷ ys) (same y (contains_first y ys)))

  heads_more : (xs ys : List A) (x : A) → Heads xs x → Heads (xs ++ ys) x
  heads_more xs ys x h = (h.0 ++ ys, ap (λ zs. zs ++ ys) h.1)

  -- its first element is the first at which something holds that holds of it
  first_of : (P : A → Type 0) (xs : List A) (x : A) → P x → Heads xs x → IsFirst P xs x
  first_of P xs x holds h = subst (λ zs. IsFirst P zs x) (sym h.1) (inl (record { holds = holds; is = refl }))

  module _ (test : A → Bool) where
    kept_now : (y x : A) (ys : List A) (b : Bool) → test y ≡ b → Contains (cond b (y ∷ filter test ys) (filter test ys)) x
        → (Contains (filter test ys) x → Contains ys x × (test x ≡ true)) → Contains (y ∷ ys) x × (test x ≡ true)
    kept_now y x ys false t at later = let rest = later at in (contains_later y ys x rest.0, rest.1)
    kept_now y x ys true t at later = by_cases (contains_cases y (filter test ys) x at)
      where
        by_cases : (x ≡ y) ⊎ Contains (filter test ys) x → Contains (y ∷ ys) x × (test x ≡ true)
        by_cases (inl same) = (subst (Contains (y ∷ ys)) (sym same) (contains_first y ys), ap test same ∙ t)
        by_cases (inr rest) = let more = later rest in (contains_later y ys x more.0, more.1)

    -- what is kept stands in the list and passes
    kept_in : (xs : List A) (x : A) → Contains (filter test xs) x → Contains xs x × (test x ≡ true)
    kept_in [] x at = absurd (none_in x at)
    kept_in (y ∷ ys) x at = kept_now y x ys (test y) refl at (kept_in ys x)

    still_now : (y x : A) (ys : List A) (b : Bool) → test y ≡ b → (x ≡ y) ⊎ Contains ys x → test x ≡ true
        → (Contains ys x → Contains (filter test ys) x) → Contains (cond b (y ∷ filter test ys) (filter test ys)) x
    still_now y x ys true t (inl same) pass later = subst (Contains (y ∷ filter test ys)) (sym same) (contains_first y (filter test ys))
    still_now y x ys false t (inl same) pass later = absurd (let bad : true ≡ false = sym pass ∙ (ap test same ∙ t) in cc)
    still_now y x ys true t (inr rest) pass later = contains_later y (filter test ys) x (later rest)
    still_now y x ys false t (inr rest) pass later = later rest

    -- what passes is kept
    still_in : (xs : List A) (x : A) → Contains xs x → test x ≡ true → Contains (filter test xs) x
    still_in [] x at pass = absurd (none_in x at)
    still_in (y ∷ ys) x at pass = still_now y x ys (test y) refl (contains_cases y ys x at) pass (λ rest. still_in ys x rest pass)

    some_now : (y : A) (ys : List A) (b : Bool) → test y ≡ b → (list_any test ys ≡ true → (x : A) × Contains ys x × (test x ≡ true))
        → (b || list_any test ys) ≡ true → (x : A) × Contains (y ∷ ys) x × (test x ≡ true)
    some_now y ys true t later e = (y, contains_first y ys, t)
    some_now y ys false t later e = let rest = later e in (rest.0, contains_later y ys rest.0 rest.1, rest.2)

    some_passes : (xs : List A) → list_any test xs ≡ true → (x : A) × Contains xs x × (test x ≡ true)
    some_passes [] e = cc
    some_passes (y ∷ ys) e = some_now y ys (test y) refl (some_passes ys) e

both : (a b : Bool) → a ≡ true → b ≡ true → (a && b) ≡ true
both true b e h = h
both false b e h = cc

first_true : (a b : Bool) → (a && b) ≡ true → a ≡ true
first_true true b e = refl
first_true false b e = cc

second_true : (a b : Bool) → (a && b) ≡ true → b ≡ true
second_true true b e = e
second_true false b e = cc

level : (o : Ordering) → is_eq o ≡ true → o ≡ Equal
level Less e = cc
level Equal e = refl
level Greater e = cc

same_text : (a b : List ℕ) → bytes_eq a b ≡ true → a ≡ b
same_text a b e = (bytes_eq-Decides a b).0 e

-- ---- the best selection with other kept versions

module _ (c : Packages) (starts : List Node) (wish other : WishFields) (same : wish.strategy ≡ other.strategy) (R : Region) where
  can_serve : (done : Selection) → CanServe c starts wish R done → CanServe c starts other R done
  can_serve done h = record {
    selection = h.selection;
    serves = subst (λ s. Serves s c starts R h.selection) same h.serves;
    agrees = h.agrees;
  }

  -- it is the same where each decision's version comes first
  best_again : (done ds : Selection) → IsBestFrom c starts wish R done ds
      → ((d : Node × Fields) → Contains ds d → Heads (preference c other d.0.name) d.1) → IsBestFrom c starts other R done ds
  best_again done [] b first = record { needs = b.needs; of_needs = b.of_needs; last = b.last }
  best_again done (d ∷ ds) b first =
      let serving = λ (v : Fields). CanServe c starts wish R (done ++ (d.0, v) ∷ []) in
      record {
        needs = b.needs;
        of_needs = b.of_needs;
        node = b.node;
        version = first_of (λ v. CanServe c starts other R (done ++ (d.0, v) ∷ [])) (preference c other d.0.name) d.1
            (can_serve (done ++ (d.0, d.1) ∷ []) (first_holds serving (preference c wish d.0.name) d.1 b.version))
            (first d (contains_first d ds));
        more = best_again (done ++ d ∷ []) ds b.more (λ x at. first x (contains_later d ds x at));
      }

-- ---- the leaf of a lock of one fork

bool_same : (a b : Bool) → one_if a + 0 ≡ one_if b → a ≡ b
bool_same true true e = refl
bool_same true false e = absurd (omega (arith, e))
bool_same false true e = absurd (omega (arith, e))
bool_same false false e = refl

few_leaves : (s : Plain) (ls : List LeafFields) (ts : List Plain) → AreForks s ls ts → ts ≡ [] → length ls ≤ 1
few_leaves s [] ts h e = omega arith
few_leaves s (l ∷ []) ts h e = omega arith
few_leaves s (l ∷ k ∷ ls) [] h e = absurd h
few_leaves s (l ∷ k ∷ ls) (t ∷ ts) h e = cc

-- one leaf, which has the region
record IsOneLeaf (q : Question) (region : Plain) (ls : List TreeLeaf) : Type 0 where
  leaf : TreeLeaf
  are : ls ≡ leaf ∷ []
  whole : IsLeaf q leaf
  done : IsDone q leaf.region leaf.done
  same : leaf.region ≡ region

module _ (laws : ForkLaws) (one_truth : OneTruthOneTree) (somewhere : HoldsSomewhere) (no_extra : NoExtra) (r : ResolutionFields)
    (is : IsResolution r) where
  abbrev q : Question
  q = question_of r

  abbrev region : Plain
  region = r.project.region

  one_leaf : (counts : List ℕ) (ls : List TreeLeaf) → IsAnswer q region counts (leaves_are ls) → length (map leaf_fields ls) ≤ 1
      → IsOneLeaf q region ls
  one_leaf counts [] answer few =
      let world = supported_has_world somewhere no_extra r is in
      let none = (laws.forks q region).part counts [] answer world.0 world.1 in
      let one : one_if (region_of region world.0) ≡ 1 = ap one_if world.2 in
      absurd (omega (arith, none, one))
  one_leaf counts (k ∷ l ∷ ls) answer few = absurd (omega (arith, few))
  one_leaf counts (leaf ∷ []) answer few =
      let all = laws.forks q region in
      let part = all.part counts (leaf ∷ []) answer in
      let trees = each_leaf (IsOutcome q) IsRegionTree (split_goes q) region counts (leaf ∷ []) is.project.region answer in
      let own : IsRegionTree leaf.region = trees.0 in
      record {
        leaf = leaf;
        are = refl;
        whole = (all.leaves counts (leaf ∷ []) answer).0;
        done = (leaves_are_done (IsOutcome q) region counts (leaf ∷ []) answer).0;
        same = one_truth leaf.region region own.reduced is.project.region.reduced
            (λ w x world ascii extra. own.truth w x world
            ∙ (bool_same (region_of leaf.region w) (region_of region w) (part w world)
            ∙ sym (is.project.region.truth w x world)));
      }

-- ---- its versions come first

module _ (laws : ForkLaws) (eligible_same : EligibleSame) (prefers : PreferenceSame) (p : ProjectFields) (kept : List Kept) (c : Packages)
    (is : IsResolution (resolution_of p kept c)) (levels : LevelAreEqual c) (l : Lock) (leaf : TreeLeaf)
    (whole : IsLeaf (question_of (resolution_of p kept c)) leaf)
    (merged : IsMergedLock c p (leaf_fields leaf ∷ []) l) where
  abbrev after : WishFields
  after = wish_of p (kept_of l)

  chosen : (d : Node × Fields) → Contains leaf.done d → choice_of leaf.done d.0 ≡ Some d.1
  chosen d at = best_chosen c (starts_of (question_of (resolution_of p kept c))) (wish_of p kept) (region_of leaf.region) leaf.done whole.is_best d at

  -- a name has one version
  one_version : (n m : Node) (v u : Fields) → n.name ≡ m.name → choice_of leaf.done n ≡ Some v → choice_of leaf.done m ≡ Some u → v ≡ u
  one_version n m v u e g h =
      some_is (whole.serves_whole.base_in n v g)
      (ap (λ (k : List ℕ). choice_of leaf.done (base k)) e ∙ whole.serves_whole.base_in m u h)

  -- the version of a package of the lock is the one of its name
  package_version : (b : Locked) (n : Node) (v : Fields) → Contains l.packages b → b.name ≡ n.name → choice_of leaf.done n ≡ Some v
      → b.version ≡ v
  package_version b n v listed e g =
      let pair : HasPair (leaf_fields leaf ∷ []) b.name b.version = merged.packages.wanted b listed in
      let own = only_one (leaf_fields leaf) pair.2.0 pair.2.1 in
      one_version pair.0 n b.version v (pair.1 ∙ e) (subst (λ (k : LeafFields). choice_of k.picks pair.0 ≡ Some b.version) own pair.2.2) g

  abbrev is_other : Locked → Bool
  is_other b = not (bytes_eq b.name l.root)

  abbrev key : Locked → Kept
  key b = (b.name, b.version)

  abbrev has : List ℕ → Fields → Kept → Bool
  has name v k = bytes_eq k.0 name && is_eq (version_cmp k.1 v)

  -- a kept version is that of a package
  kept_version : (n : Node) (v y : Fields) → choice_of leaf.done n ≡ Some v → is_kept after n.name y ≡ true → version_cmp v y ≡ Equal
  kept_version n v y g e =
      let found = some_passes (has n.name y) (kept_of l) e in
      let from = contains_from_map key (filter is_other l.packages) found.0 found.1 in
      let b : Locked = from.0 in
      let listed = (kept_in is_other l.packages b from.1).0 in
      let tests : (bytes_eq b.name n.name && is_eq (version_cmp b.version y)) ≡ true = ap (has n.name y) (sym from.2) ∙ found.2 in
      let named = same_text b.name n.name (first_true (bytes_eq b.name n.name) (is_eq (version_cmp b.version y)) tests) in
      let version = package_version b n v listed named g in
      ap (λ x. version_cmp x y) (sym version)
      ∙ level (version_cmp b.version y) (second_true (bytes_eq b.name n.name) (is_eq (version_cmp b.version y)) tests)

  -- and each version but the root's is kept
  version_kept : (n : Node) (v : Fields) → choice_of leaf.done n ≡ Some v → bytes_eq n.name l.root ≡ false → is_kept after n.name v ≡ true
  version_kept n v g e =
      let block = merged.packages.each (n.name, v) (n, refl, (leaf_fields leaf, contains_first (leaf_fields leaf) [], g)) in
      let b : Locked = block.0 in
      let name : b.name ≡ n.name = ap (λ (i : Pair). i.0) block.2 in
      let version : b.version ≡ v = ap (λ (i : Pair). i.1) block.2 in
      let other : is_other b ≡ true = ap not (ap (λ x. bytes_eq x l.root) name ∙ e) in
      let at = contains_map key (filter is_other l.packages) b (still_in is_other l.packages b block.1 other) in
      let passes : has n.name v (key b) ≡ true =
      both (bytes_eq b.name n.name) (is_eq (version_cmp b.version v)) (ap (λ x. bytes_eq x n.name) name ∙ bytes_eq-same n.name)
      (ap (λ x. is_eq (version_cmp x v)) version ∙ ap is_eq (tied_itself version_total v)) in
      list_any_at (has n.name v) (kept_of l) at.0 (key b) at.1 (ap (has n.name v) at.2 ∙ passes)

  module _ (d : Node × Fields) (at : Contains leaf.done d) where
    abbrev name : List ℕ
    name = d.0.name

    abbrev first_tried : List Fields
    first_tried = filter (is_kept after name) (reverse (eligible c name))

    abbrev then_tried : List Fields
    then_tried = filter (λ v. not (is_kept after name v))
        (cond (is_oldest_first after.mode (is_direct c name)) (eligible c name) (reverse (eligible c name)))

    eligible_version : Contains (eligible c name) d.1
    eligible_version = whole.serves_whole.eligible_in d.0 d.1 (chosen d at)

    all_tried : preference c after name ≡ first_tried ++ then_tried
    unfolding preference
    all_tried = refl

    tried_eligible : (v : Fields) → Contains first_tried v → Contains (eligible c name) v
    tried_eligible v m =
        (prefers c after name v).0
        (subst (λ vs. Contains vs v) (sym all_tried) (Contains-append_left first_tried then_tried v m))

    by_root : (b : Bool) → bytes_eq name l.root ≡ b → Heads (preference c after name) d.1
    by_root true e =
        let root : name ≡ p.package.name = same_text name l.root e ∙ merged.root in
        heads (preference c after name) d.1 ((prefers c after name d.1).1 eligible_version)
        (λ v m. only_version eligible_same c name (subst (Begins c) (sym root) (begins (resolution_of p kept c) is)) v d.1
        ((prefers c after name v).0 m) eligible_version)
    by_root false e =
        subst (λ vs. Heads vs d.1) (sym all_tried)
        (heads_more first_tried then_tried d.1
        (heads first_tried d.1
        (still_in (is_kept after name) (reverse (eligible c name)) d.1
        (Contains-permutation (eligible c name) (reverse (eligible c name)) d.1 (IsPermutation-reverse (eligible c name)) eligible_version)
        (version_kept d.0 d.1 (chosen d at) e))
        (λ v m. sym (levels name d.1 v eligible_version (tried_eligible v m)
        (kept_version d.0 d.1 v (chosen d at) (kept_in (is_kept after name) (reverse (eligible c name)) v m).1)))))

    -- its version comes first
    comes_first : Heads (preference c after name) d.1
    comes_first = by_root (bytes_eq name l.root) refl

-- ---- the lock is answered again

number_one : (o : Option ℕ) (l : Lock) (n : ℕ) → o ≡ None → n ≡ 1 → (let a : Result Answer Refused = Ok (locked l n) in a) ≡ Ok (answer_where o l 1)
number_one o l n none one = λ i. Ok (two i)
  where
    two : locked l n ≡ answer_where o l 1
    two = ap (locked l) one ∙ ap (λ x. answer_where x l 1) (sym none)

-- the laws on which this rests
pub record AgainLaws : Type 0 where
  pub forks : ForkLaws
  pub one_truth : OneTruthOneTree
  pub somewhere : HoldsSomewhere
  pub no_extra : NoExtra
  pub eligible : EligibleSame
  pub preferred : PreferenceSame
  pub printable : LocksArePrintable

pub one_fork_stays : AgainLaws → OneForkStays
one_fork_stays laws p kept c l forks is levels answer alone =
    let r = resolution_of p kept c in
    let of = of_forks r l forks answer in
    let one = one_leaf laws.forks laws.one_truth laws.somewhere laws.no_extra r is of.are_forks.counts of.leaves of.are_forks.answer
    (few_leaves p.region (map leaf_fields of.leaves) l.forks of.merged.forks alone) in
    let leaf = one.leaf in
    let merged : IsMergedLock c p (leaf_fields leaf ∷ []) l =
    subst (λ ls. IsMergedLock c p (map leaf_fields ls) l) one.are of.merged in
    again leaf one.whole merged one.done one.same (of.number ∙ ap length one.are)
  where
    again : (leaf : TreeLeaf) → IsLeaf (question_of (resolution_of p kept c)) leaf → IsMergedLock c p (leaf_fields leaf ∷ []) l
        → IsDone (question_of (resolution_of p kept c)) leaf.region leaf.done → leaf.region ≡ p.region → forks ≡ 1
        → IsLockAnswer (resolution_of p (kept_of l) c) (Ok (locked l forks))
    again leaf whole merged done same number =
        let next = question_of (resolution_of p (kept_of l) c) in
        let best : IsBest c (starts_of next) (wish_of p (kept_of l)) (region_of leaf.region) leaf.done =
        best_again c (starts_of next) (wish_of p kept) (wish_of p (kept_of l)) refl (region_of leaf.region) [] leaf.done done.are.is_best
        (comes_first laws.forks laws.eligible laws.preferred p kept c is levels l leaf whole merged) in
        let there : IsDone next leaf.region leaf.done = record {
          decided = done.decided;
          are = record { is_best = best; are_decided = done.are.are_decided };
          unsplit = done.unsplit;
        } in
        record {
          forked = leaves_are (only_leaf (IsOutcome next) p.region leaf.done ∷ []);
          are_forks = record {
            counts = 1 ∷ [];
            answer = done_forked (IsOutcome next) p.region leaf.done (subst (λ t. IsDone next t leaf.done) same there);
          };
          locks = record {
            lock = l;
            merged = subst (λ t. IsMergedLock c p (record { region = t; picks = leaf.done } ∷ []) l) same merged;
            is = number_one (first_over (markers_of l)) l forks (laws.printable (resolution_of p kept c) l forks answer) number;
          };
        }
