-- The worked examples of verified locks.
use Rattle.std.proofs.Common.{◌≡◌, ◌⊎◌, ◌<◌, ℕ, zero, suc, List, [], ◌∷◌, true, false, Option, Some, None, Contains, refl, sym, ap, ◌∙◌, subst, inl, ⊎_elim, slice_get, arith, Bool, Less, Equal, Greater}
use Rattle.std.specs.Cmp.{tied_itself}
use Rattle.std.specs.declared.cmp.Ordering.{Ordering}
use Rattle.std.proofs.lemmas.Option.{none-some, same_Some}
use Rattle.ul_base.specs.Reached.{begun, led}
use Rattle.ul_base.specs.declared.node.Node.{Node}
use Rattle.ul_base.proofs.ForCallers.{contains_cases, contains_first, contains_later, none_in, only_one}
use Rattle.ul_version.specs.Fields.{Fields}
use Rattle.ul_version.specs.Order.{padded_release, release_cmp, version_cmp}
use Rattle.ul_version.proofs.ForCallers.{version_total}
use Rattle.ul_comparison.specs.Worlds.{WorldFields}
use Rattle.ul_requirement.specs.Fields.{ReleaseFields, RequirementFields}
use Rattle.ul_requirement.specs.Truth.{applies_at, base, meets, targets, true_with}
use Rattle.ul_specifier.specs.Meaning.{meets_clause}
use Rattle.ul_nodes.specs.Plain.{truth}
use Rattle.ul_tree.specs.Sample.{empty_world}
use Rattle.ul_index.specs.Catalogs.{Packages, is_fit, is_fit_in, prereleases_of, release_of, releases_of, requirements, requirements_in}
use Rattle.ul_index.specs.Eligible.{eligible, passing}
use Rattle.ul_lock.specs.declared.parts.Edge.{Edge}
use Rattle.ul_lock.specs.declared.parts.Lock.{Lock}
use Rattle.ul_lock.specs.declared.parts.Locked.{Locked}
use Rattle.ul_lock.specs.Walk.{IsEdgeOf}
use Rattle.ul_sound.specs.Sound.{AreEqual, IsEligible}
use Rattle.ul_verified.specs.Examples.{VerifiedExamples, before_two, bounded, catalog, catalog_of, demo, edge_to, later_catalog, lock_at, lock_of, locked, on_other, on_other_at, one, one_zero, other, project, project_of, release_at, three, two}
use Rattle.ul_verified.specs.Verified.{HasExtra, IsAsked, IsGiven, IsReached, IsReachedOf, IsRequired, IsRight, IsVerified}

same : (v : Fields) → AreEqual v v
same v = tied_itself version_total v

asked : (qs : List RequirementFields) (xs : List (List ℕ)) → IsAsked (project_of qs xs) empty_world
asked qs xs = record { world = record { major = omega arith; minor = omega arith; patch = omega arith; texts = refl; atoms = λ k d lt. absurd (omega (arith, lt)); increasing = tt }; supported = refl }

-- ---- what the catalogs say

eligible_demo : IsEligible catalog demo one
unfolding eligible passing prereleases_of releases_of
eligible_demo = (one, (0, omega arith, refl), same one)

eligible_is : eligible catalog other ≡ one_zero ∷ two ∷ []
unfolding eligible passing prereleases_of releases_of version_cmp release_cmp padded_release
eligible_is = refl

eligible_one : Contains (eligible catalog other) one_zero
eligible_one = subst (λ (vs : List Fields). Contains vs one_zero) (sym eligible_is) (contains_first one_zero (two ∷ []))

eligible_two : Contains (eligible catalog other) two
eligible_two = subst (λ (vs : List Fields). Contains vs two) (sym eligible_is) (contains_later one_zero (two ∷ []) two (contains_first two []))

equal_one : AreEqual one_zero one
unfolding version_cmp release_cmp padded_release
equal_one = refl

demo_release : release_of catalog demo one ≡ Some (release_at one [] (on_other ∷ []))
unfolding release_of releases_of version_cmp release_cmp padded_release
demo_release = refl

release_zero : release_of catalog other one_zero ≡ Some (release_at one_zero [] [])
unfolding release_of releases_of version_cmp release_cmp padded_release
release_zero = refl

release_one : release_of catalog other one ≡ Some (release_at one_zero [] [])
unfolding release_of releases_of version_cmp release_cmp padded_release
release_one = refl

release_two : release_of catalog other two ≡ Some (release_at two [] [])
unfolding release_of releases_of version_cmp release_cmp padded_release
release_two = refl

required_is : (c : Packages) (n : List ℕ) (v : Fields) (r : ReleaseFields) → release_of c n v ≡ Some r → requirements c n v ≡ r.requirements
unfolding requirements
required_is c n v r e = ap requirements_in e

fit_is : (c : Packages) (n : List ℕ) (v : Fields) (r : ReleaseFields) (w : WorldFields) → release_of c n v ≡ Some r → r.python ≡ [] → is_fit c n v w ≡ true
unfolding is_fit
fit_is c n v r w e none = ap (λ o. is_fit_in o w) e ∙ ap (λ ps. is_fit_in (Some (release_at r.version ps [])) w) none

-- ---- locks that are verified

module _ (v : Fields) (counts : IsEligible catalog other v) (r : ReleaseFields) (release : release_of catalog other v ≡ Some r) (any : r.python ≡ []) (asks_none : r.requirements ≡ []) where
  no_edge : (x : Option (List ℕ)) (e : Edge) → IsEdgeOf (locked other v []) x e → ⊥
  no_edge None e i = none_in e i
  no_edge (Some x) e i = none_in i.0 i.1

  first_right : IsRight catalog project (lock_at v) 0 (locked other v [])
  first_right = record {
    counts = counts;
    alone = λ w a k e _ _. absurd (omega (arith, e.before));
    fit = λ w k _. fit_is catalog other v r w release any;
    given = λ w n q t k _ listed _ _. absurd (none_in q (subst (λ qs. Contains qs q) (required_is catalog other v r release ∙ asks_none) listed));
    required = λ w n e k _ i _. absurd (no_edge n.extra e i);
  }

  demo_given : (w : WorldFields) (n : Node) (x : Option (List ℕ)) (q : RequirementFields) (t : Node) → n.extra ≡ x → q ≡ on_other → applies_at q n w ≡ true → Contains (targets q) t
      → IsGiven (locked demo one (edge_to other v ∷ [])) n w q t
  demo_given w n None q t e is holds aimed = record {
    edge = edge_to other v;
    of = subst (λ (y : Option (List ℕ)). IsEdgeOf (locked demo one (edge_to other v ∷ [])) y (edge_to other v)) (sym e) (contains_first (edge_to other v) []);
    holds = refl;
    leads = sym (only_one (base other) t (subst (λ (p : RequirementFields). Contains (targets p) t) is aimed));
    meets = ap (λ (p : RequirementFields). meets p v) is;
  }
  demo_given w n (Some x) q t e is holds aimed = absurd (never (sym (ap (λ (y : Option (List ℕ)). true_with on_other y w) e) ∙ (ap (λ (p : RequirementFields). applies_at p n w) (sym is) ∙ holds)))
    where
      never : false ≡ true → ⊥
      never f = cc

  demo_required : (w : WorldFields) (n : Node) (x : Option (List ℕ)) (e : Edge) → n.extra ≡ x → IsEdgeOf (locked demo one (edge_to other v ∷ [])) x e → IsRequired catalog (locked demo one (edge_to other v ∷ [])) n w e
  demo_required w n None e f i =
      let is : e ≡ edge_to other v = only_one (edge_to other v) e i in
      record {
        requirement = on_other;
        listed = subst (λ qs. Contains qs on_other) (sym (required_is catalog demo one _ demo_release)) (contains_first on_other []);
        holds = ap (λ (y : Option (List ℕ)). true_with on_other y w) f;
        aimed = subst (λ (d : Edge). Contains (targets on_other) d.target) (sym is) (contains_first (base other) []);
        meets = refl;
      }
  demo_required w n (Some x) e f i = absurd (none_in i.0 i.1)

  second_right : IsRight catalog project (lock_at v) 1 (locked demo one (edge_to other v ∷ []))
  second_right = record {
    counts = eligible_demo;
    alone = λ w a k e _ _. absurd (other_name e.place e.before a e.at e.named);
    fit = λ w k _. fit_is catalog demo one _ w demo_release refl;
    given = λ w n q t k _ listed holds aimed. demo_given w n n.extra q t refl
        (only_one on_other q (subst (λ qs. Contains qs q) (required_is catalog demo one _ demo_release) listed)) holds aimed;
    required = λ w n e k _ i _. demo_required w n n.extra e refl i;
  }
    where
      other_name : (k : ℕ) → k < 1 → (a : Locked) → slice_get (lock_at v).packages k ≡ Some a → a.name ≡ demo → ⊥
      other_name zero lt a at named = not_demo (ap (λ (b : Locked). b.name) (same_Some (locked other v []) a at) ∙ named)
        where
          not_demo : other ≡ demo → ⊥
          not_demo e = cc
      other_name (suc k) lt a at named = omega (arith, lt)

  all_right : (k : ℕ) (b : Locked) → slice_get (lock_at v).packages k ≡ Some b → IsRight catalog project (lock_at v) k b
  all_right zero b at = subst (IsRight catalog project (lock_at v) 0) (same_Some (locked other v []) b at) first_right
  all_right (suc zero) b at = subst (IsRight catalog project (lock_at v) 1) (same_Some (locked demo one (edge_to other v ∷ [])) b at) second_right
  all_right (suc (suc k)) b at = absurd (none-some b at)

  lock_right : IsVerified catalog project (lock_at v)
  lock_right = record {
    root = record {
      named = refl;
      block = locked demo one (edge_to other v ∷ []);
      listed = contains_later (locked other v []) (locked demo one (edge_to other v ∷ []) ∷ []) (locked demo one (edge_to other v ∷ [])) (contains_first (locked demo one (edge_to other v ∷ [])) []);
      is = refl;
      version = (release_at one [] (on_other ∷ []), contains_first _ [], same one);
      extras = λ x m. absurd (none_in x m);
    };
    supported = refl;
    packages = all_right;
  }

-- ---- locks that aren't

-- demo is reached in each lock whose root it is
root_reached : (qs : List RequirementFields) (l : Lock) (es : List Edge) → l.root ≡ demo → Contains l.packages (locked demo one es) → IsReached (project_of qs []) l empty_world (base demo, one)
root_reached qs l es e m = begun (base demo, one) (record { block = locked demo one es; listed = m; named = sym e; at = refl }, (sym e, inl refl))

-- and so is what its edges lead to
target_reached : (qs : List RequirementFields) (l : Lock) (es : List Edge) (v : Fields) → l.root ≡ demo → Contains l.packages (locked demo one es) → Contains es (edge_to other v)
    → IsReached (project_of qs []) l empty_world (base other, v)
target_reached qs l es v e m i = led (base demo, one) (base other, v) (root_reached qs l es e m)
    (edge_to other v, record { from = record { block = locked demo one es; listed = m; named = refl; at = refl }; edge = i }, refl, refl, refl)

lower_one : version_cmp one_zero three ≡ Less
unfolding version_cmp release_cmp padded_release
lower_one = refl

lower_two : version_cmp two three ≡ Less
unfolding version_cmp release_cmp padded_release
lower_two = refl

less_and_equal : (o : Ordering) → o ≡ Less → o ≡ Equal → ⊥
less_and_equal Less e f = cc
less_and_equal Equal e f = cc
less_and_equal Greater e f = cc

other_than_three : (u : Fields) → Contains (one_zero ∷ two ∷ []) u → AreEqual u three → ⊥
other_than_three u m e = ⊎_elim
    (λ q. less_and_equal (version_cmp one_zero three) lower_one (subst (λ (v : Fields). AreEqual v three) q e))
    (λ k. less_and_equal (version_cmp two three) lower_two (subst (λ (v : Fields). AreEqual v three) (only_one two u k) e))
    (contains_cases one_zero (two ∷ []) u m)

none_three : IsEligible catalog other three → ⊥
none_three h = other_than_three h.0 (subst (λ (vs : List Fields). Contains vs h.0) eligible_is h.1) h.2

-- both versions of a, and demo with an edge to each
abbrev both : Lock
both = lock_of (locked other one_zero [] ∷ locked other two [] ∷ locked demo one (edge_to other one_zero ∷ edge_to other two ∷ []) ∷ [])

reached_of : (l : Lock) (es : List Edge) (v : Fields) → l.root ≡ demo → Contains l.packages (locked demo one es) → Contains es (edge_to other v) → (fs : List Edge)
    → IsReachedOf project l empty_world (locked other v fs) (base other)
reached_of l es v e m i fs = record { named = refl; reached = target_reached (on_other ∷ []) l es v e m i }

never_twice : IsVerified catalog project both → ⊥
never_twice v =
    let es = edge_to other one_zero ∷ edge_to other two ∷ [] in
    let d = locked demo one es in
    let m = contains_later (locked other one_zero []) (locked other two [] ∷ d ∷ []) d (contains_later (locked other two []) (d ∷ []) d (contains_first d [])) in
    (v.packages 1 (locked other two []) refl).alone empty_world (locked other one_zero []) (asked (on_other ∷ []) []) (record { place = 0; before = omega arith; at = refl; named = refl })
    (base other, reached_of both es one_zero refl m (contains_first (edge_to other one_zero) (edge_to other two ∷ [])) [])
    (base other, reached_of both es two refl m (contains_later (edge_to other one_zero) (edge_to other two ∷ []) (edge_to other two) (contains_first (edge_to other two) [])) [])

unfit_there : is_fit later_catalog other one_zero empty_world ≡ false
unfolding is_fit release_of releases_of version_cmp release_cmp padded_release meets_clause
unfit_there = refl

never_fit : (b : Bool) → b ≡ false → b ≡ true → ⊥
never_fit true e f = cc
never_fit false e f = cc

never_unfit : IsVerified later_catalog project (lock_at one_zero) → ⊥
never_unfit v =
    let es = edge_to other one_zero ∷ [] in
    let d = locked demo one es in
    never_fit (is_fit later_catalog other one_zero empty_world) unfit_there
    ((v.packages 0 (locked other one_zero []) refl).fit empty_world (asked (on_other ∷ []) [])
    (base other, reached_of (lock_at one_zero) es one_zero refl (contains_later (locked other one_zero []) (d ∷ []) d (contains_first d [])) (contains_first (edge_to other one_zero) []) []))

-- demo without an edge
abbrev bare : Lock
bare = lock_of (locked other one_zero [] ∷ locked demo one [] ∷ [])

never_left_out : IsVerified catalog project bare → ⊥
never_left_out v = none_in on_edge.edge on_edge.of
  where
    d : Locked
    d = locked demo one []

    on_edge : IsGiven (locked demo one []) (base demo) empty_world on_other (base other)
    on_edge = (v.packages 1 d refl).given empty_world (base demo) on_other (base other) (asked (on_other ∷ []) [])
        (record { named = refl; reached = root_reached (on_other ∷ []) bare [] refl (contains_later (locked other one_zero []) (d ∷ []) d (contains_first d [])) })
        (subst (λ qs. Contains qs on_other) (sym (required_is catalog demo one _ demo_release)) (contains_first on_other [])) refl (contains_first (base other) [])

-- demo with an edge to a version that it refuses by its second requirement
abbrev refused : Lock
refused = lock_at two

bounded_release : release_of (catalog_of bounded) demo one ≡ Some (release_at one [] bounded)
unfolding release_of releases_of version_cmp release_cmp padded_release
bounded_release = refl

not_before_two : meets (on_other_at (before_two ∷ [])) two ≡ false
unfolding meets_clause version_cmp release_cmp padded_release
not_before_two = refl

never_too_new : IsVerified (catalog_of bounded) (project_of bounded []) refused → ⊥
never_too_new v = never_fit (meets second two) not_before_two (ap (λ (e : Edge). meets second e.version) (sym (only_one (edge_to other two) on_edge.edge on_edge.of)) ∙ on_edge.meets)
  where
    second : RequirementFields
    second = on_other_at (before_two ∷ [])

    d : Locked
    d = locked demo one (edge_to other two ∷ [])

    on_edge : IsGiven d (base demo) empty_world second (base other)
    on_edge = (v.packages 1 d refl).given empty_world (base demo) second (base other) (asked bounded [])
        (record { named = refl; reached = root_reached bounded refused (edge_to other two ∷ []) refl (contains_later (locked other two []) (d ∷ []) d (contains_first d [])) })
        (subst (λ qs. Contains qs second) (sym (required_is (catalog_of bounded) demo one _ bounded_release)) (contains_later on_other (second ∷ []) second (contains_first second []))) refl (contains_first (base other) [])

-- a with an edge to demo
abbrev fuller : Lock
fuller = lock_of (locked other one_zero (edge_to demo one ∷ []) ∷ locked demo one (edge_to other one_zero ∷ []) ∷ [])

never_too_many : IsVerified catalog project fuller → ⊥
never_too_many v = none_in asked_for.requirement (subst (λ qs. Contains qs asked_for.requirement) (required_is catalog other one_zero _ release_zero) asked_for.listed)
  where
    a : Locked
    a = locked other one_zero (edge_to demo one ∷ [])

    d : Locked
    d = locked demo one (edge_to other one_zero ∷ [])

    asked_for : IsRequired catalog a (base other) empty_world (edge_to demo one)
    asked_for = (v.packages 0 a refl).required empty_world (base other) (edge_to demo one) (asked (on_other ∷ []) [])
        (reached_of fuller (edge_to other one_zero ∷ []) one_zero refl (contains_later a (d ∷ []) d (contains_first d [])) (contains_first (edge_to other one_zero) []) (edge_to demo one ∷ []))
        (contains_first (edge_to demo one) []) refl

other_name : other ≡ demo → ⊥
other_name e = cc

other_tree : truth false ≡ truth true → ⊥
other_tree e = cc

-- no package lists an extra
never_listed : IsVerified catalog (project_of (on_other ∷ []) (other ∷ [])) (lock_at one_zero) → ⊥
never_listed v =
    let has : HasExtra v.root.block other = v.root.extras other (contains_first other []) in
    ⊎_elim (λ e. none_in has.0 (subst (λ (b : Locked). Contains b.extras has.0) e has.1)) (λ m. none_in has.0 (subst (λ (b : Locked). Contains b.extras has.0) (only_one d v.root.block m) has.1))
    (contains_cases (locked other one_zero []) (d ∷ []) v.root.block v.root.listed)
  where
    d : Locked
    d = locked demo one (edge_to other one_zero ∷ [])

pub examples : VerifiedExamples
examples = record {
  right = lock_right one_zero (one_zero, eligible_one, same one_zero) (release_at one_zero [] []) release_zero refl refl;
  spelled = lock_right one (one_zero, eligible_one, equal_one) (release_at one_zero [] []) release_one refl refl;
  second = lock_right two (two, eligible_two, same two) (release_at two [] []) release_two refl refl;
  other_root = λ v. other_name v.root.named;
  no_extra = never_listed;
  other_worlds = λ v. other_tree v.supported;
  yanked = λ v. none_three (v.packages 0 (locked other three []) refl).counts;
  twice = never_twice;
  unfit = never_unfit;
  left_out = never_left_out;
  too_new = never_too_new;
  too_many = never_too_many;
}
