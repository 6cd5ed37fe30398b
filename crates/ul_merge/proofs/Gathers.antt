-- Entries and groups that are gathered, one by one.
use Rattle.std.proofs.Common.{◌≡◌, ◌⊎◌, ℕ, suc, ◌<◌, ◌+◌, ◌-◌, List, [], ◌∷◌, ◌++◌, length, get_or, set, map, take, drop, HoldsAt, Bool, true, false, Contains, refl, sym, ap, ap₂, ◌∙◌, subst, inl, inr, ⊎_elim, is_lt, Less, Equal, Greater, arith}
use Rattle.std.proofs.lemmas.List.{drop_all, get_or_default, get_or-take, length-take-le, map-append, set_split, take_more}
use Rattle.std.proofs.lemmas.List.Sorted.{Contains-permutation, IsPermutation-sym, ranks_by, sorted_far}
use Rattle.std.proofs.Math.Seq.{split_at}
use Rattle.std.specs.List.Sorted.{IsPermutation, IsSortedBy}
use Rattle.std.proofs.lemmas.List.Elements.{Contains-append_left, Contains-append_right, Contains-append_cases, Contains-push}
use Rattle.std.specs.Cmp.{IsStrictWeakOrder, IsTotalOrder, tied_itself}
use Rattle.std.specs.Ordering.{ordering_reverse}
use Rattle.std.specs.declared.cmp.Ordering.{Ordering}
use Rattle.ul_lock.specs.Increasing.{Rising}
use Rattle.ul_merge.specs.Gathered.{AreGroups, AreRuns, Bundle, GrowsGroup, HasBundle, HasKey, HasLevel, HasValue, HoldBundles, HasPlace, IsBehind, IsGathered, IsHeld, IsPut, IsRun, IsWithin, JoinsGroup, JoinsLast, OpensGroup, StandsAt, entry_bundle, group_bundle}
use Rattle.ul_merge.specs.declared.gathering.Entry.{Entry}
use Rattle.ul_merge.specs.declared.gathering.Group.{Group}
use Rattle.ul_base.proofs.ForCallers.{contains_cases, contains_first, contains_from_map, contains_later, contains_map, none_in}

only : {A : Type 0} (y x : A) → Contains (y ∷ []) x → x ≡ y
only y x m = ⊎_elim (λ e. e) (λ r. absurd (none_in x r)) (contains_cases y [] x m)

level_from : (o : Ordering) → is_lt o ≡ false → is_lt (ordering_reverse o) ≡ false → o ≡ Equal
level_from Less p q = cc
level_from Equal p q = refl
level_from Greater p q = cc

-- a list of which one element becomes another
middle : {A : Type 0} (front back : List A) (y x : A) → Contains (front ++ y ∷ back) x → Contains front x ⊎ ((x ≡ y) ⊎ Contains back x)
middle front back y x m = ⊎_elim (λ r. inl r) (λ r. inr (contains_cases y back x r)) (Contains-append_cases front (y ∷ back) x m)

beside : {A : Type 0} (front back : List A) (y x : A) → Contains front x ⊎ Contains back x → Contains (front ++ y ∷ back) x
beside front back y x (inl r) = Contains-append_left front (y ∷ back) x r
beside front back y x (inr r) = Contains-append_right front (y ∷ back) x (contains_later y back x r)

at_middle : {A : Type 0} (front back : List A) (y : A) → Contains (front ++ y ∷ back) y
at_middle front back y = Contains-append_right front (y ∷ back) y (contains_first y back)

other : {A : Type 0} (front back : List A) (y z x : A) → Contains (front ++ y ∷ back) x → (x ≡ y) ⊎ Contains (front ++ z ∷ back) x
other front back y z x m = ⊎_elim (λ r. inr (beside front back z x (inl r))) (λ r. ⊎_elim (λ e. inl e) (λ q. inr (beside front back z x (inr q))) r)
    (middle front back y x m)

module _ {K : Type 0} (cmp : K → K → Ordering) (total : IsTotalOrder cmp) where
  -- keys of which neither stands above the other
  levels : (k j : K) → is_lt (cmp k j) ≡ false → is_lt (cmp j k) ≡ false → cmp k j ≡ Equal
  levels k j p q = level_from (cmp k j) p (ap is_lt (sym (total.antisymm j k)) ∙ q)

  -- keys that are level with a third
  level_then : (k j i : K) → cmp k j ≡ Equal → cmp j i ≡ Equal → cmp k i ≡ Equal
  level_then k j i p q = total.congr k j i p ∙ q

module _ {K V : Type 0} (cmp : K → K → Ordering) (total : IsTotalOrder cmp) where
  bundle_left : (bs : List (Bundle K V)) (x : Bundle K V) (k : K) → HasBundle cmp bs k → HasBundle cmp (bs ++ x ∷ []) k
  bundle_left bs x k h = (h.0, Contains-append_left bs (x ∷ []) h.0 h.1, h.2)

  value_left : (bs : List (Bundle K V)) (x : Bundle K V) (k : K) (v : V) → HasValue cmp bs k v → HasValue cmp (bs ++ x ∷ []) k v
  value_left bs x k v h = (h.0, Contains-append_left bs (x ∷ []) h.0 h.1, h.2, h.3)

  -- a new group
  hold_opened : (bs : List (Bundle K V)) (b : Bundle K V) (old new : List (Group K V)) → HoldBundles cmp bs old → OpensGroup cmp old b new → HoldBundles cmp (bs ++ b ∷ []) new
  hold_opened bs b old new h o = subst (HoldBundles cmp (bs ++ b ∷ [])) (sym o.is) (record {
    own = λ g m. ⊎_elim (λ r. bundle_left bs b g.key (h.own g r)) (λ r. (b, Contains-push bs b, sym o.key ∙ ap (λ (x : Group K V). x.key) (sym (only o.group g r))))
        (Contains-append_cases old (o.group ∷ []) g m);
    from = λ g v m n. ⊎_elim (λ r. value_left bs b g.key v (h.from g v r n)) (λ r. from_new g v (only o.group g r) n) (Contains-append_cases old (o.group ∷ []) g m);
    all = λ c v m n. ⊎_elim (λ r. held_left c v (h.all c v r n)) (λ r. held_new c v (only b c r) n) (Contains-append_cases bs (b ∷ []) c m);
  })
    where
      from_new : (g : Group K V) (v : V) → g ≡ o.group → Contains g.values.items v → HasValue cmp (bs ++ b ∷ []) g.key v
      from_new g v is n = (
        b,
        Contains-push bs b,
        ap (λ (k : K). cmp k b.0) (ap (λ (x : Group K V). x.key) is ∙ o.key) ∙ tied_itself total b.0,
        subst (λ (vs : List V). Contains vs v) (ap (λ (x : Group K V). x.values.items) is ∙ o.values) n,
      )

      held_left : (c : Bundle K V) (v : V) → IsHeld cmp old c.0 v → IsHeld cmp (old ++ o.group ∷ []) c.0 v
      held_left c v f = (f.0, Contains-append_left old (o.group ∷ []) f.0 f.1, f.2, f.3)

      held_new : (c : Bundle K V) (v : V) → c ≡ b → Contains c.1 v → IsHeld cmp (old ++ o.group ∷ []) c.0 v
      held_new c v is n = (
        o.group,
        Contains-push old o.group,
        ap₂ cmp o.key (ap (λ (x : Bundle K V). x.0) is) ∙ tied_itself total b.0,
        subst (λ (vs : List V). Contains vs v) (ap (λ (x : Bundle K V). x.1) is ∙ sym o.values) n,
      )

  -- more values in a group whose key is level
  hold_grown : (bs : List (Bundle K V)) (b : Bundle K V) (old new : List (Group K V)) → HoldBundles cmp bs old → JoinsGroup cmp old b new → HoldBundles cmp (bs ++ b ∷ []) new
  hold_grown bs b old new h (j, level) = subst (HoldBundles cmp (bs ++ b ∷ [])) (sym j.after) (record {
    own = λ g m. ⊎_elim (λ is. subst (HasBundle cmp (bs ++ b ∷ [])) (sym (same_key g is)) (bundle_left bs b j.was.key (h.own j.was was_in)))
        (λ r. bundle_left bs b g.key (h.own g (in_old g r))) (other j.front j.back j.now j.was g m);
    from = λ g v m n. ⊎_elim (λ is. from_now g v is n) (λ r. value_left bs b g.key v (h.from g v (in_old g r) n)) (other j.front j.back j.now j.was g m);
    all = λ c v m n. ⊎_elim (λ r. held_old c v (h.all c v r n)) (λ r. held_new c v (only b c r) n) (Contains-append_cases bs (b ∷ []) c m);
  })
    where
      in_old : (g : Group K V) → Contains (j.front ++ j.was ∷ j.back) g → Contains old g
      in_old g m = subst (λ (gs : List (Group K V)). Contains gs g) (sym j.before) m

      was_in : Contains old j.was
      was_in = in_old j.was (at_middle j.front j.back j.was)

      same_key : (g : Group K V) → g ≡ j.now → g.key ≡ j.was.key
      same_key g is = ap (λ (x : Group K V). x.key) is ∙ j.key

      from_now : (g : Group K V) (v : V) → g ≡ j.now → Contains g.values.items v → HasValue cmp (bs ++ b ∷ []) g.key v
      from_now g v is n = ⊎_elim
          (λ q. subst (λ (k : K). HasValue cmp (bs ++ b ∷ []) k v) (sym (same_key g is)) (value_left bs b j.was.key v (h.from j.was v was_in q)))
          (λ q. (b, Contains-push bs b, ap (λ (k : K). cmp k b.0) (same_key g is) ∙ level, q))
          (Contains-append_cases j.was.values.items b.1 v (subst (λ (vs : List V). Contains vs v) (ap (λ (x : Group K V). x.values.items) is ∙ j.values) n))

      now_in : Contains (j.front ++ j.now ∷ j.back) j.now
      now_in = at_middle j.front j.back j.now

      held_old : (c : Bundle K V) (v : V) → IsHeld cmp old c.0 v → IsHeld cmp (j.front ++ j.now ∷ j.back) c.0 v
      held_old c v f = ⊎_elim
          (λ is. (
            j.now,
            now_in,
            ap (λ (k : K). cmp k c.0) (j.key ∙ ap (λ (g : Group K V). g.key) (sym is)) ∙ f.2,
            subst (λ (vs : List V). Contains vs v) (sym j.values) (Contains-append_left j.was.values.items b.1 v
                (subst (λ (g : Group K V). Contains g.values.items v) is f.3)),
          ))
          (λ r. (f.0, r, f.2, f.3))
          (other j.front j.back j.was j.now f.0 (subst (λ (gs : List (Group K V)). Contains gs f.0) j.before f.1))

      held_new : (c : Bundle K V) (v : V) → c ≡ b → Contains c.1 v → IsHeld cmp (j.front ++ j.now ∷ j.back) c.0 v
      held_new c v is n = (
        j.now,
        now_in,
        ap₂ cmp j.key (ap (λ (x : Bundle K V). x.0) is) ∙ level,
        subst (λ (vs : List V). Contains vs v) (sym j.values) (Contains-append_right j.was.values.items b.1 v
            (subst (λ (x : Bundle K V). Contains x.1 v) is n)),
      )

  hold_put : (bs : List (Bundle K V)) (b : Bundle K V) (old new : List (Group K V)) → HoldBundles cmp bs old → IsPut cmp old b new → HoldBundles cmp (bs ++ b ∷ []) new
  hold_put bs b old new h (inl o) = hold_opened bs b old new h o
  hold_put bs b old new h (inr j) = hold_grown bs b old new h j

  -- of none
  pub hold_none : HoldBundles {V = V} cmp [] []
  hold_none = record { own = λ g m. absurd (none_in g m); from = λ g v m n. absurd (none_in g m); all = λ b v m n. absurd (none_in b m) }

module _ {A K V : Type 0} (f : A → Bundle K V) where
  bundles_more : (xs : List A) (i : ℕ) (x : A) → i < length xs → x ≡ get_or xs i x → map f (take (i + 1) xs) ≡ map f (take i xs) ++ f x ∷ []
  bundles_more xs i x lt at = ap (map f) (take_more xs i x lt ∙ ap (λ (y : A). take i xs ++ y ∷ []) (sym at)) ∙ map-append f (take i xs) (x ∷ [])

module _ {K V : Type 0} (cmp : K → K → Ordering) (total : IsTotalOrder cmp) where
  -- a loop over entries
  pub hold_more : (es : List (Entry K V)) (i : ℕ) (e : Entry K V) (old new : List (Group K V)) → i < length es → e ≡ get_or es i e
      → HoldBundles cmp (map entry_bundle (take i es)) old → IsPut cmp old (entry_bundle e) new → HoldBundles cmp (map entry_bundle (take (i + 1) es)) new
  hold_more es i e old new lt at h p = subst (λ (bs : List (Bundle K V)). HoldBundles cmp bs new) (sym (bundles_more entry_bundle es i e lt at))
      (hold_put cmp total (map entry_bundle (take i es)) (entry_bundle e) old new h p)

  rises_behind : (gs : List (Group K V)) (l g : Group K V) → Rising (λ g h. is_lt (cmp g.key h.key)) (gs ++ l ∷ []) → is_lt (cmp l.key g.key) ≡ true
      → Rising (λ g h. is_lt (cmp g.key h.key)) ((gs ++ l ∷ []) ++ g ∷ [])
  rises_behind [] l g r b = (b, (tt, tt))
  rises_behind (x ∷ []) l g r b = (r.0, rises_behind [] l g r.1 b)
  rises_behind (x ∷ y ∷ gs) l g r b = (r.0, rises_behind (y ∷ gs) l g r.1 b)

  -- a group behind increasing ones
  rises_more : (gs : List (Group K V)) (g : Group K V) (k : K) → g.key ≡ k → Rising (λ g h. is_lt (cmp g.key h.key)) gs → IsBehind cmp gs k
      → Rising (λ g h. is_lt (cmp g.key h.key)) (gs ++ g ∷ [])
  rises_more gs g k e r (inl b) = subst (λ (xs : List (Group K V)). Rising (λ g h. is_lt (cmp g.key h.key)) (xs ++ g ∷ [])) (sym b) (tt, tt)
  rises_more gs g k e r (inr b) = subst (λ (xs : List (Group K V)). Rising (λ g h. is_lt (cmp g.key h.key)) (xs ++ g ∷ [])) (sym b.2)
      (rises_behind b.0 b.1 g (subst (Rising (λ g h. is_lt (cmp g.key h.key))) b.2 r) (ap (λ j. is_lt (cmp b.1.key j)) e ∙ b.3))

  -- the last group with the same key
  rises_still : (gs : List (Group K V)) (g h : Group K V) → h.key ≡ g.key → Rising (λ g h. is_lt (cmp g.key h.key)) (gs ++ g ∷ [])
      → Rising (λ g h. is_lt (cmp g.key h.key)) (gs ++ h ∷ [])
  rises_still [] g h e r = (tt, tt)
  rises_still (x ∷ []) g h e r = (ap (λ j. is_lt (cmp x.key j)) e ∙ r.0, (tt, tt))
  rises_still (x ∷ y ∷ gs) g h e r = (r.0, rises_still (y ∷ gs) g h e r.1)

  rises_grown : (old new : List (Group K V)) (b : Bundle K V) (j : GrowsGroup cmp old b new) → j.back ≡ [] → Rising (λ g h. is_lt (cmp g.key h.key)) old
      → Rising (λ g h. is_lt (cmp g.key h.key)) new
  rises_grown old new b j last r = subst (Rising (λ g h. is_lt (cmp g.key h.key))) (sym (j.after ∙ ap (λ (gs : List (Group K V)). j.front ++ j.now ∷ gs) last))
      (rises_still j.front j.was j.now j.key (subst (Rising (λ g h. is_lt (cmp g.key h.key))) (j.before ∙ ap (λ (gs : List (Group K V)). j.front ++ j.was ∷ gs) last) r))

  -- the order of groups
  pub ranked : IsStrictWeakOrder (λ (a b : Group K V). is_lt (cmp a.key b.key))
  ranked = ranks_by total (λ (g : Group K V). g.key)

  above_front : (gs : List (Group K V)) (i : ℕ) (g : Group K V) → IsSortedBy (λ a b. is_lt (cmp a.key b.key)) gs → i < length gs → g ≡ get_or gs i g
      → (x : Group K V) → Contains (take i gs) x → is_lt (cmp g.key x.key) ≡ false
  above_front gs i g sorted lt at x m =
      let long : length (take i gs) ≡ i = length-take-le i gs (omega (arith, lt)) in
      let low : m.0 < i = omega (arith, m.1, long) in
      ap₂ (λ (a b : Group K V). is_lt (cmp a.key b.key)) (at ∙ get_or_default gs i g x lt) (sym m.2 ∙ get_or-take i gs m.0 x low)
      ∙ sorted_far (λ a b. is_lt (cmp a.key b.key)) ranked gs sorted m.0 i x (omega (arith, low)) lt

  -- a bundle of what came before stands no higher
  above_bundle : (gs : List (Group K V)) (i : ℕ) (g : Group K V) (k : K) → IsSortedBy (λ a b. is_lt (cmp a.key b.key)) gs → i < length gs → g ≡ get_or gs i g
      → HasBundle cmp (map group_bundle (take i gs)) k → is_lt (cmp g.key k) ≡ false
  above_bundle gs i g k sorted lt at h =
      let x : (x : Group K V) × Contains (take i gs) x × (h.0 ≡ group_bundle x) = contains_from_map group_bundle (take i gs) h.0 h.1 in
      ap (λ (j : K). is_lt (cmp g.key j)) (sym h.2 ∙ ap (λ (b : Bundle K V). b.0) x.2) ∙ above_front gs i g sorted lt at x.0 x.1

  run_put : (gs : List (Group K V)) (i : ℕ) (g : Group K V) (old new : List (Group K V)) → IsSortedBy (λ a b. is_lt (cmp a.key b.key)) gs → i < length gs → g ≡ get_or gs i g
      → AreRuns cmp (take i gs) old → IsRun cmp old (group_bundle g) new
      → Rising (λ g h. is_lt (cmp g.key h.key)) new × HoldBundles cmp (map group_bundle (take i gs) ++ group_bundle g ∷ []) new
  run_put gs i g old new sorted lt at a (inl o) = (
    subst (Rising (λ g h. is_lt (cmp g.key h.key))) (sym o.0.is) (rises_more old o.0.group g.key o.0.key a.rises o.1),
    hold_opened cmp total (map group_bundle (take i gs)) (group_bundle g) old new a.hold o.0,
  )
  run_put gs i g old new sorted lt at a (inr j) = (
    rises_grown old new (group_bundle g) j.0 j.1 a.rises,
    hold_grown cmp total (map group_bundle (take i gs)) (group_bundle g) old new a.hold (
      j.0,
      levels cmp total j.0.was.key g.key j.2 (above_bundle gs i g j.0.was.key sorted lt at (a.hold.own j.0.was
          (subst (λ (xs : List (Group K V)). Contains xs j.0.was) (sym j.0.before) (at_middle j.0.front j.0.back j.0.was)))),
    ),
  )

  -- a loop over groups in order
  pub run_more : (gs : List (Group K V)) (i : ℕ) (g : Group K V) (old new : List (Group K V)) → IsSortedBy (λ a b. is_lt (cmp a.key b.key)) gs → i < length gs → g ≡ get_or gs i g
      → AreRuns cmp (take i gs) old → IsRun cmp old (group_bundle g) new → AreRuns cmp (take (i + 1) gs) new
  run_more gs i g old new sorted lt at a p =
      let done : Rising (λ g h. is_lt (cmp g.key h.key)) new × HoldBundles cmp (map group_bundle (take i gs) ++ group_bundle g ∷ []) new = run_put gs i g old new sorted lt at a p in
      record { rises = done.0; hold = subst (λ (bs : List (Bundle K V)). HoldBundles cmp bs new) (sym (bundles_more group_bundle gs i g lt at)) done.1 }

  -- of none
  pub no_runs : AreRuns {V = V} cmp [] []
  no_runs = record { rises = tt; hold = hold_none cmp total }

  -- groups in another order, joined
  pub gathered : (es : List (Entry K V)) (gs hs runs : List (Group K V)) → HoldBundles cmp (map entry_bundle es) gs → IsPermutation gs hs → AreRuns cmp hs runs → AreGroups cmp es runs
  gathered es gs hs runs h p r = record {
    rises = r.rises;
    own = λ g m. from_key g (r.hold.own g m);
    from = λ g v m n. from_value g v (r.hold.from g v m n);
    all = λ e m. to_run e (h.all (entry_bundle e) e.value (contains_map entry_bundle es e m) (contains_first e.value []));
  }
    where
      in_gs : (x : Group K V) → Contains hs x → Contains gs x
      in_gs x m = Contains-permutation hs gs x (IsPermutation-sym gs hs p) m

      entry_key : (k : K) → HasBundle cmp (map entry_bundle es) k → HasKey cmp es k
      entry_key k b =
          let e : (e : Entry K V) × Contains es e × (b.0 ≡ entry_bundle e) = contains_from_map entry_bundle es b.0 b.1 in
          (e.0, e.1, ap (λ (x : Bundle K V). x.0) (sym e.2) ∙ b.2)

      from_key : (g : Group K V) → HasBundle cmp (map group_bundle hs) g.key → HasKey cmp es g.key
      from_key g b =
          let x : (x : Group K V) × Contains hs x × (b.0 ≡ group_bundle x) = contains_from_map group_bundle hs b.0 b.1 in
          subst (HasKey cmp es) (ap (λ (y : Bundle K V). y.0) (sym x.2) ∙ b.2) (entry_key x.0.key (h.own x.0 (in_gs x.0 x.1)))

      entry_value : (k : K) (v : V) → HasValue cmp (map entry_bundle es) k v → HasLevel cmp es k v
      entry_value k v b =
          let e : (e : Entry K V) × Contains es e × (b.0 ≡ entry_bundle e) = contains_from_map entry_bundle es b.0 b.1 in
          (e.0, e.1, ap (λ (x : Bundle K V). cmp k x.0) (sym e.2) ∙ b.2, sym (only e.0.value v (subst (λ (x : Bundle K V). Contains x.1 v) e.2 b.3)))

      level_left : (k j : K) (v : V) → cmp k j ≡ Equal → HasLevel cmp es j v → HasLevel cmp es k v
      level_left k j v s l = (l.0, l.1, level_then cmp total k j l.0.key s l.2, l.3)

      from_value : (g : Group K V) (v : V) → HasValue cmp (map group_bundle hs) g.key v → HasLevel cmp es g.key v
      from_value g v b =
          let x : (x : Group K V) × Contains hs x × (b.0 ≡ group_bundle x) = contains_from_map group_bundle hs b.0 b.1 in
          level_left g.key x.0.key v (ap (λ (y : Bundle K V). cmp g.key y.0) (sym x.2) ∙ b.2)
          (entry_value x.0.key v (h.from x.0 v (in_gs x.0 x.1) (subst (λ (y : Bundle K V). Contains y.1 v) x.2 b.3)))

      to_run : (e : Entry K V) → IsHeld cmp gs e.key e.value → IsGathered cmp runs e
      to_run e f =
          let x : IsHeld cmp runs f.0.key e.value = r.hold.all (group_bundle f.0) e.value
          (contains_map group_bundle hs f.0 (Contains-permutation gs hs f.0 p f.1)) f.3 in
          (x.0, x.1, level_then cmp total x.0.key f.0.key e.key x.2 f.2, x.3)

module _ {K V : Type 0} (cmp : K → K → Ordering) where
  -- a new group, by what was pushed
  pub opens : (old new : List (Group K V)) (b : Bundle K V) (g : Group K V) (before given : List V) → new ≡ old ++ g ∷ [] → g.key ≡ b.0 → before ≡ [] → g.values.items ≡ before ++ given
      → given ≡ b.1 → OpensGroup cmp old b new
  opens old new b g before given is k none vs e = record { group = g; is = is; key = k; values = vs ∙ ap₂ ◌++◌ none e }

  abbrev grows : (old : List (Group K V)) (i : ℕ) (b : Bundle K V) (was now : Group K V) (given : List V) → i < length old → was ≡ get_or old i was → now.key ≡ was.key
      → now.values.items ≡ was.values.items ++ given → given ≡ b.1 → GrowsGroup cmp old b (set old i now)
  grows old i b was now given lt at k vs e = record {
    front = take i old;
    was = was;
    now = now;
    back = drop (suc i) old;
    before = split_at old i was lt ∙ ap (λ (g : Group K V). take i old ++ g ∷ drop (suc i) old) (sym at);
    after = set_split old i now lt;
    key = k;
    values = vs ∙ ap (λ (xs : List V). was.values.items ++ xs) e;
  }

  -- more values in the group at a place
  pub joins_at : (old : List (Group K V)) (i : ℕ) (b : Bundle K V) (was now : Group K V) (given : List V) → HasPlace cmp old i b.0 → was ≡ get_or old i was → now.key ≡ was.key
      → now.values.items ≡ was.values.items ++ given → given ≡ b.1 → JoinsGroup cmp old b (set old i now)
  joins_at old i b was now given place at k vs e = (grows old i b was now given place.0 at k vs e, ap (λ (g : Group K V). cmp g.key b.0) at ∙ place.1 was)

  -- and in the last one
  pub joins_last : (old : List (Group K V)) (n : ℕ) (b : Bundle K V) (was now : Group K V) (given : List V) → n ≡ length old → IsWithin cmp old b.0 → was ≡ get_or old (n - 1) was
      → now.key ≡ was.key → now.values.items ≡ was.values.items ++ given → given ≡ b.1 → JoinsLast cmp old b (set old (n - 1) now)
  joins_last old n b was now given long within at k vs e = (
    grows old (n - 1) b was now given (omega (arith, long, within.0)) at k vs e,
    drop_all (suc (n - 1)) old (omega (arith, long)),
    ap (λ (g : Group K V). is_lt (cmp g.key b.0)) (at ∙ ap (λ (m : ℕ). get_or old (m - 1) was) long) ∙ within.1 was,
  )

  last_split : (gs : List (Group K V)) (d : Group K V) → 0 < length gs → gs ≡ take (length gs - 1) gs ++ get_or gs (length gs - 1) d ∷ []
  last_split gs d lt = split_at gs (length gs - 1) d (omega (arith, lt))
      ∙ ap (λ (hs : List (Group K V)). take (length gs - 1) gs ++ get_or gs (length gs - 1) d ∷ hs) (drop_all (suc (length gs - 1)) gs (omega arith))

  -- where a key stands, by the last group
  pub stands : (gs : List (Group K V)) (k : K) (last : Group K V) (o : Ordering) (r : Bool) → (0 < length gs) × HoldsAt (λ g. last ≡ g) gs (length gs - 1) → r ≡ is_lt o → o ≡ cmp last.key k
      → StandsAt cmp gs k r
  stands gs k last o true item t s = inr (
    take (length gs - 1) gs,
    last,
    last_split gs last item.0 ∙ ap (λ (g : Group K V). take (length gs - 1) gs ++ g ∷ []) (sym (item.1 last)),
    ap is_lt (sym s) ∙ sym t,
  )
  stands gs k last o false item t s = (item.0, λ d. ap (λ (g : Group K V). is_lt (cmp g.key k)) (sym (item.1 d)) ∙ (ap is_lt (sym s) ∙ sym t))

  behind_when : (gs : List (Group K V)) (k : K) (r : Bool) → r ≡ true → StandsAt cmp gs k r → IsBehind cmp gs k
  behind_when gs k true e s = s
  behind_when gs k false e s = cc

  within_when : (gs : List (Group K V)) (k : K) (r : Bool) → r ≡ false → StandsAt cmp gs k r → IsWithin cmp gs k
  within_when gs k true e s = cc
  within_when gs k false e s = s

  pub put_behind : (gs old new : List (Group K V)) (b : Bundle K V) (r : Bool) → gs ≡ old → r ≡ true → StandsAt cmp gs b.0 r → OpensGroup cmp old b new → IsRun cmp old b new
  put_behind gs old new b r is t s o = inl (o, subst (λ (xs : List (Group K V)). IsBehind cmp xs b.0) is (behind_when gs b.0 r t s))

  pub put_within : (gs old : List (Group K V)) (k : K) (r : Bool) → gs ≡ old → r ≡ false → StandsAt cmp gs k r → IsWithin cmp old k
  put_within gs old k r is t s = subst (λ (xs : List (Group K V)). IsWithin cmp xs k) is (within_when gs k r t s)
