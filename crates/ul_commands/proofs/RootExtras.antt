-- Which extras the root of a lock may list, as the code tests it: by a set of their names.
use Rattle.std.proofs.Common.{◌≡◌, ◌∙◌, ◌⊎◌, ◌+◌, ◌<◌, ℕ, List, [], ◌∷◌, ◌++◌, Bool, true, false, cond, not, ◌||◌, ◌&&◌, flat_map, drop, get_or, length, if◌then◌else◌, bytes_eq, Decides, Option, Some, None, Contains, refl, sym, ap, subst, inl, inr, ⊎_elim}
use Rattle.std.specs.List.{list_all, list_any}
use Rattle.std.specs.Option.{option_to_list}
use Rattle.std.proofs.lemmas.Cmp.{nat_list_eq_equiv}
use Rattle.std.proofs.lemmas.List.{drop_more}
use Rattle.std.proofs.lemmas.List.Elements.{Contains-append_cases, Contains-append_left, Contains-append_right}
use Rattle.std.proofs.lemmas.List.Sums.{fold-append}
use Rattle.std.proofs.lemmas.Map.Views.{Contains-from_any, list_any-from_Contains}
use Rattle.std.proofs.lemmas.Slice.Eq.{bytes_eq-Decides}
use Rattle.indexmap.specs.IndexSet.{insert_all, insert_key}
use Rattle.indexmap.proofs.CallerLemmas.{Contains-insert_key}
use Rattle.ul_base.proofs.ForCallers.{contains_cases, contains_first, contains_flat, contains_from_flat, contains_later, none_in, only_one}
use Rattle.ul_base.specs.declared.node.Node.{Node}
use Rattle.ul_requirement.specs.Truth.{with_extra}
use Rattle.ul_project.specs.Fields.{ProjectFields}
use Rattle.ul_lock.specs.Walk.{IsEdgeOf}
use Rattle.ul_lock.specs.declared.parts.Edge.{Edge}
use Rattle.ul_lock.specs.declared.parts.Extra.{Extra}
use Rattle.ul_lock.specs.declared.parts.Lock.{Lock}
use Rattle.ul_lock.specs.declared.parts.Locked.{Locked}
use Rattle.ul_commands.specs.Relocking.{IsAskedFor, ListsNoOther}
use Rattle.ul_commands.specs.RootExtras.{allowed_extras, are_among, asked_by_edge, asked_by_edges, asked_by_package, package_is_among, root_is_among}

abbrev Names : Type 0
Names = List (List ℕ)

same_bytes : (x y : List ℕ) → bytes_eq x y ≡ true → x ≡ y
same_bytes x y = (bytes_eq-Decides x y).0

-- ---- a set of names

-- what is there behind an insertion was there, or is what was inserted
met : (b : Bool) (ks : Names) (k x : List ℕ) → Contains (if b then ks else ks ++ k ∷ []) x → Contains ks x ⊎ (x ≡ k)
met true ks k x h = inl h
met false ks k x h = ⊎_elim inl (λ m. inr (only_one k x m)) (Contains-append_cases ks (k ∷ []) x h)

-- and what was there stays
still : (b : Bool) (ks : Names) (k x : List ℕ) → Contains ks x → Contains (if b then ks else ks ++ k ∷ []) x
still true ks k x h = h
still false ks k x h = Contains-append_left ks (k ∷ []) x h

from_set : (xs ks : Names) (x : List ℕ) → Contains (insert_all bytes_eq ks xs) x → Contains ks x ⊎ Contains xs x
from_set [] ks x h = inl h
from_set (y ∷ ys) ks x h =
    ⊎_elim (λ m. ⊎_elim inl (λ e. inr (subst (λ z. Contains (y ∷ ys) z) (sym e) (contains_first y ys))) (met (list_any (bytes_eq y) ks) ks y x m))
    (λ m. inr (contains_later y ys x m)) (from_set ys (insert_key bytes_eq ks y) x h)

stays_in : (xs ks : Names) (x : List ℕ) → Contains ks x → Contains (insert_all bytes_eq ks xs) x
stays_in [] ks x h = h
stays_in (y ∷ ys) ks x h = stays_in ys (insert_key bytes_eq ks y) x (still (list_any (bytes_eq y) ks) ks y x h)

into_set : (xs ks : Names) (x : List ℕ) → Contains xs x → Contains (insert_all bytes_eq ks xs) x
into_set [] ks x h = absurd (none_in x h)
into_set (y ∷ ys) ks x h =
    ⊎_elim (λ e. stays_in ys (insert_key bytes_eq ks y) x
    (subst (λ z. Contains (insert_key bytes_eq ks y) z) (sym e) (Contains-insert_key bytes_eq same_bytes ks y)))
    (λ m. into_set ys (insert_key bytes_eq ks y) x m) (contains_cases y ys x h)

-- a name is in the set of names exactly where it is one of them
found : (xs : Names) (x : List ℕ) → list_any (bytes_eq x) (insert_all bytes_eq [] xs) ≡ true → Contains xs x
found xs x h =
    ⊎_elim (λ m. absurd (none_in x m)) (λ m. m) (from_set xs [] x (Contains-from_any same_bytes x (insert_all bytes_eq [] xs) h))

finds : (xs : Names) (x : List ℕ) → Contains xs x → list_any (bytes_eq x) (insert_all bytes_eq [] xs) ≡ true
finds xs x h = list_any-from_Contains nat_list_eq_equiv x (insert_all bytes_eq [] xs) (into_set xs [] x h)

-- what is put in after more is put in with it
pub joined : (was mid now xs ys : Names) → mid ≡ insert_all bytes_eq was xs → now ≡ insert_all bytes_eq mid ys → now ≡ insert_all bytes_eq was (xs ++ ys)
joined was mid now xs ys first second =
    second ∙ ap (λ ks. insert_all bytes_eq ks ys) first ∙ sym (fold-append (insert_key bytes_eq) was xs ys)

-- from a place of a list on, what its element gives is put in first, and then what those behind it give
pub next_in : {A : Type 0} (gives : A → Names) (xs : List A) (i : ℕ) (x : A) (now was : Names) → i < length xs → x ≡ get_or xs i x
    → now ≡ insert_all bytes_eq was (gives x)
    → insert_all bytes_eq now (flat_map gives (drop (i + 1) xs)) ≡ insert_all bytes_eq was (flat_map gives (drop i xs))
next_in gives xs i x now was less at is =
    let next : drop i xs ≡ x ∷ drop (i + 1) xs = drop_more xs i x less ∙ ap (λ y. y ∷ drop (i + 1) xs) (sym at) in
    let rest = flat_map gives (drop (i + 1) xs) in
    ap (λ ks. insert_all bytes_eq ks rest) is
    ∙ sym (ap (λ l. insert_all bytes_eq was (flat_map gives l)) next ∙ fold-append (insert_key bytes_eq) was (gives x) rest)

-- ---- what edges lead to

-- an extra that an edge leads to
from_edge : (b : Bool) (root name x : List ℕ) (o : Option (List ℕ)) → b ≡ bytes_eq name root → Contains (cond b (option_to_list o) []) x
    → (name ≡ root) × (o ≡ Some x)
from_edge true root name x None e h = absurd (none_in x h)
from_edge true root name x (Some y) e h = (same_bytes name root (sym e), ap Some (sym (only_one y x h)))
from_edge false root name x o e h = absurd (none_in x h)

into_edge : (root x : List ℕ) (e : Edge) → e.target ≡ with_extra root x → Contains (asked_by_edge root e) x
into_edge root x e is =
    subst (λ (t : Node). Contains (cond (bytes_eq t.name root) (option_to_list t.extra) []) x) (sym is)
    (subst (λ b. Contains (cond b (x ∷ []) []) x) (sym ((bytes_eq-Decides root root).1 refl)) (contains_first x []))

target_is : (root x : List ℕ) (e : Edge) → Contains (asked_by_edge root e) x → e.target ≡ with_extra root x
target_is root x e h =
    let both = from_edge (bytes_eq e.target.name root) root e.target.name x e.target.extra refl h in
    λ i. record { name = both.0 i; extra = both.1 i }

module _ (l : Lock) (x : List ℕ) (b : Locked) (listed : Contains l.packages b) where
  -- an edge of a package or of one of its extras leads to the extra
  asked_from : (o : Option (List ℕ)) (es : List Edge) → ((e : Edge) → Contains es e → IsEdgeOf b o e) → Contains (asked_by_edges l.root es) x
      → IsAskedFor l x
  asked_from o es of h =
      let at = contains_from_flat (asked_by_edge l.root) es x h in record {
        from = (record { name = b.name; extra = o }, b.version);
        edge = at.0;
        has = record { from = record { block = b; listed = listed; named = refl; at = refl }; edge = of at.0 at.1 };
        leads = target_is l.root x at.0 at.2;
      }

  asked_in : Contains (asked_by_package l.root b) x → IsAskedFor l x
  asked_in h =
      ⊎_elim (asked_from None b.edges (λ e m. m))
      (λ m. let at = contains_from_flat (λ (y : Extra). asked_by_edges l.root y.edges) b.extras x m in
      asked_from (Some at.0.name) at.0.edges (λ e n. (at.0, at.1, refl, n)) at.2)
      (Contains-append_cases (asked_by_edges l.root b.edges) (flat_map (λ (y : Extra). asked_by_edges l.root y.edges) b.extras) x h)

  in_package : (o : Option (List ℕ)) (e : Edge) → IsEdgeOf b o e → e.target ≡ with_extra l.root x → Contains (asked_by_package l.root b) x
  in_package None e of is =
      Contains-append_left (asked_by_edges l.root b.edges) (flat_map (λ (y : Extra). asked_by_edges l.root y.edges) b.extras) x
      (contains_flat (asked_by_edge l.root) b.edges e x of (into_edge l.root x e is))
  in_package (Some name) e of is =
      Contains-append_right (asked_by_edges l.root b.edges) (flat_map (λ (y : Extra). asked_by_edges l.root y.edges) b.extras) x
      (contains_flat (λ (y : Extra). asked_by_edges l.root y.edges) b.extras of.0 x of.1
      (contains_flat (asked_by_edge l.root) of.0.edges e x of.3 (into_edge l.root x e is)))

-- the extras that the root may list are the project's and those that edges lead to
allowed_is : (p : ProjectFields) (l : Lock) (x : List ℕ) → Contains (allowed_extras p l) x → Contains p.extras x ⊎ IsAskedFor l x
allowed_is p l x h =
    ⊎_elim inl
    (λ m. let at = contains_from_flat (asked_by_package l.root) l.packages x m in inr (asked_in l x at.0 at.1 at.2))
    (Contains-append_cases p.extras (flat_map (asked_by_package l.root) l.packages) x h)

is_allowed : (p : ProjectFields) (l : Lock) (x : List ℕ) → Contains p.extras x ⊎ IsAskedFor l x → Contains (allowed_extras p l) x
is_allowed p l x (inl h) = Contains-append_left p.extras (flat_map (asked_by_package l.root) l.packages) x h
is_allowed p l x (inr h) =
    let from = h.has.from in
    Contains-append_right p.extras (flat_map (asked_by_package l.root) l.packages) x
    (contains_flat (asked_by_package l.root) l.packages from.block x from.listed
    (in_package l x from.block from.listed h.from.0.extra h.edge h.has.edge h.leads))

-- ---- the test

both_left : (a b : Bool) → (a && b) ≡ true → a ≡ true
both_left true b h = refl
both_left false b h = absurd (cc h)

both_right : (a b : Bool) → (a && b) ≡ true → b ≡ true
both_right true b h = h
both_right false b h = absurd (cc h)

both : (a b : Bool) → a ≡ true → b ≡ true → (a && b) ≡ true
both a b g h = cc

passes : {A : Type 0} (test : A → Bool) (xs : List A) (x : A) → list_all test xs ≡ true → Contains xs x → test x ≡ true
passes test [] x h m = absurd (none_in x m)
passes test (y ∷ ys) x h m =
    ⊎_elim (λ e. ap test e ∙ both_left (test y) (list_all test ys) h) (passes test ys x (both_right (test y) (list_all test ys) h))
    (contains_cases y ys x m)

all_pass : {A : Type 0} (test : A → Bool) (xs : List A) → ((x : A) → Contains xs x → test x ≡ true) → list_all test xs ≡ true
all_pass test [] h = refl
all_pass test (y ∷ ys) h =
    both (test y) (list_all test ys) (h y (contains_first y ys)) (all_pass test ys (λ x m. h x (contains_later y ys x m)))

-- a package of the root's name passes by its extras, and every other one passes
by_name : (b among : Bool) → (not b || among) ≡ true → b ≡ true → among ≡ true
by_name true among h e = h
by_name false among h e = absurd (cc e)

or_other : (b among : Bool) → (b ≡ true → among ≡ true) → (not b || among) ≡ true
or_other true among h = h refl
or_other false among h = refl

module _ (p : ProjectFields) (l : Lock) where
  abbrev set : Names
  set = insert_all bytes_eq [] (allowed_extras p l)

  lists_none : root_is_among set l.root l.packages ≡ true → ListsNoOther p l
  lists_none h b y listed named in_extras =
      let among : are_among set b.extras ≡ true =
      by_name (bytes_eq b.name l.root) (are_among set b.extras)
      (passes (package_is_among set l.root) l.packages b h listed)
      ((bytes_eq-Decides b.name l.root).1 named) in
      allowed_is p l y.name
      (found (allowed_extras p l) y.name (passes (λ (z : Extra). list_any (bytes_eq z.name) set) b.extras y among in_extras))

  all_among : ListsNoOther p l → root_is_among set l.root l.packages ≡ true
  all_among h =
      all_pass (package_is_among set l.root) l.packages
      (λ b listed. or_other (bytes_eq b.name l.root) (are_among set b.extras)
      (λ named. all_pass (λ (z : Extra). list_any (bytes_eq z.name) set) b.extras
      (λ y in_extras. finds (allowed_extras p l) y.name
      (is_allowed p l y.name (h b y listed (same_bytes b.name l.root named) in_extras)))))

  -- the test decides whether the root lists no extras but the project's and those that edges lead to
  pub extras_decided : Decides (root_is_among set l.root l.packages) (ListsNoOther p l)
  extras_decided = (lists_none, all_among)

  -- so does its answer by these names
  pub decided_by : (names : Names) (b : Bool) → names ≡ set → b ≡ root_is_among names l.root l.packages → Decides b (ListsNoOther p l)
  decided_by names b are is =
      let same : b ≡ root_is_among set l.root l.packages = is ∙ ap (λ ns. root_is_among ns l.root l.packages) are in
      subst (λ c. Decides c (ListsNoOther p l)) (sym same) extras_decided
