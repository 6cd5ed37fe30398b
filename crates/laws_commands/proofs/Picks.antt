-- The lines of picks, by the flags of a lock's nodes.
use Rattle.std.proofs.Common.{◌≡◌, ◌≢◌, ◌∙◌, ◌↔◌, ◌&&◌, ℕ, zero, suc, List, [], ◌∷◌, ◌++◌, Bool, true, false, not, take, drop, length, map, bytes_eq, Option, Some, None, IfSome, Contains, refl, sym, ap, subst, arith, inl, inr}
use Rattle.std.specs.Prelude.{if◌then◌else◌}
use Rattle.std.specs.Cmp.{first_so, second_so}
use Rattle.std.specs.List.{list_any, slice_get}
use Rattle.std.proofs.lemmas.List.{length-map}
use Rattle.std.proofs.lemmas.List.Elements.{Contains-append_cases, Contains-append_left, Contains-append_right}
use Rattle.std.proofs.lemmas.Slice.Eq.{bytes_eq-Decides}
use Rattle.ul_base.proofs.ForCallers.{bytes_eq-same, contains_cases, contains_first, contains_from_map, contains_later, contains_map, none_in, only_one}
use Rattle.ul_version.specs.Fields.{Fields}
use Rattle.ul_requirement.specs.Truth.{with_extra}
use Rattle.ul_lock.specs.declared.parts.Extra.{Extra}
use Rattle.ul_lock.specs.declared.parts.Locked.{Locked}
use Rattle.ul_lock.specs.Walk.{Pick as NodeAt}
use Rattle.ul_lock_nodes.specs.Flags.{is_flagged}
use Rattle.ul_lock_nodes.specs.Routes.{Route, base_route, block_routes, extra_route, routes_of}
use Rattle.ul_filter.specs.Picks.{flagged_extras, node_count, picks_at, picks_of}

-- a pick as its parts: its name, its version and its extras
abbrev pub Parts : Type 0
Parts = List ℕ × Fields × List (List ℕ)

-- each flag says whether the node of the route is one of these
abbrev pub AreFlags : (NodeAt → Type 0) → List Route → List Bool → Type 0
AreFlags Has [] [] = Unit {0}
AreFlags Has [] (f ∷ fs) = ⊥
AreFlags Has (r ∷ rs) [] = ⊥
AreFlags Has (r ∷ rs) (f ∷ fs) = ((f ≡ true) ↔ Has r.0) × AreFlags Has rs fs

pub flags_from : (Has : NodeAt → Type 0) (rs : List Route) (fs : List Bool)
    → ((k : ℕ) (r : Route) → slice_get rs k ≡ Some r → (is_flagged fs k ≡ true) ↔ Has r.0) → length fs ≡ length rs → AreFlags Has rs fs
flags_from Has [] [] each long = tt
flags_from Has [] (f ∷ fs) each long = absurd (omega (arith, long))
flags_from Has (r ∷ rs) [] each long = absurd (omega (arith, long))
flags_from Has (r ∷ rs) (f ∷ fs) each long =
    (each zero r refl, flags_from Has rs fs (λ k s at. each (suc k) s at) (omega (arith, long)))

-- the flags of routes in front of others, and of those
split_flags : (Has : NodeAt → Type 0) (rs ss : List Route) (fs : List Bool) → AreFlags Has (rs ++ ss) fs
    → AreFlags Has rs (take (length rs) fs) × AreFlags Has ss (drop (length rs) fs)
split_flags Has [] ss fs h = (tt, h)
split_flags Has (r ∷ rs) ss [] h = absurd h
split_flags Has (r ∷ rs) ss (f ∷ fs) h = let rest = split_flags Has rs ss fs h.1 in ((h.0, rest.0), rest.1)

-- ---- one package

flag_is : (f : Bool) → f ≡ true → f ≡ false → ⊥
flag_is f h k = let both : true ≡ false = sym h ∙ k in cc

-- some flag is set where some node is there
any_flag : (Has : NodeAt → Type 0) (rs : List Route) (fs : List Bool) → AreFlags Has rs fs → list_any (λ (f : Bool). f) fs ≡ true
    → (r : Route) × Contains rs r × Has r.0
any_flag Has [] [] h any = absurd (cc)
any_flag Has [] (f ∷ fs) h any = absurd h
any_flag Has (r ∷ rs) [] h any = absurd h
any_flag Has (r ∷ rs) (true ∷ fs) h any = (r, contains_first r rs, h.0.0 refl)
any_flag Has (r ∷ rs) (false ∷ fs) h any = let rest = any_flag Has rs fs h.1 any in (rest.0, contains_later r rs rest.0 rest.1, rest.2)

flag_any : (Has : NodeAt → Type 0) (rs : List Route) (fs : List Bool) → AreFlags Has rs fs → (r : Route) → Contains rs r → Has r.0
    → list_any (λ (f : Bool). f) fs ≡ true
flag_any Has [] fs h r at has = absurd (none_in r at)
flag_any Has (s ∷ rs) [] h r at has = absurd h
flag_any Has (s ∷ rs) (true ∷ fs) h r at has = refl
flag_any Has (s ∷ rs) (false ∷ fs) h r at has = elim (contains_cases s rs r at) [
  | inl same ↦ absurd (flag_is false (h.0.1 (subst (λ (x : Route). Has x.0) same has)) refl)
  | inr later ↦ flag_any Has rs fs h.1 r later has
]

-- the extras whose flags are set
flagged_from : (Has : NodeAt → Type 0) (b : Locked) (ys : List Extra) (fs : List Bool) → AreFlags Has (map (extra_route b) ys) fs
    → (x : List ℕ) → Contains (flagged_extras ys fs) x → Has (with_extra b.name x, b.version)
flagged_from Has b [] fs h x at = absurd (none_in x at)
flagged_from Has b (y ∷ ys) [] h x at = absurd h
flagged_from Has b (y ∷ ys) (true ∷ fs) h x at = elim (contains_cases y.name (flagged_extras ys fs) x at) [
  | inl same ↦ subst (λ z. Has (with_extra b.name z, b.version)) (sym same) (h.0.0 refl)
  | inr later ↦ flagged_from Has b ys fs h.1 x later
]
flagged_from Has b (y ∷ ys) (false ∷ fs) h x at = flagged_from Has b ys fs h.1 x at

flagged_has : (Has : NodeAt → Type 0) (b : Locked) (ys : List Extra) (fs : List Bool) → AreFlags Has (map (extra_route b) ys) fs
    → (y : Extra) → Contains ys y → Has (with_extra b.name y.name, b.version) → Contains (flagged_extras ys fs) y.name
flagged_has Has b [] fs h y at has = absurd (none_in y at)
flagged_has Has b (z ∷ ys) [] h y at has = absurd h
flagged_has Has b (z ∷ ys) (true ∷ fs) h y at has = elim (contains_cases z ys y at) [
  | inl same ↦ subst (λ (x : Extra). Contains (z.name ∷ flagged_extras ys fs) x.name) (sym same) (contains_first z.name (flagged_extras ys fs))
  | inr later ↦ contains_later z.name (flagged_extras ys fs) y.name (flagged_has Has b ys fs h.1 y later has)
]
flagged_has Has b (z ∷ ys) (false ∷ fs) h y at has = elim (contains_cases z ys y at) [
  | inl same ↦ absurd (flag_is false (h.0.1 (subst (λ (x : Extra). Has (with_extra b.name x.name, b.version)) same has)) refl)
  | inr later ↦ flagged_has Has b ys fs h.1 y later has
]

-- a node of a package at its version
abbrev pub node_of : Locked → Option (List ℕ) → NodeAt
node_of b x = (record { name = b.name; extra = x }, b.version)

-- a route of a package is that of one of its nodes
route_node : (Has : NodeAt → Type 0) (b : Locked) (r : Route) → Contains (block_routes b) r → Has r.0 → (x : Option (List ℕ)) × Has (node_of b x)
route_node Has b r at has = elim (contains_cases (base_route b) (map (extra_route b) b.extras) r at) [
  | inl same ↦ (None, subst (λ (s : Route). Has s.0) same has)
  | inr later ↦
      let found = contains_from_map (extra_route b) b.extras r later in
      (Some found.0.name, subst (λ (s : Route). Has s.0) found.2 has)
]

-- the flags behind the first are those of the extras
extra_flags : (Has : NodeAt → Type 0) (b : Locked) (fs : List Bool) → AreFlags Has (block_routes b) fs
    → AreFlags Has (map (extra_route b) b.extras) (drop 1 fs)
extra_flags Has b [] h = absurd h
extra_flags Has b (f ∷ fs) h = h.1

-- what the parts of a pick of a package say
pub record IsPickOf (Has : NodeAt → Type 0) (root : List ℕ) (b : Locked) (t : Parts) : Type 0 where
  pub other : b.name ≢ root
  pub name : t.0 ≡ b.name
  pub version : t.1 ≡ b.version
  pub some : (x : Option (List ℕ)) × Has (node_of b x)
  pub extras : (x : List ℕ) → Contains t.2 x → Has (node_of b (Some x))

abbrev parts_of : Locked → List Bool → Parts
parts_of b fs = (b.name, b.version, flagged_extras b.extras (drop 1 fs))

other_name : (name root : List ℕ) → not (bytes_eq name root) ≡ true → name ≢ root
other_name name root h same =
    let itself : bytes_eq name root ≡ true = subst (λ x. bytes_eq name x ≡ true) same (bytes_eq-same name) in
    let bad : not true ≡ true = ap not (sym itself) ∙ h in
    cc

test_passes : (name root : List ℕ) → name ≢ root → not (bytes_eq name root) ≡ true
test_passes name root differ = by (bytes_eq name root) refl
  where
    by : (t : Bool) → bytes_eq name root ≡ t → not t ≡ true
    by true e = absurd (differ ((bytes_eq-Decides name root).0 e))
    by false e = refl

pick_from : (Has : NodeAt → Type 0) (root : List ℕ) (b : Locked) (fs : List Bool) → AreFlags Has (block_routes b) fs → (t : Parts)
    → Contains (picks_at root b fs) t → IsPickOf Has root b t
pick_from Has root b fs h t at = by (not (bytes_eq b.name root) && list_any (λ (f : Bool). f) fs) refl at
  where
    by : (test : Bool) → (not (bytes_eq b.name root) && list_any (λ (f : Bool). f) fs) ≡ test
        → Contains (if test then parts_of b fs ∷ [] else []) t → IsPickOf Has root b t
    by false e at = absurd (none_in t at)
    by true e at =
        let same = only_one (parts_of b fs) t at in
        let any = any_flag Has (block_routes b) fs h (second_so (not (bytes_eq b.name root)) (list_any (λ (f : Bool). f) fs) e) in
        record {
          other = other_name b.name root (first_so (not (bytes_eq b.name root)) (list_any (λ (f : Bool). f) fs) e);
          name = ap (λ (x : Parts). x.0) same;
          version = ap (λ (x : Parts). x.1) same;
          some = route_node Has b any.0 any.1 any.2;
          extras = λ x here. flagged_from Has b b.extras (drop 1 fs) (extra_flags Has b fs h) x (subst (λ (y : Parts). Contains y.2 x) same here);
        }

-- the extra, if there is one, is one of the package's
abbrev pub ListsExtra : Locked → Option (List ℕ) → Type 0
ListsExtra b None = Unit {0}
ListsExtra b (Some x) = (y : Extra) × Contains b.extras y × (y.name ≡ x)

-- the route of a package's node
node_route : (b : Locked) (x : Option (List ℕ)) → ListsExtra b x → (r : Route) × Contains (block_routes b) r × (node_of b x ≡ r.0)
node_route b None h = (base_route b, contains_first (base_route b) (map (extra_route b) b.extras), refl)
node_route b (Some x) h = (
  extra_route b h.0,
  contains_later (base_route b) (map (extra_route b) b.extras) (extra_route b h.0) (contains_map (extra_route b) b.extras h.0 h.1),
  ap (λ z. node_of b (Some z)) (sym h.2),
)

picked_extra : (Has : NodeAt → Type 0) (b : Locked) (fs : List Bool) → AreFlags Has (block_routes b) fs → (x : Option (List ℕ)) → ListsExtra b x
    → Has (node_of b x) → IfSome x (λ z. Contains (flagged_extras b.extras (drop 1 fs)) z)
picked_extra Has b fs h None listed has = tt
picked_extra Has b fs h (Some x) listed has =
    subst (λ z. Contains (flagged_extras b.extras (drop 1 fs)) z) listed.2
    (flagged_has Has b b.extras (drop 1 fs) (extra_flags Has b fs h) listed.0 listed.1 (subst (λ z. Has (node_of b (Some z))) (sym listed.2) has))

-- among the picks is one of the name at the version, with the extra, if there is one
pub record HasPickAt (ts : List Parts) (name : List ℕ) (version : Fields) (x : Option (List ℕ)) : Type 0 where
  pub extras : List (List ℕ)
  pub listed : Contains ts (name, version, extras)
  pub extra : IfSome x (λ z. Contains extras z)

both_so : (s t : Bool) → s ≡ true → t ≡ true → (s && t) ≡ true
both_so s t h k = rw (h, k)

pick_has : (Has : NodeAt → Type 0) (root : List ℕ) (b : Locked) (fs : List Bool) → AreFlags Has (block_routes b) fs → b.name ≢ root
    → (x : Option (List ℕ)) → ListsExtra b x → Has (node_of b x) → HasPickAt (picks_at root b fs) b.name b.version x
pick_has Has root b fs h differ x listed has =
    let route = node_route b x listed in
    let any = flag_any Has (block_routes b) fs h route.0 route.1 (subst Has route.2 has) in
    let test = both_so (not (bytes_eq b.name root)) (list_any (λ (f : Bool). f) fs) (test_passes b.name root differ) any in
    record {
      extras = flagged_extras b.extras (drop 1 fs);
      listed = subst (λ t. Contains (if t then parts_of b fs ∷ [] else []) (parts_of b fs)) (sym test) (contains_first (parts_of b fs) []);
      extra = picked_extra Has b fs h x listed has;
    }

-- ---- all packages

count : (b : Locked) → node_count b ≡ length (block_routes b)
count b = let same = length-map b.extras (extra_route b) in omega (arith, same)

-- each pick is that of a package
pub picks_from : (Has : NodeAt → Type 0) (root : List ℕ) (bs : List Locked) (fs : List Bool) → AreFlags Has (routes_of bs) fs → (t : Parts)
    → Contains (picks_of root bs fs) t → (b : Locked) × IsPickOf Has root b t
picks_from Has root [] fs h t at = absurd (none_in t at)
picks_from Has root (b ∷ bs) fs h t at =
    let parts = split_flags Has (block_routes b) (routes_of bs) fs h in
    elim (Contains-append_cases (picks_at root b (take (node_count b) fs)) (picks_of root bs (drop (node_count b) fs)) t at) [
      | inl first ↦
          (b, pick_from Has root b (take (length (block_routes b)) fs) parts.0 t (subst (λ n. Contains (picks_at root b (take n fs)) t) (count b) first))
      | inr later ↦
          picks_from Has root bs (drop (length (block_routes b)) fs) parts.1 t (subst (λ n. Contains (picks_of root bs (drop n fs)) t) (count b) later)
    ]

-- a package with a node that is there has a pick
pub picks_have : (Has : NodeAt → Type 0) (root : List ℕ) (bs : List Locked) (fs : List Bool) → AreFlags Has (routes_of bs) fs
    → (b : Locked) → Contains bs b → b.name ≢ root → (x : Option (List ℕ)) → ListsExtra b x → Has (node_of b x)
    → HasPickAt (picks_of root bs fs) b.name b.version x
picks_have Has root [] fs h b at differ x listed has = absurd (none_in b at)
picks_have Has root (c ∷ bs) fs h b at differ x listed has =
    let parts = split_flags Has (block_routes c) (routes_of bs) fs h in
    elim (contains_cases c bs b at) [
      | inl same ↦ first same
      | inr later ↦
          let rest = picks_have Has root bs (drop (length (block_routes c)) fs) parts.1 b later differ x listed has in
          record {
            extras = rest.extras;
            listed = Contains-append_right (picks_at root c (take (node_count c) fs)) (picks_of root bs (drop (node_count c) fs))
                (b.name, b.version, rest.extras)
                (subst (λ (n : ℕ). Contains (picks_of root bs (drop n fs)) (b.name, b.version, rest.extras)) (sym (count c)) rest.listed);
            extra = rest.extra;
          }
    ]
  where
    first : b ≡ c → HasPickAt (picks_of root (c ∷ bs) fs) b.name b.version x
    first same =
        let parts = split_flags Has (block_routes c) (routes_of bs) fs h in
        let mine = subst (λ (z : Locked). AreFlags Has (block_routes z) (take (length (block_routes c)) fs)) (sym same) parts.0 in
        let found = pick_has Has root b (take (length (block_routes c)) fs) mine differ x listed has in
        let there = subst (λ (z : Locked). Contains (picks_at root z (take (length (block_routes c)) fs)) (b.name, b.version, found.extras)) same found.listed in
        record {
          extras = found.extras;
          listed = Contains-append_left (picks_at root c (take (node_count c) fs)) (picks_of root bs (drop (node_count c) fs))
              (b.name, b.version, found.extras)
              (subst (λ (n : ℕ). Contains (picks_at root c (take n fs)) (b.name, b.version, found.extras)) (sym (count c)) there);
          extra = found.extra;
        }
