-- The entries of an index of nodes.
use Rattle.std.proofs.Common.{◌≡◌, ◌⊎◌, ◌<◌, ◌≤◌, ◌+◌, ◌-◌, ℕ, zero, suc, List, [], ◌∷◌, ◌++◌, map, length, take, drop, get_or, not, Bool, true, false, Some, Contains, refl, sym, ap, ◌∙◌, subst, inl, inr, ⊎_elim, append_assoc, arith}
use Rattle.std.specs.Cmp.{IsStrictWeakOrder, tied_itself}
use Rattle.std.specs.List.{slice_get}
use Rattle.std.specs.List.Sorted.{IsPartitionedBy, IsPartitionPoint, IsPermutation, IsSortedBy}
use Rattle.std.specs.Ordering.{is_gt, is_lt, ordering_reverse}
use Rattle.std.specs.declared.cmp.Ordering.{Ordering}
use Rattle.std.specs.declared.cmp.Ordering.TheVariants.{Less, Equal, Greater}
use Rattle.std.proofs.lemmas.List.{get_or-drop, get_or-take, length-drop, length-take-le, map-append, take_all, take_more}
use Rattle.std.proofs.lemmas.List.Elements.{Contains-append_cases, Contains-append_left, Contains-append_right}
use Rattle.std.proofs.lemmas.List.Sorted.{Contains-permutation, IsPermutation-map, IsPermutation-sym, ranks_by, sorted_far}
use Rattle.std.proofs.lemmas.Option.{same_Some, slice_get_read, slice_get_within}
use Rattle.ul_base.specs.Nodes.{node_cmp, node_cmp-total}
use Rattle.ul_base.specs.declared.node.Node.{Node}
use Rattle.ul_base.proofs.ForCallers.{contains_from_map, contains_map, long_map, node_cmp_same, none_in}
use Rattle.ul_requirement.specs.Fields.{RequirementFields}
use Rattle.ul_requirement.specs.Truth.{base, targets, with_extra}
use Rattle.ul_lock_nodes.proofs.ForCallers.{below_or_at, mapped_at}
use Rattle.ul_verify.specs.NodeIndexes.{HasEachTo, IsIndexOf, IsRunOf, StandsAt, entries_at, entry_node, is_before, view_of}
use Rattle.ul_verify.specs.declared.node_index.Entry.{Entry}
use Rattle.ul_verify.specs.declared.node_index.NodeIndex.{NodeIndex}
use Rattle.ul_verify.proofs.ListFacts.{left}

-- ---- entries, one by one

-- entries that are put in order stay the same
view_kept : (es fs : List Entry) (v : Node × ℕ) → IsPermutation es fs → Contains (map view_of es) v → Contains (map view_of fs) v
view_kept es fs v same m = Contains-permutation (map view_of es) (map view_of fs) v (IsPermutation-map view_of es fs same) m

module _ {A : Type 0} (f : A → List Node) (xs : List A) where
  abbrev Has : List (Node × ℕ) → Node → ℕ → Type 0
  Has vs n k = Contains vs (n, k)

  -- with the nodes of the element at a place, the entries are those of each list up to it
  pub entries_more : (i : ℕ) (x : A) (es now : List Entry) → i < length xs → x ≡ get_or xs i x → map view_of now ≡ map view_of es ++ entries_at i (f x)
      → HasEachTo (map f xs) i es → HasEachTo (map f xs) (i + 1) now
  entries_more i x es now lt at is before n k = (
    (λ m. ⊎_elim from_before from_here (Contains-append_cases (map view_of es) (entries_at i (f x)) (n, k) (subst (λ (vs : List (Node × ℕ)). Has vs n k) is m))),
    (λ z. subst (λ (vs : List (Node × ℕ)). Has vs n k) (sym is) (⊎_elim (λ less. Contains-append_left (map view_of es) (entries_at i (f x)) (n, k) ((before n k).1 (less, z.1)))
        (λ q. Contains-append_right (map view_of es) (entries_at i (f x)) (n, k) (to_here q z.1)) (below_or_at k i z.0))),
  )
    where
      here : slice_get (map f xs) i ≡ Some (f x)
      here = mapped_at f xs i x (slice_get_read xs (length xs) i x refl lt at)

      from_before : Has (map view_of es) n k → (k < i + 1) × StandsAt (map f xs) n k
      from_before h = let z = (before n k).0 h in (omega (arith, z.0), z.1)

      from_here : Has (entries_at i (f x)) n k → (k < i + 1) × StandsAt (map f xs) n k
      from_here h =
          let z : (m : Node) × Contains (f x) m × ((n, k) ≡ (m, i)) = contains_from_map (λ (m : Node). (m, i)) (f x) (n, k) h in
          let placed : k ≡ i = ap (λ (v : Node × ℕ). v.1) z.2 in
          (omega (arith, placed), (f x, ap (slice_get (map f xs)) placed ∙ here, subst (Contains (f x)) (sym (ap (λ (v : Node × ℕ). v.0) z.2)) z.1))

      to_here : k ≡ i → StandsAt (map f xs) n k → Has (entries_at i (f x)) n k
      to_here q z =
          let same : f x ≡ z.0 = same_Some (f x) z.0 (sym here ∙ (ap (slice_get (map f xs)) (sym q) ∙ z.1)) in
          subst (Has (entries_at i (f x)) n) (sym q) (contains_map (λ (m : Node). (m, i)) (f x) n (subst (λ (ns : List Node). Contains ns n) (sym same) z.2))

  -- the entries of all, in order
  pub indexed : (i : ℕ) (es : List Entry) (s : NodeIndex) → length xs ≤ i → HasEachTo (map f xs) i es → IsPermutation es s.entries.items → IsSortedBy is_before s.entries.items → IsIndexOf (map f xs) s
  indexed i es s past before same sorted = record {
    each = λ n k. (
      (λ m. ((before n k).0 (view_kept s.entries.items es (n, k) (IsPermutation-sym es s.entries.items same) m)).1),
      (λ z. view_kept es s.entries.items (n, k) same ((before n k).1 (omega (arith, past, long_map f xs, slice_get_within (map f xs) k z.0 z.1), z))),
    );
    sorted = sorted;
  }

-- ---- entries that are added

-- before the first element there is none
pub no_entries : {A : Type 0} (f : A → List Node) (xs : List A) (es : List Entry) → es ≡ [] → HasEachTo (map f xs) 0 es
no_entries f xs es none n k = ((λ m. absurd (none_in (n, k) (subst (λ (fs : List Entry). Contains (map view_of fs) (n, k)) none m))), (λ z. absurd (omega (arith, z.0))))

-- one more entry
pub entry_put : (es now : List Entry) (e : Entry) (n : Node) (k : ℕ) → now ≡ es ++ e ∷ [] → view_of e ≡ (n, k) → map view_of now ≡ map view_of es ++ entries_at k (n ∷ [])
entry_put es now e n k is same = ap (map view_of) is ∙ (map-append view_of es (e ∷ []) ∙ ap (λ (v : Node × ℕ). map view_of es ++ v ∷ []) same)

-- the entries of a name's extras, one after another
module _ (n : List ℕ) (k : ℕ) (xs : List (List ℕ)) where
  abbrev extra_view : List ℕ → Node × ℕ
  extra_view x = (with_extra n x, k)

  as_views : (ys : List (List ℕ)) → entries_at k (map (with_extra n) ys) ≡ map extra_view ys
  as_views [] = refl
  as_views (y ∷ ys) = ap (λ (vs : List (Node × ℕ)). extra_view y ∷ vs) (as_views ys)

  pub extras_more : (i : ℕ) (x : List ℕ) (start : List (Node × ℕ)) (es now : List Entry) (e : Entry) → i < length xs → x ≡ get_or xs i x → now ≡ es ++ e ∷ [] → view_of e ≡ (with_extra n x, k)
      → map view_of es ≡ start ++ entries_at k (map (with_extra n) (take i xs)) → map view_of now ≡ start ++ entries_at k (map (with_extra n) (take (i + 1) xs))
  extras_more i x start es now e lt at is same so_far =
      let more : entries_at k (map (with_extra n) (take (i + 1) xs)) ≡ entries_at k (map (with_extra n) (take i xs)) ++ (with_extra n x, k) ∷ [] =
      as_views (take (i + 1) xs) ∙ (ap (map extra_view) (take_more xs i x lt ∙ ap (λ (y : List ℕ). take i xs ++ y ∷ []) (sym at)) ∙ (map-append extra_view (take i xs) (x ∷ [])
      ∙ ap (λ (vs : List (Node × ℕ)). vs ++ extra_view x ∷ []) (sym (as_views (take i xs))))) in
      ap (map view_of) is ∙ (map-append view_of es (e ∷ []) ∙ ((λ j. so_far j ++ same j ∷ []) ∙ (append_assoc start (entries_at k (map (with_extra n) (take i xs))) ((with_extra n x, k) ∷ []) ∙ ap (λ (vs : List (Node × ℕ)). start ++ vs) (sym more))))

  pub extras_all : (i : ℕ) (start now : List (Node × ℕ)) → length xs ≤ i → now ≡ start ++ entries_at k (map (with_extra n) (take i xs)) → now ≡ start ++ entries_at k (map (with_extra n) xs)
  extras_all i start now past so_far = so_far ∙ ap (λ (ys : List (List ℕ)). start ++ entries_at k (map (with_extra n) ys)) (take_all i xs past)

-- the entry of the base, and those of the extras
pub base_and_extras : (q : RequirementFields) (n : List ℕ) (xs : List (List ℕ)) (k : ℕ) (es mid : List Entry) (e : Entry) (now : List (Node × ℕ)) → n ≡ q.name → xs ≡ q.extras → view_of e ≡ (base n, k) → mid ≡ es ++ e ∷ []
    → now ≡ map view_of mid ++ entries_at k (map (with_extra n) xs) → now ≡ map view_of es ++ entries_at k (targets q)
base_and_extras q n xs k es mid e now named listed same is rest =
    rest ∙ (ap (λ (vs : List (Node × ℕ)). vs ++ entries_at k (map (with_extra n) xs)) (entry_put es mid e (base n) k is same)
    ∙ (append_assoc (map view_of es) ((base n, k) ∷ []) (entries_at k (map (with_extra n) xs)) ∙ (λ j. map view_of es ++ entries_at k (base (named j) ∷ map (with_extra (named j)) (listed j)))))

-- ---- the entries of one node

abbrev pub LowerThan : Node → Entry → Bool
LowerThan n e = is_lt (node_cmp (entry_node e) n)

abbrev pub NotAbove : Node → Entry → Bool
NotAbove n e = not (is_gt (node_cmp (entry_node e) n))

ranked : IsStrictWeakOrder {X = Node} (λ m n. is_lt (node_cmp m n))
ranked = ranks_by node_cmp-total (λ n. n)

pub entries_ranked : IsStrictWeakOrder is_before
entries_ranked = ranks_by node_cmp-total entry_node

otherwise : (a b : Bool) → (a ≡ false → b ≡ false) → b ≡ true → a ≡ true
otherwise true b f e = refl
otherwise false true f e = sym (f refl)
otherwise false false f e = e

not_true : (a : Bool) → not a ≡ true → a ≡ false
not_true true e = cc
not_true false e = refl

not_false : (a : Bool) → a ≡ false → not a ≡ true
not_false true e = cc
not_false false e = refl

greater_is : (o : Ordering) → is_gt o ≡ is_lt (ordering_reverse o)
greater_is Less = refl
greater_is Equal = refl
greater_is Greater = refl

above_is : (m n : Node) → is_gt (node_cmp m n) ≡ is_lt (node_cmp n m)
above_is m n = greater_is (node_cmp m n) ∙ ap is_lt (sym (node_cmp-total.antisymm n m))

module _ (n : Node) (es : List Entry) (sorted : IsSortedBy is_before es) where
  pub lower_parted : IsPartitionedBy (LowerThan n) es
  lower_parted i j d le lt e = otherwise (LowerThan n (get_or es i d)) (LowerThan n (get_or es j d))
      (λ f. ranked.chain (entry_node (get_or es j d)) (entry_node (get_or es i d)) n (sorted_far is_before entries_ranked es sorted i j d le lt) f) e

  pub through_parted : IsPartitionedBy (NotAbove n) es
  through_parted i j d le lt e =
      let x = get_or es i d in
      let y = get_or es j d in
      not_false (is_gt (node_cmp (entry_node x) n)) (above_is (entry_node x) n
      ∙ ranked.chain n (entry_node y) (entry_node x) (sym (above_is (entry_node y) n) ∙ not_true (is_gt (node_cmp (entry_node y) n)) e) (sorted_far is_before entries_ranked es sorted i j d le lt))

pub drop_parted : (p : Entry → Bool) (es : List Entry) (i : ℕ) → IsPartitionedBy p es → IsPartitionedBy p (drop i es)
drop_parted p es i parted j k d le lt e =
    let long = length-drop i es in
    ap p (get_or-drop i es j d) ∙ parted (i + j) (i + k) d (omega (arith, le)) (omega (arith, lt, long)) (ap p (sym (get_or-drop i es k d)) ∙ e)

not_lower : (m n : Node) → m ≡ n → is_lt (node_cmp m n) ≡ true → ⊥
not_lower m n e h = never (node_cmp m n) (subst (λ (k : Node). node_cmp m k ≡ Equal) e (tied_itself node_cmp-total m)) h
  where
    never : (o : Ordering) → o ≡ Equal → is_lt o ≡ true → ⊥
    never Less e h = cc
    never Equal e h = cc
    never Greater e h = cc

not_above : (m n : Node) → m ≡ n → not (is_gt (node_cmp m n)) ≡ false → ⊥
not_above m n e h = never (node_cmp m n) (subst (λ (k : Node). node_cmp m k ≡ Equal) e (tied_itself node_cmp-total m)) h
  where
    never : (o : Ordering) → o ≡ Equal → not (is_gt o) ≡ false → ⊥
    never Less e h = cc
    never Equal e h = cc
    never Greater e h = cc

below_or_from : (j i : ℕ) → (j < i) ⊎ (i ≤ j)
below_or_from j zero = inr (omega arith)
below_or_from zero (suc i) = inl (omega arith)
below_or_from (suc j) (suc i) = ⊎_elim (λ lt. inl (omega (arith, lt))) (λ le. inr (omega (arith, le))) (below_or_from j i)

level : (o : Ordering) → is_lt o ≡ false → not (is_gt o) ≡ true → o ≡ Equal
level Less e h = cc
level Equal e h = refl
level Greater e h = cc

-- what lies between the entries that come before a node and those that come after it are the node's
module _ (n : Node) (es : List Entry) (i c : ℕ) (first : IsPartitionPoint (λ y. LowerThan n y ≡ true) (λ y. LowerThan n y ≡ false) es i)
    (second : IsPartitionPoint (λ y. NotAbove n y ≡ true) (λ y. NotAbove n y ≡ false) (drop i es) c) (fits : c ≤ length (drop i es)) where
  between_from : (e : Entry) → Contains (take c (drop i es)) e → Contains es e × (entry_node e ≡ n)
  between_from e m =
      let long = length-drop i es in
      let short : m.0 < c = omega (arith, m.1, length-take-le c (drop i es) fits) in
      let at : get_or (drop i es) m.0 e ≡ e = sym (get_or-take c (drop i es) m.0 e short) ∙ m.2 in
      let there : get_or es (i + m.0) e ≡ e = sym (get_or-drop i es m.0 e) ∙ at in
      let within : i + m.0 < length es = omega (arith, short, fits, long) in
      let low : LowerThan n e ≡ false = subst (λ (x : Entry). LowerThan n x ≡ false) there (first.1 (i + m.0) e (omega arith) within) in
      let high : NotAbove n e ≡ true = subst (λ (x : Entry). NotAbove n x ≡ true) at (second.0 m.0 e (omega arith) short) in
      ((i + m.0, within, there), node_cmp_same (entry_node e) n (level (node_cmp (entry_node e) n) low high))

  between_to : (e : Entry) → Contains es e → entry_node e ≡ n → Contains (take c (drop i es)) e
  between_to e m same = ⊎_elim (λ lt. absurd (not_lower (entry_node (get_or es m.0 e)) n (ap entry_node m.2 ∙ same) (first.0 m.0 e (omega arith) lt)))
      (λ le. behind le (below_or_from (m.0 - i) c)) (below_or_from m.0 i)
    where
      behind : i ≤ m.0 → ((m.0 - i) < c) ⊎ (c ≤ (m.0 - i)) → Contains (take c (drop i es)) e
      behind le side =
          let long = length-drop i es in
          let here : get_or (drop i es) (m.0 - i) e ≡ e = get_or-drop i es (m.0 - i) e ∙ (ap (λ (k : ℕ). get_or es k e) (omega (arith, le)) ∙ m.2) in
          ⊎_elim (λ lt. (m.0 - i, omega (arith, lt, length-take-le c (drop i es) fits), get_or-take c (drop i es) (m.0 - i) e lt ∙ here))
          (λ past. absurd (not_above (entry_node (get_or (drop i es) (m.0 - i) e)) n (ap entry_node here ∙ same) (second.1 (m.0 - i) e past (omega (arith, long, m.1, le)))))
          side

  pub run_between : IsRunOf n es (take c (drop i es))
  run_between e = (between_from e, (λ z. between_to e z.0 z.1))

-- ---- the same, where the entries and those left are slices

pub first_parted : (n : Node) (es xs : List Entry) → xs ≡ es → IsSortedBy is_before es → IsPartitionedBy (LowerThan n) xs
first_parted n es xs e sorted = lower_parted n xs (subst (IsSortedBy is_before) (sym e) sorted)

pub rest_parted : (n : Node) (es xs : List Entry) (i : ℕ) → xs ≡ es → IsSortedBy is_before es → IsPartitionedBy (NotAbove n) (take (length xs - i) (drop i xs))
rest_parted n es xs i e sorted = subst (IsPartitionedBy (NotAbove n)) (sym (left i xs)) (drop_parted (NotAbove n) xs i (through_parted n xs (subst (IsSortedBy is_before) (sym e) sorted)))

pub run_here : (n : Node) (es xs : List Entry) (i c : ℕ) → xs ≡ es → IsPartitionPoint (λ y. LowerThan n y ≡ true) (λ y. LowerThan n y ≡ false) xs i
    → IsPartitionPoint (λ y. NotAbove n y ≡ true) (λ y. NotAbove n y ≡ false) (take (length xs - i) (drop i xs)) c → c ≤ length (take (length xs - i) (drop i xs))
    → IsRunOf n es (take c (take (length xs - i) (drop i xs)))
run_here n es xs i c e first second fits = subst (λ (all : List Entry). IsRunOf n all (take c (take (length xs - i) (drop i xs)))) e
    (subst (λ (rest : List Entry). IsPartitionPoint (λ y. NotAbove n y ≡ true) (λ y. NotAbove n y ≡ false) rest c → c ≤ length rest → IsRunOf n xs (take c rest)) (sym (left i xs))
    (run_between n xs i c first) second fits)
