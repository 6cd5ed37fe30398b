-- A lock has picks in each world.
use Rattle.std.proofs.Common.{◌≡◌, ◌<◌, ◌≤◌, ◌^◌, ◌∙◌, ◌∷◌, ◌++◌, ℕ, List, [], Bool, true, false, Contains, bytes_eq}
use Rattle.std.proofs.Common.{not, ◌&&◌, cond, drop, take, length, map, Decides, refl, sym, inl, inr, arith, length-append}
use Rattle.std.specs.List.{list_any}
use Rattle.std.proofs.lemmas.Bool.{true≢false}
use Rattle.std.proofs.lemmas.Bool.Decides.{Decides-at}
use Rattle.std.proofs.lemmas.List.{map-append}
use Rattle.ul_base.proofs.ForCallers.{contains_first, contains_later, long_map}
use Rattle.ul_comparison.specs.Worlds.{WorldFields}
use Rattle.ul_lock.specs.declared.parts.Extra.{Extra}
use Rattle.ul_lock.specs.declared.parts.Lock.{Lock}
use Rattle.ul_lock.specs.declared.parts.Locked.{Locked}
use Rattle.ul_lock.specs.Walk.{Pick as NodeAt, Walk, edge_holds}
use Rattle.ul_lock_nodes.specs.Flags.{is_flagged}
use Rattle.ul_lock_nodes.specs.Routes.{Route, routes_of}
use Rattle.ul_filter.specs.Picks.{flagged_extras, flagged_one, node_count, pick_view, picks_at, picks_of}
use Rattle.ul_filter.specs.declared.picks.Pick.{Pick}
use Rattle.laws_trees.specs.Decided.{Decided}
use Rattle.laws_trees.proofs.ForCallers.{decisions_kept, flag_at, truth_decided}
use Rattle.laws_walks.specs.Exists.{PicksExist}
use Rattle.laws_walks.proofs.Lists.{vec_of}
use Rattle.laws_walks.proofs.Walked.{walk_known}

-- ---- picks by flags

one_long : (x : Extra) (f : Bool) → length (flagged_one x f) ≤ 1
one_long x true = omega arith
one_long x false = omega arith

-- no more extras are picked than a package has
flagged_long : (xs : List Extra) (flags : List Bool) → length (flagged_extras xs flags) ≤ length xs
flagged_long [] flags = omega arith
flagged_long (x ∷ xs) [] = omega arith
flagged_long (x ∷ xs) (f ∷ flags) =
    omega (arith, length-append (flagged_one x f) (flagged_extras xs flags), one_long x f, flagged_long xs flags)

-- the pick of a package, if it is picked
picked_at : (root : List ℕ) (b : Locked) (flags : List Bool) → length b.extras < 2 ^ 63
    → (ps : List Pick) × (map pick_view ps ≡ picks_at root b flags)
picked_at root b flags few = go (not (bytes_eq b.name root) && list_any (λ (f : Bool). f) flags)
  where
    go : (c : Bool) → (ps : List Pick)
        × (map pick_view ps ≡ cond c ((b.name, b.version, flagged_extras b.extras (drop 1 flags)) ∷ []) [])
    go true =
        let v = vec_of (flagged_extras b.extras (drop 1 flags)) (omega (arith, flagged_long b.extras (drop 1 flags))) in
        (record { name = b.name; version = b.version; extras = v.0 } ∷ [], λ i. (b.name, b.version, v.1 i) ∷ [])
    go false = ([], refl)

-- the picks of packages
picked : (root : List ℕ) (bs : List Locked) (flags : List Bool)
    → ((b : Locked) → Contains bs b → length b.extras < 2 ^ 63)
    → (ps : List Pick) × (map pick_view ps ≡ picks_of root bs flags)
picked root [] flags few = ([], refl)
picked root (b ∷ bs) flags few =
    let here = picked_at root b (take (node_count b) flags) (few b (contains_first b bs)) in
    let others = picked root bs (drop (node_count b) flags) (λ c m. few c (contains_later b bs c m)) in
    (here.0 ++ others.0, map-append pick_view here.0 others.0 ∙ (λ i. here.1 i ++ others.1 i))

-- ---- the walk's flags

-- whether the walk has a node
walk_decided : (l : Lock) (w : WorldFields) (xs : List (List ℕ)) (p : NodeAt) → Decided (Walk l w xs p)
walk_decided l w xs p = walk_known (λ (P : WorldFields → Type 0). Decided (P w)) (decisions_kept w) (λ P d. d) l
    (λ r e c d. truth_decided (edge_holds w e)) xs p

-- a decision, as a flag
abbrev flag_of : {A : Type 0} → Decided A → Bool
flag_of (inl a) = true
flag_of (inr z) = false

flag_decides : {A : Type 0} (d : Decided A) → Decides (flag_of d) A
flag_decides (inl a) = (λ e. a, λ h. refl)
flag_decides (inr z) = (λ e. absurd (true≢false (sym e)), λ h. absurd (z h))

pub picks_exist : PicksExist
picks_exist l w xs few = (
  made.0,
  record {
    flags = flags;
    each = λ k r at. Decides-at (is_flagged flags k) (flag r) (flag_at flag (routes_of l.packages) k r at)
        (flag_decides (walk_decided l w xs r.0));
    long = long_map flag (routes_of l.packages);
    are = made.1;
  },
)
  where
    flag : Route → Bool
    flag r = flag_of (walk_decided l w xs r.0)

    flags : List Bool
    flags = map flag (routes_of l.packages)

    made : (ps : List Pick) × (map pick_view ps ≡ picks_of l.root l.packages flags)
    made = picked l.root l.packages flags few
