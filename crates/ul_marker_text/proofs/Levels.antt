-- A path to true has a step for each node on it, and a reduced tree's deepest nodes stand on paths to true.
use Rattle.std.proofs.Common.{◌≡◌, ℕ, zero, suc, ◌<◌, ◌≤◌, ◌^◌, List, [], ◌∷◌, ◌++◌, Bool, true, false, length, take, drop, get_or, arith, if◌then◌else◌}
use Rattle.std.specs.Prelude.{nat_le, Vec}
use Rattle.std.specs.declared.alloc.Global.{Global}
use Rattle.std.proofs.lemmas.Bool.{and_parts, leb-true, le-leb}
use Rattle.std.proofs.lemmas.List.{length-map}
use Rattle.ul_marker.specs.declared.printed.Comparison.{Comparison}
use Rattle.ul_nodes.specs.Apply.{keys}
use Rattle.ul_nodes.specs.Plain.{Plain, truth, node, Branches, done, branch, carries, carried_part}
use Rattle.ul_nodes.specs.Reduced.{Fits, FitsAll}
use Rattle.ul_tree.specs.PathList.{Step as PathStep, interval, point, others, start_of, longer_paths, paths_to_true, paths_from, paths_at}
use Rattle.ul_tree.specs.Paths.{paths_of, levels_of, levels_in, is_printable}
use Rattle.ul_tree.proofs.ForCallers.{tree_back}
use Rattle.ul_marker_text.specs.MarkerOfText.{is_readable}
use Rattle.ul_marker_text.specs.Rows.{steps_of}
use Rattle.ul_marker_text.specs.StepViews.{paths_view, rows_steps, row_view, step_view}
use Rattle.ul_marker_text.specs.TextFacts.{AreWithin}
use Rattle.ul_marker_text.specs.declared.steps.Step.{Step}
use Rattle.ul_marker_text.proofs.StepsBack.{Filled}
use Rattle.ul_marker_text.proofs.TreeTexts.{Walked, walked_node, some_path}

-- ---- paths with few steps

pub within_drop : (n : ℕ) (paths : List (Vec Step Global)) (k : ℕ) → AreWithin n (paths_view paths) → AreWithin n (paths_view (drop k paths))
within_drop n [] zero h = h
within_drop n [] (suc k) h = h
within_drop n (p ∷ ps) zero h = h
within_drop n (p ∷ ps) (suc k) h = within_drop n ps k h.1

pub within_take : (n : ℕ) (paths : List (Vec Step Global)) (k : ℕ) → AreWithin n (paths_view paths) → AreWithin n (paths_view (take k paths))
within_take n [] zero h = h
within_take n [] (suc k) h = h
within_take n (p ∷ ps) zero h = tt
within_take n (p ∷ ps) (suc k) h = (h.0, within_take n ps k h.1)

-- a path more
pub within_push : (n : ℕ) (paths : List (Vec Step Global)) (p : Vec Step Global) → AreWithin n (paths_view paths) → length p.items ≤ n → AreWithin n (paths_view (paths ++ p ∷ []))
within_push n [] p h w = (let e = length-map p.items step_view in omega (arith, e, w), tt)
within_push n (q ∷ ps) p h w = (h.0, within_push n ps p h.1 w)

-- the steps of one of some rows
pub within_row : (n : ℕ) (rows : List (Vec Comparison Global)) (i : ℕ) (d : Vec Comparison Global) → i < length rows → AreWithin n (rows_steps rows)
    → length (steps_of (length (get_or rows i d).items) (row_view (get_or rows i d).items)) ≤ n
within_row n [] i d lt h = absurd (omega (arith, lt))
within_row n (r ∷ rows) zero d lt h = h.0
within_row n (r ∷ rows) (suc i) d lt h = within_row n rows i d (omega (arith, lt)) h.1

within_append : (n : ℕ) (ps qs : List (List PathStep)) → AreWithin n ps → AreWithin n qs → AreWithin n (ps ++ qs)
within_append n [] qs x y = y
within_append n (p ∷ ps) qs x y = (x.0, within_append n ps qs x.1 y)

within_left : (n : ℕ) (ps qs : List (List PathStep)) → AreWithin n (ps ++ qs) → AreWithin n ps
within_left n [] qs h = tt
within_left n (p ∷ ps) qs h = (h.0, within_left n ps qs h.1)

within_right : (n : ℕ) (ps qs : List (List PathStep)) → AreWithin n (ps ++ qs) → AreWithin n qs
within_right n [] qs h = h
within_right n (p ∷ ps) qs h = within_right n ps qs h.1

within_led : (n : ℕ) (s : PathStep) (ps : List (List PathStep)) → AreWithin n ps → AreWithin (suc n) (longer_paths s ps)
within_led n s [] h = tt
within_led n s (p ∷ ps) h = (omega (arith, h.0), within_led n s ps h.1)

led_within : (n : ℕ) (s : PathStep) (ps : List (List PathStep)) → AreWithin (suc n) (longer_paths s ps) → AreWithin n ps
led_within n s [] h = tt
led_within n s (p ∷ ps) h = (omega (arith, h.0), led_within n s ps h.1)

-- ---- no path has more steps than nodes

node_within : (l : List ℕ) (d : Plain) (bs : Branches) (n : ℕ) → AreWithin n (paths_to_true d) → AreWithin (suc n) (paths_from 0 (paths_to_true d) bs) → AreWithin (suc n) (paths_at l bs)
    → AreWithin (suc n) (paths_to_true (node l d bs))
node_within l d bs n x y z = go (carries l)
  where
    go : (m : Bool) → AreWithin (suc n) (if m then paths_from 0 (paths_to_true d) bs else paths_at l bs ++ longer_paths (others l (keys bs)) (paths_to_true d))
    go true = y
    go false = within_append (suc n) (paths_at l bs) (longer_paths (others l (keys bs)) (paths_to_true d)) z (within_led n (others l (keys bs)) (paths_to_true d) x)

mutual
  paths_within : (t : Plain) (n : ℕ) → levels_of t ≤ n → AreWithin n (paths_to_true t)
  paths_within (truth true) n h = (omega arith, tt)
  paths_within (truth false) n h = tt
  paths_within (node l d bs) zero h = absurd (omega (arith, h))
  paths_within (node l d bs) (suc n) h =
      let own = paths_within d n (omega (arith, h)) in
      let parts : levels_in bs ≤ n = omega (arith, h) in
      node_within l d bs n own (from_within bs 0 (paths_to_true d) n own parts) (at_within bs l n parts)

  from_within : (bs : Branches) (start : ℕ) (ps : List (List PathStep)) (n : ℕ) → AreWithin n ps → levels_in bs ≤ n → AreWithin (suc n) (paths_from start ps bs)
  from_within done start ps n w h = within_led n (interval start (2 ^ 96)) ps w
  from_within (branch k c rest) start ps n w h =
      within_append (suc n) (longer_paths (interval start (start_of k)) ps) (paths_from (start_of k) (paths_to_true c) rest) (within_led n (interval start (start_of k)) ps w)
      (from_within rest (start_of k) (paths_to_true c) n (paths_within c n (omega (arith, h))) (omega (arith, h)))

  at_within : (bs : Branches) (l : List ℕ) (n : ℕ) → levels_in bs ≤ n → AreWithin (suc n) (paths_at l bs)
  at_within done l n h = tt
  at_within (branch k c rest) l n h =
      within_append (suc n) (longer_paths (point l k) (paths_to_true c)) (paths_at l rest) (within_led n (point l k) (paths_to_true c) (paths_within c n (omega (arith, h)))) (at_within rest l n (omega (arith, h)))

-- ---- no path of a reduced tree has more nodes than the longest path to true has steps

some_steps : (n : ℕ) (ps : List (List PathStep)) → Filled ps → Walked ps → AreWithin n ps → 0 < n
some_steps n [] f w h = absurd f
some_steps n ([] ∷ ps) f w h = absurd w.0
some_steps n ((s ∷ p) ∷ ps) f w h = omega (arith, h.0)

node_some : (l m : List ℕ) (d : Plain) (bs : Branches) (n : ℕ) → Fits (node m d bs) l → AreWithin n (paths_to_true (node m d bs)) → 0 < n
node_some l m d bs n h w =
    let ps = paths_to_true (node m d bs) in
    some_steps n ps (some_path ps m d bs (tree_back (node m d bs) l h)) (walked_node m d bs) w

-- paths of the other part and of branches that have few steps
abbrev PartsWithin : ℕ → Plain → Branches → Type 0
PartsWithin n d bs = (levels_of d ≤ n) × (levels_in bs ≤ n)

-- by what is known of the parts
parts_by : (m : List ℕ) (d : Plain) (bs : Branches) (n : ℕ) → (AreWithin n (paths_to_true d) → levels_of d ≤ n) → (AreWithin (suc n) (paths_from 0 (paths_to_true d) bs) → AreWithin n (paths_to_true d) × (levels_in bs ≤ n))
    → (AreWithin (suc n) (paths_at m bs) → levels_in bs ≤ n) → AreWithin (suc n) (paths_to_true (node m d bs)) → PartsWithin n d bs
parts_by m d bs n own pieces points w = go (carries m) w
  where
    go : (b : Bool) → AreWithin (suc n) (if b then paths_from 0 (paths_to_true d) bs else paths_at m bs ++ longer_paths (others m (keys bs)) (paths_to_true d)) → PartsWithin n d bs
    go true w = let parts = pieces w in (own parts.0, parts.1)
    go false w = (
      own (led_within n (others m (keys bs)) (paths_to_true d) (within_right (suc n) (paths_at m bs) (longer_paths (others m (keys bs)) (paths_to_true d)) w)),
      points (within_left (suc n) (paths_at m bs) (longer_paths (others m (keys bs)) (paths_to_true d)) w),
    )

mutual
  levels_within : (t : Plain) (l : List ℕ) (n : ℕ) → Fits t l → AreWithin n (paths_to_true t) → levels_of t ≤ n
  levels_within (truth b) l n h w = omega arith
  levels_within (node m d bs) l zero h w = let some = node_some l m d bs zero h w in absurd (omega (arith, some))
  levels_within (node m d bs) l (suc n) h w =
      let parts = parts_by m d bs n (λ x. levels_within d m n h.2 x) (λ x. from_levels bs m d 0 (paths_to_true d) n h.3 x) (λ x. at_levels bs m d n h.3 x) w in
      omega (arith, parts.0, parts.1)

  from_levels : (bs : Branches) (m : List ℕ) (d : Plain) (start : ℕ) (ps : List (List PathStep)) (n : ℕ) → FitsAll bs m d → AreWithin (suc n) (paths_from start ps bs) → AreWithin n ps × (levels_in bs ≤ n)
  from_levels done m d start ps n h w = (led_within n (interval start (2 ^ 96)) ps w, omega arith)
  from_levels (branch k c rest) m d start ps n h w =
      let first = within_left (suc n) (longer_paths (interval start (start_of k)) ps) (paths_from (start_of k) (paths_to_true c) rest) w in
      let after = within_right (suc n) (longer_paths (interval start (start_of k)) ps) (paths_from (start_of k) (paths_to_true c) rest) w in
      let more = from_levels rest m (carried_part (carries m) c d) (start_of k) (paths_to_true c) n h.4 after in
      let own = levels_within c m n h.2 more.0 in
      (led_within n (interval start (start_of k)) ps first, omega (arith, own, more.1))

  at_levels : (bs : Branches) (m : List ℕ) (d : Plain) (n : ℕ) → FitsAll bs m d → AreWithin (suc n) (paths_at m bs) → levels_in bs ≤ n
  at_levels done m d n h w = omega arith
  at_levels (branch k c rest) m d n h w =
      let first = within_left (suc n) (longer_paths (point m k) (paths_to_true c)) (paths_at m rest) w in
      let after = within_right (suc n) (longer_paths (point m k) (paths_to_true c)) (paths_at m rest) w in
      let own = levels_within c m n h.2 (led_within n (point m k) (paths_to_true c) first) in
      let more = at_levels rest m (carried_part (carries m) c d) n h.4 after in
      omega (arith, own, more)

-- ---- trees whose texts are read

pub readable_within : (t : Plain) → is_readable t ≡ true → AreWithin 512 (paths_to_true t)
unfolding is_readable
readable_within t h = paths_within t 512 (leb-true (levels_of t) 512 h)

pub within_readable : (t : Plain) (l : List ℕ) → Fits t l → AreWithin 512 (paths_to_true t) → is_readable t ≡ true
unfolding is_readable
within_readable t l h w = le-leb (levels_of t) 512 (levels_within t l 512 h w)

-- a tree that is printed is one that is read
pub printable_readable : (t : Plain) → is_printable t ≡ true → is_readable t ≡ true
unfolding is_printable is_readable
printable_readable t h = (and_parts (nat_le (paths_of t) 4096) (nat_le (levels_of t) 512) h).1

-- the tree that is the same truth everywhere has no nodes
pub truth_readable : (b : Bool) → is_readable (truth b) ≡ true
unfolding is_readable
truth_readable b = le-leb 0 512 (omega arith)
