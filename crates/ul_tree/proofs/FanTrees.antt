-- The paths to true of a reduced tree, by their first steps, give the tree back.
use Rattle.std.proofs.Common.{◌≡◌, ◌≢◌, ℕ, zero, suc, ◌<◌, ◌^◌, List, [], ◌∷◌, ◌++◌, Bool, true, false, refl, ap, sym, ◌∙◌, subst, arith, Less, Some, None, if◌then◌else◌, Equal, Greater}
use Rattle.std.specs.Ordering.{nat_cmp, ordering_then}
use Rattle.std.proofs.lemmas.Cmp.{ranked, by_ranked}
use Rattle.ul_nodes.specs.Plain.{Plain, truth, node, Branches, done, branch, text_cmp, carries, carried_part}
use Rattle.ul_nodes.specs.Apply.{keys}
use Rattle.ul_nodes.specs.Levels.{python_level}
use Rattle.ul_nodes.specs.Reduced.{Fits, FitsAll, StartsAfter}
use Rattle.ul_nodes.proofs.ForCallers.{cmp_trans, cmp_less}
use Rattle.ul_tree.specs.PathList.{Step, interval, point, others, start_of, longer_paths, paths_to_true, paths_from, paths_at}
use Rattle.ul_tree.specs.Fans.{Fan, stop, end, edge, same_step, begins, put_path, put_paths, fan_of, inner_of, rest_of, pieces_from, opening_node, other_part, listed_points, filled_points, pointed_at, node_of, tree_of, parts_of}
use Rattle.ul_tree.proofs.Tools.{eqb_self, eqb_less, bytes_self, less_differs, step_self}

-- ---- paths under one step

-- paths under a step, in front of others
abbrev put_fan : Step → Fan → Fan → Fan
put_fan s stop rest = rest
put_fan s end rest = edge s end rest
put_fan s (edge r more beside) rest = edge s (edge r more beside) rest

put_append : (ps qs : List (List Step)) (fan : Fan) → put_paths (ps ++ qs) fan ≡ put_paths ps (put_paths qs fan)
put_append [] qs fan = refl
put_append (p ∷ ps) qs fan = ap (put_path p) (put_append ps qs fan)

put_led : (s : Step) (p : List Step) (ps : List (List Step)) (fan : Fan) → begins s fan ≡ false → put_paths (longer_paths s (p ∷ ps)) fan ≡ edge s (fan_of (p ∷ ps)) fan
put_led s p [] fan b = rw b refl
put_led s p (q ∷ qs) fan b = ap (put_path (s ∷ p)) (put_led s q qs fan b) ∙ rw (step_self s) refl

put_some : (p : List Step) (fan rest : Fan) (s : Step) → put_fan s (put_path p fan) rest ≡ edge s (put_path p fan) rest
put_some [] fan rest s = refl
put_some (r ∷ p) fan rest s = go (begins r fan)
  where
    go : (b : Bool) → put_fan s (if b then edge r (put_path p (inner_of fan)) (rest_of fan) else edge r (put_path p stop) fan) rest ≡ edge s (if b then edge r (put_path p (inner_of fan)) (rest_of fan) else edge r (put_path p stop) fan) rest
    go true = refl
    go false = refl

put_all : (s : Step) (ps : List (List Step)) (fan : Fan) → begins s fan ≡ false → put_paths (longer_paths s ps) fan ≡ put_fan s (fan_of ps) fan
put_all s [] fan b = refl
put_all s (p ∷ ps) fan b = put_led s p ps fan b ∙ sym (put_some p (fan_of ps) fan s)

begins_put : (s r : Step) (inner rest : Fan) → same_step s r ≡ false → begins s rest ≡ false → begins s (put_fan r inner rest) ≡ false
begins_put s r stop rest e b = b
begins_put s r end rest e b = e
begins_put s r (edge q more beside) rest e b = e

-- whether paths are the one path that has no steps
abbrev is_end : Fan → Bool
is_end stop = false
is_end end = true
is_end (edge s more rest) = false

not_end_put : (s : Step) (inner rest : Fan) → is_end rest ≡ false → is_end (put_fan s inner rest) ≡ false
not_end_put s stop rest e = e
not_end_put s end rest e = refl
not_end_put s (edge q more beside) rest e = refl

tree_by_parts : (fan : Fan) → is_end fan ≡ false → tree_of fan ≡ node_of (parts_of fan)
tree_by_parts stop e = refl
tree_by_parts end e = absurd cc
tree_by_parts (edge s more rest) e = refl

-- ---- parts that aren't false

-- a part under its step, unless it is false
abbrev kept : Step → Plain → List (Step × Plain) → List (Step × Plain)
kept s (truth false) more = more
kept s (truth true) more = (s, truth true) ∷ more
kept s (node l d bs) more = (s, node l d bs) ∷ more

-- a tree is read back
abbrev Back : Plain → Type 0
Back t = tree_of (fan_of (paths_to_true t)) ≡ t

-- the parts of branches are read back
abbrev Backs : Branches → Type 0
Backs done = Unit {0}
Backs (branch k c rest) = Back c × Backs rest

parts_node : (s : Step) (t : Plain) (fan rest : Fan) (l : List ℕ) (d : Plain) (bs : Branches) → tree_of fan ≡ node l d bs → parts_of (put_fan s fan rest) ≡ (s, node l d bs) ∷ parts_of rest
parts_node s t stop rest l d bs e = absurd cc
parts_node s t end rest l d bs e = absurd cc
parts_node s t (edge r more beside) rest l d bs e = ap (λ z. (s, z) ∷ parts_of rest) e

parts_put : (s : Step) (c : Plain) (rest : Fan) → Back c → parts_of (put_fan s (fan_of (paths_to_true c)) rest) ≡ kept s c (parts_of rest)
parts_put s (truth true) rest e = refl
parts_put s (truth false) rest e = refl
parts_put s (node l d bs) rest e = parts_node s (node l d bs) (fan_of (paths_to_true (node l d bs))) rest l d bs e

-- ---- pieces of the interpreter

-- branches at numbers that rise, after one
abbrev pub Rising : ℕ → Branches → Type 0
Rising start done = start < 2 ^ 96
Rising start (branch k c rest) = (start < start_of k) × (k ≡ start_of k ∷ []) × Rising (start_of k) rest

-- each part differs from the one that stands before it
abbrev pub Unlike : Bool → Plain → Branches → Type 0
Unlike m d done = Unit {0}
Unlike m d (branch k c rest) = (c ≢ d) × Unlike m (carried_part m c d) rest

abbrev kept_from : ℕ → Plain → Branches → List (Step × Plain)
kept_from start d done = kept (interval start (2 ^ 96)) d []
kept_from start d (branch k c rest) = kept (interval start (start_of k)) d (kept_from (start_of k) c rest)

-- the paths through pieces from a number on
abbrev fan_from : ℕ → Plain → Branches → Fan
fan_from start d bs = put_paths (paths_from start (paths_to_true d) bs) stop

from_shape : (k : List ℕ) (c : Plain) (rest : Branches) (d : Plain) (start : ℕ) → begins (interval start (start_of k)) (fan_from (start_of k) c rest) ≡ false
    → fan_from start d (branch k c rest) ≡ put_fan (interval start (start_of k)) (fan_of (paths_to_true d)) (fan_from (start_of k) c rest)
from_shape k c rest d start b =
    put_append (longer_paths (interval start (start_of k)) (paths_to_true d)) (paths_from (start_of k) (paths_to_true c) rest) stop
    ∙ put_all (interval start (start_of k)) (paths_to_true d) (fan_from (start_of k) c rest) b

last_shape : (d : Plain) (start : ℕ) → fan_from start d done ≡ put_fan (interval start (2 ^ 96)) (fan_of (paths_to_true d)) stop
last_shape d start = put_all (interval start (2 ^ 96)) (paths_to_true d) stop refl

apart : (a b c d : ℕ) → a < c → same_step (interval a b) (interval c d) ≡ false
apart a b c d h = rw (eqb_less a c h) refl

from_begins : (bs : Branches) (d : Plain) (start : ℕ) → Rising start bs → (a b : ℕ) → a < start → begins (interval a b) (fan_from start d bs) ≡ false
from_begins done d start h a b less =
    ap (begins (interval a b)) (last_shape d start) ∙ begins_put (interval a b) (interval start (2 ^ 96)) (fan_of (paths_to_true d)) stop (apart a b start (2 ^ 96) less) refl
from_begins (branch k c rest) d start h a b less =
    let x = start_of k in
    let below : start < x = h.0 in
    let on : a < x = omega arith in
    ap (begins (interval a b)) (from_shape k c rest d start (from_begins rest c x h.2 start x below))
    ∙ begins_put (interval a b) (interval start x) (fan_of (paths_to_true d)) (fan_from x c rest) (apart a b start x less) (from_begins rest c x h.2 a b on)

from_parts : (bs : Branches) (d : Plain) (start : ℕ) → Rising start bs → Back d → Backs bs → parts_of (fan_from start d bs) ≡ kept_from start d bs
from_parts done d start h e es = ap parts_of (last_shape d start) ∙ parts_put (interval start (2 ^ 96)) d stop e
from_parts (branch k c rest) d start h e es =
    let x = start_of k in
    ap parts_of (from_shape k c rest d start (from_begins rest c x h.2 start x h.0))
    ∙ parts_put (interval start x) d (fan_from x c rest) e
    ∙ ap (kept (interval start x) d) (from_parts rest c x h.2 es.0 es.1)

from_not_end : (bs : Branches) (d : Plain) (start : ℕ) → Rising start bs → is_end (fan_from start d bs) ≡ false
from_not_end done d start h = ap is_end (last_shape d start) ∙ not_end_put (interval start (2 ^ 96)) (fan_of (paths_to_true d)) stop refl
from_not_end (branch k c rest) d start h =
    let x = start_of k in
    ap is_end (from_shape k c rest d start (from_begins rest c x h.2 start x h.0)) ∙ not_end_put (interval start x) (fan_of (paths_to_true d)) (fan_from x c rest) (from_not_end rest c x h.2)

-- a part that isn't false begins the pieces
piece_kept : (start high : ℕ) (c : Plain) (more : List (Step × Plain)) → c ≢ truth false → pieces_from start (kept (interval start high) c more) ≡ branch (start ∷ []) c (pieces_from high more)
piece_kept start high (truth false) more n = absurd (n refl)
piece_kept start high (truth true) more n = rw (eqb_self start) refl
piece_kept start high (node l d bs) more n = rw (eqb_self start) refl

-- a false piece stands before the first piece that isn't
piece_left : (start x high : ℕ) (c : Plain) (more : List (Step × Plain)) → c ≢ truth false → start < x
    → pieces_from start (kept (interval x high) c more) ≡ branch (start ∷ []) (truth false) (branch (x ∷ []) c (pieces_from high more))
piece_left start x high (truth false) more n h = absurd (n refl)
piece_left start x high (truth true) more n h = rw (eqb_less start x h) refl
piece_left start x high (node l d bs) more n h = rw (eqb_less start x h) refl

gap_last : (start : ℕ) → start < 2 ^ 96 → pieces_from start [] ≡ branch (start ∷ []) (truth false) done
gap_last start h = rw (eqb_less start (2 ^ 96) h) refl

-- the pieces are read back, from each on
pieces_back : (bs : Branches) (d : Plain) (start : ℕ) → Rising start bs → Unlike true d bs → pieces_from start (kept_from start d bs) ≡ branch (start ∷ []) d bs
pieces_back done (truth false) start h u = gap_last start h
pieces_back done (truth true) start h u = rw (eqb_self start) refl
pieces_back done (node l d bs) start h u = rw (eqb_self start) refl
pieces_back (branch k c done) (truth false) start h u =
    let x = start_of k in
    piece_left start x (2 ^ 96) c [] u.0 h.0 ∙ ap (λ z. branch (start ∷ []) (truth false) (branch z c done)) (sym h.1)
pieces_back (branch k c (branch j e rest)) (truth false) start h u =
    let x = start_of k in
    let y = start_of j in
    let more = kept_from y e rest in
    piece_left start x y c more u.0 h.0
    ∙ ap (λ z. branch (start ∷ []) (truth false) z) (sym (piece_kept x y c more u.0) ∙ pieces_back (branch j e rest) c x h.2 u.1 ∙ ap (λ z. branch z c (branch j e rest)) (sym h.1))
pieces_back (branch k c rest) (truth true) start h u =
    rw (eqb_self start) (ap (λ z. branch (start ∷ []) (truth true) z) (pieces_back rest c (start_of k) h.2 u.1 ∙ ap (λ z. branch z c rest) (sym h.1)))
pieces_back (branch k c rest) (node l d bs) start h u =
    rw (eqb_self start) (ap (λ z. branch (start ∷ []) (node l d bs) z) (pieces_back rest c (start_of k) h.2 u.1 ∙ ap (λ z. branch z c rest) (sym h.1)))

node_kept : (a b : ℕ) (c : Plain) (more : List (Step × Plain)) → c ≢ truth false → node_of (kept (interval a b) c more) ≡ opening_node (pieces_from 0 (kept (interval a b) c more))
node_kept a b (truth false) more n = absurd (n refl)
node_kept a b (truth true) more n = refl
node_kept a b (node l d bs) more n = refl

-- a node of the interpreter opens with its pieces
node_opens : (k : List ℕ) (c : Plain) (rest : Branches) (d : Plain) → Unlike true d (branch k c rest)
    → node_of (kept_from 0 d (branch k c rest)) ≡ opening_node (pieces_from 0 (kept_from 0 d (branch k c rest)))
node_opens k c done (truth false) u = node_kept (start_of k) (2 ^ 96) c [] u.0
node_opens k c (branch j e rest) (truth false) u = node_kept (start_of k) (start_of j) c (kept_from (start_of j) e rest) u.0
node_opens k c rest (truth true) u = refl
node_opens k c rest (node l d bs) u = refl

python_back : (k : List ℕ) (c : Plain) (rest : Branches) (d : Plain) → Rising 0 (branch k c rest) → Unlike true d (branch k c rest) → Back d → Backs (branch k c rest)
    → tree_of (fan_from 0 d (branch k c rest)) ≡ node python_level d (branch k c rest)
python_back k c rest d h u e es =
    tree_by_parts (fan_from 0 d (branch k c rest)) (from_not_end (branch k c rest) d 0 h)
    ∙ ap node_of (from_parts (branch k c rest) d 0 h e es)
    ∙ node_opens k c rest d u
    ∙ ap opening_node (pieces_back (branch k c rest) d 0 h u)

-- ---- points

abbrev kept_points : List ℕ → Branches → List (Step × Plain) → List (Step × Plain)
kept_points l done more = more
kept_points l (branch k c rest) more = kept (point l k) c (kept_points l rest more)

-- keys that increase
abbrev pub Increasing : Branches → Type 0
Increasing done = Unit {0}
Increasing (branch k c rest) = StartsAfter (Some k) rest × Increasing rest

abbrev fan_at : List ℕ → Branches → Fan → Fan
fan_at l bs rest = put_paths (paths_at l bs) rest

-- no path of others begins with a point
abbrev NoPoint : List ℕ → Fan → Type 0
NoPoint l fan = (k : List ℕ) → begins (point l k) fan ≡ false

at_shape : (l k : List ℕ) (c : Plain) (rest : Branches) (fan : Fan) → begins (point l k) (fan_at l rest fan) ≡ false
    → fan_at l (branch k c rest) fan ≡ put_fan (point l k) (fan_of (paths_to_true c)) (fan_at l rest fan)
at_shape l k c rest fan b = put_append (longer_paths (point l k) (paths_to_true c)) (paths_at l rest) fan ∙ put_all (point l k) (paths_to_true c) (fan_at l rest fan) b

pub starts_after : (k j : List ℕ) (bs : Branches) → text_cmp k j ≡ Less → StartsAfter (Some j) bs → StartsAfter (Some k) bs
starts_after k j done e h = tt
starts_after k j (branch i c rest) e h = cmp_trans k j i e h

points_apart : (l k j : List ℕ) → text_cmp k j ≡ Less → same_step (point l k) (point l j) ≡ false
points_apart l k j e = rw (bytes_self l) (less_differs k j e)

at_begins : (bs : Branches) (l : List ℕ) (fan : Fan) → Increasing bs → NoPoint l fan → (k : List ℕ) → StartsAfter (Some k) bs → begins (point l k) (fan_at l bs fan) ≡ false
at_begins done l fan h n k a = n k
at_begins (branch j c rest) l fan h n k a =
    ap (begins (point l k)) (at_shape l j c rest fan (at_begins rest l fan h.1 n j h.0))
    ∙ begins_put (point l k) (point l j) (fan_of (paths_to_true c)) (fan_at l rest fan) (points_apart l k j a) (at_begins rest l fan h.1 n k (starts_after k j rest a h.0))

at_parts : (bs : Branches) (l : List ℕ) (fan : Fan) → Increasing bs → NoPoint l fan → Backs bs → parts_of (fan_at l bs fan) ≡ kept_points l bs (parts_of fan)
at_parts done l fan h n es = refl
at_parts (branch k c rest) l fan h n es =
    ap parts_of (at_shape l k c rest fan (at_begins rest l fan h.1 n k h.0))
    ∙ parts_put (point l k) c (fan_at l rest fan) es.0
    ∙ ap (kept (point l k) c) (at_parts rest l fan h.1 n es.1)

at_not_end : (bs : Branches) (l : List ℕ) (fan : Fan) → Increasing bs → NoPoint l fan → is_end fan ≡ false → is_end (fan_at l bs fan) ≡ false
at_not_end done l fan h n e = e
at_not_end (branch k c rest) l fan h n e =
    ap is_end (at_shape l k c rest fan (at_begins rest l fan h.1 n k h.0)) ∙ not_end_put (point l k) (fan_of (paths_to_true c)) (fan_at l rest fan) (at_not_end rest l fan h.1 n e)

-- where the other part is false, the points are listed
none_other : (bs : Branches) (l : List ℕ) → Unlike false (truth false) bs → other_part (kept_points l bs []) ≡ None
none_other done l u = refl
none_other (branch k (truth false) rest) l u = absurd (u.0 refl)
none_other (branch k (truth true) rest) l u = none_other rest l u.1
none_other (branch k (node m d bs) rest) l u = none_other rest l u.1

listed_back : (bs : Branches) (l : List ℕ) → Unlike false (truth false) bs → listed_points (kept_points l bs []) ≡ bs
listed_back done l u = refl
listed_back (branch k (truth false) rest) l u = absurd (u.0 refl)
listed_back (branch k (truth true) rest) l u = ap (branch k (truth true)) (listed_back rest l u.1)
listed_back (branch k (node m d bs) rest) l u = ap (branch k (node m d bs)) (listed_back rest l u.1)

-- a node whose other part is false
false_node : (k : List ℕ) (c : Plain) (rest : Branches) (l : List ℕ) → Unlike false (truth false) (branch k c rest) → node_of (kept_points l (branch k c rest) []) ≡ node l (truth false) (branch k c rest)
false_node k (truth false) rest l u = absurd (u.0 refl)
false_node k (truth true) rest l u =
    ap (pointed_at l (kept_points l (branch k (truth true) rest) [])) (none_other (branch k (truth true) rest) l u) ∙ ap (node l (truth false)) (listed_back (branch k (truth true) rest) l u)
false_node k (node m d bs) rest l u =
    ap (pointed_at l (kept_points l (branch k (node m d bs) rest) [])) (none_other (branch k (node m d bs) rest) l u) ∙ ap (node l (truth false)) (listed_back (branch k (node m d bs) rest) l u)

-- the other part under its keys
abbrev last_part : List ℕ → List (List ℕ) → Plain → List (Step × Plain)
last_part l ks d = (others l ks, d) ∷ []

some_other : (bs : Branches) (l : List ℕ) (ks : List (List ℕ)) (d : Plain) → other_part (kept_points l bs (last_part l ks d)) ≡ Some (ks, d)
some_other done l ks d = refl
some_other (branch k (truth false) rest) l ks d = some_other rest l ks d
some_other (branch k (truth true) rest) l ks d = some_other rest l ks d
some_other (branch k (node m e bs) rest) l ks d = some_other rest l ks d

node_points : (bs : Branches) (l : List ℕ) (ks : List (List ℕ)) (d : Plain)
    → node_of (kept_points l bs (last_part l ks d)) ≡ pointed_at l (kept_points l bs (last_part l ks d)) (other_part (kept_points l bs (last_part l ks d)))
node_points done l ks d = refl
node_points (branch k (truth false) rest) l ks d = node_points rest l ks d
node_points (branch k (truth true) rest) l ks d = refl
node_points (branch k (node m e bs) rest) l ks d = refl

-- a key that comes before all others has a false part
key_left : (bs : Branches) (l k : List ℕ) (more : List (List ℕ)) (ks : List (List ℕ)) (d : Plain) → Increasing bs → StartsAfter (Some k) bs
    → filled_points (k ∷ more) (kept_points l bs (last_part l ks d)) ≡ branch k (truth false) (filled_points more (kept_points l bs (last_part l ks d)))
key_left done l k more ks d h a = refl
key_left (branch j (truth false) rest) l k more ks d h a = key_left rest l k more ks d h.1 (starts_after k j rest a h.0)
key_left (branch j (truth true) rest) l k more ks d h a = rw (less_differs k j a) refl
key_left (branch j (node m e bs) rest) l k more ks d h a = rw (less_differs k j a) refl

filled_back : (bs : Branches) (l : List ℕ) (ks : List (List ℕ)) (d : Plain) → Increasing bs → filled_points (keys bs) (kept_points l bs (last_part l ks d)) ≡ bs
filled_back done l ks d h = refl
filled_back (branch k (truth false) rest) l ks d h = key_left rest l k (keys rest) ks d h.1 h.0 ∙ ap (branch k (truth false)) (filled_back rest l ks d h.1)
filled_back (branch k (truth true) rest) l ks d h = rw (bytes_self k) (ap (branch k (truth true)) (filled_back rest l ks d h.1))
filled_back (branch k (node m e bs) rest) l ks d h = rw (bytes_self k) (ap (branch k (node m e bs)) (filled_back rest l ks d h.1))

-- a node whose other part isn't
other_node : (bs : Branches) (l : List ℕ) (d : Plain) → Increasing bs → node_of (kept_points l bs (last_part l (keys bs) d)) ≡ node l d bs
other_node bs l d h =
    node_points bs l (keys bs) d
    ∙ ap (pointed_at l (kept_points l bs (last_part l (keys bs) d))) (some_other bs l (keys bs) d)
    ∙ ap (node l d) (filled_back bs l (keys bs) d h)

points_node : (k : List ℕ) (c : Plain) (rest : Branches) (l : List ℕ) (d : Plain) → Increasing (branch k c rest) → Unlike false d (branch k c rest)
    → node_of (kept_points l (branch k c rest) (kept (others l (keys (branch k c rest))) d [])) ≡ node l d (branch k c rest)
points_node k c rest l (truth false) h u = false_node k c rest l u
points_node k c rest l (truth true) h u = other_node (branch k c rest) l (truth true) h
points_node k c rest l (node m e bs) h u = other_node (branch k c rest) l (node m e bs) h

no_point_others : (l : List ℕ) (ks : List (List ℕ)) (inner : Fan) → NoPoint l (put_fan (others l ks) inner stop)
no_point_others l ks inner k = begins_put (point l k) (others l ks) inner stop refl refl

points_back : (k : List ℕ) (c : Plain) (rest : Branches) (l : List ℕ) (d : Plain) → Increasing (branch k c rest) → Unlike false d (branch k c rest) → Back d → Backs (branch k c rest)
    → tree_of (put_paths (paths_at l (branch k c rest) ++ longer_paths (others l (keys (branch k c rest))) (paths_to_true d)) stop) ≡ node l d (branch k c rest)
points_back k c rest l d h u e es =
    let bs = branch k c rest in
    let last = others l (keys bs) in
    let other = put_fan last (fan_of (paths_to_true d)) stop in
    let n : NoPoint l other = no_point_others l (keys bs) (fan_of (paths_to_true d)) in
    ap tree_of (put_append (paths_at l bs) (longer_paths last (paths_to_true d)) stop ∙ ap (put_paths (paths_at l bs)) (put_all last (paths_to_true d) stop refl))
    ∙ tree_by_parts (fan_at l bs other) (at_not_end bs l other h n (not_end_put last (fan_of (paths_to_true d)) stop refl))
    ∙ ap node_of (at_parts bs l other h n es ∙ ap (kept_points l bs) (parts_put last d stop e))
    ∙ points_node k c rest l d h u

-- ---- every tree

unlike_fits : (bs : Branches) (l : List ℕ) (d : Plain) → FitsAll bs l d → Unlike (carries l) d bs
unlike_fits done l d h = tt
unlike_fits (branch k c rest) l d h = (h.3, unlike_fits rest l (carried_part (carries l) c d) h.4)

pub increasing_fits : (bs : Branches) (l : List ℕ) (d : Plain) → FitsAll bs l d → Increasing bs
increasing_fits done l d h = tt
increasing_fits (branch k c rest) l d h = (h.1, increasing_fits rest l (carried_part (carries l) c d) h.4)

number_less : (x y : ℕ) → text_cmp (x ∷ []) (y ∷ []) ≡ Less → x < y
number_less x y h =
    by_ranked (x < y) (x ≡ y) (y < x) (nat_cmp x y) (ranked x y (nat_cmp x y) refl) (λ e p. p)
    (λ e p. let q : Equal ≡ Less = sym (ap (λ o. ordering_then o Equal) e) ∙ h in absurd cc)
    (λ e p. let q : Greater ≡ Less = sym (ap (λ o. ordering_then o Equal) e) ∙ h in absurd cc)

pub rising_fits : (bs : Branches) (d : Plain) (start : ℕ) → start < 2 ^ 96 → FitsAll bs python_level d → StartsAfter (Some (start ∷ [])) bs → Rising start bs
rising_fits done d start low h a = low
rising_fits (branch k c rest) d start low h a =
    let x = h.0.0 in
    let e : k ≡ x ∷ [] = h.0.1 in
    let key : start_of k ≡ x = ap start_of e in
    let back : k ≡ start_of k ∷ [] = e ∙ ap (λ n. n ∷ []) (sym key) in
    let less : text_cmp (start ∷ []) (start_of k ∷ []) ≡ Less = ap (text_cmp (start ∷ [])) (sym back) ∙ a in
    let high : start_of k < 2 ^ 96 = rw key h.0.3 in
    (number_less start (start_of k) less, back, rising_fits rest c (start_of k) high h.4 (subst (λ (z : List ℕ). StartsAfter (Some z) rest) back h.1))

pub is_python : (l : List ℕ) → carries l ≡ true → l ≡ python_level
is_python [] e = absurd cc
is_python (zero ∷ []) e = absurd cc
is_python (suc zero ∷ []) e = refl
is_python (suc (suc i) ∷ []) e = absurd cc
is_python (zero ∷ b ∷ rest) e = absurd cc
is_python (suc zero ∷ b ∷ rest) e = absurd cc
is_python (suc (suc i) ∷ b ∷ rest) e = absurd cc

pub first_positive : (k : List ℕ) (c : Plain) (rest : Branches) (d : Plain) → FitsAll (branch k c rest) python_level d → StartsAfter (Some (0 ∷ [])) (branch k c rest)
first_positive k c rest d h = ap (text_cmp (0 ∷ [])) h.0.1 ∙ ap (λ o. ordering_then o Equal) (cmp_less 0 h.0.0 h.0.2)

node_back : (l : List ℕ) (d : Plain) (k : List ℕ) (c : Plain) (rest : Branches) → FitsAll (branch k c rest) l d → Back d → Backs (branch k c rest) → Back (node l d (branch k c rest))
node_back l d k c rest h e es = go (carries l) refl
  where
    bs : Branches
    bs = branch k c rest

    go : (m : Bool) → carries l ≡ m
        → tree_of (fan_of (if m then paths_from 0 (paths_to_true d) bs else paths_at l bs ++ longer_paths (others l (keys bs)) (paths_to_true d))) ≡ node l d bs
    go true q =
        let p = is_python l q in
        let f = subst (λ (z : List ℕ). FitsAll bs z d) p h in
        python_back k c rest d (rising_fits bs d 0 (omega arith) f (first_positive k c rest d f)) (subst (λ (m : Bool). Unlike m d bs) q (unlike_fits bs l d h)) e es
        ∙ ap (λ z. node z d bs) (sym p)
    go false q = points_back k c rest l d (increasing_fits bs l d h) (subst (λ (m : Bool). Unlike m d bs) q (unlike_fits bs l d h)) e es

mutual
  pub tree_back : (t : Plain) (l : List ℕ) → Fits t l → Back t
  tree_back (truth true) l h = refl
  tree_back (truth false) l h = refl
  tree_back (node k d done) l h = absurd h.1
  tree_back (node k d (branch j c rest)) l h = node_back k d j c rest h.3 (tree_back d k h.2) (parts_back (branch j c rest) k d h.3)

  pub parts_back : (bs : Branches) (l : List ℕ) (d : Plain) → FitsAll bs l d → Backs bs
  parts_back done l d h = tt
  parts_back (branch k c rest) l d h = (tree_back c l h.2, parts_back rest l (carried_part (carries l) c d) h.4)
