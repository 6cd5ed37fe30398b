-- Two trees compared branch by branch, and the sizes of a tree's parts.
use Rattle.std.proofs.Common.{◌≡◌, ◌≢◌, ℕ, suc, zero, ◌≤◌, ◌<◌, List, Bool, true, false, refl, ap, sym, ◌∙◌, arith, Option, Some, None}
use Rattle.std.specs.Ordering.{is_eq}
use Rattle.std.specs.Option.{is_some, option_map}
use Rattle.std.specs.Str.{bytes_eq}
use Rattle.std.proofs.lemmas.Map.Text.{is_eq-slice_cmp}
use Rattle.ul_nodes.specs.Plain.{Plain, truth, node, Branches, done, branch, text_cmp}
use Rattle.ul_nodes.specs.Apply.{size, sizes, both, same, sames}
use Rattle.ul_nodes.specs.Keys.{top_of, rest_of, branches_of, branch_count, branches_from, same_tops, level_view}
use Rattle.ul_nodes.specs.declared.level.Level.{Level}

-- ---- sizes

pub size_rest : (t : Plain) → top_of t ≢ None → size (rest_of t) < size t
size_rest (truth b) h = absurd (h refl)
size_rest (node l d bs) h = omega arith

sizes_from : (bs : Branches) (k : List ℕ) (c : Plain) (r : Branches) (i : ℕ) → branches_from i bs ≡ branch k c r → size c ≤ sizes bs
sizes_from done k c r zero q = cc
sizes_from done k c r (suc i) q = cc
sizes_from (branch j e rest) k c r zero q = let s : e ≡ c = cc in let z : size e ≡ size c = ap size s in omega arith
sizes_from (branch j e rest) k c r (suc i) q = let s = sizes_from rest k c r i q in omega (arith, s)

pub size_part : (t : Plain) (k : List ℕ) (c : Plain) (r : Branches) (i : ℕ) → branches_from i (branches_of t) ≡ branch k c r → size c < size t
size_part (truth b) k c r zero q = cc
size_part (truth b) k c r (suc i) q = cc
size_part (node l d bs) k c r i q = let s = sizes_from bs k c r i q in omega (arith, s)

-- ---- sameness

both_false : (a : Bool) → both a false ≡ false
both_false true = refl
both_false false = refl

pub tops_differ : (s t : Plain) → same_tops s t ≡ false → same s t ≡ false
tops_differ (truth a) (truth b) h = h
tops_differ (truth a) (node k e cs) h = refl
tops_differ (node l d bs) (truth b) h = refl
tops_differ (node l d bs) (node k e cs) h = ap (λ b. both b (both (same d e) (sames bs cs))) (sym (is_eq-slice_cmp l k) ∙ h)

pub nodes_same : (s t : Plain) → top_of s ≢ None → same_tops s t ≡ true → same s t ≡ both (same (rest_of s) (rest_of t)) (sames (branches_of s) (branches_of t))
nodes_same (truth a) t n h = absurd (n refl)
nodes_same (node l d bs) (truth b) n h = cc
nodes_same (node l d bs) (node k e cs) n h = ap (λ b. both b (both (same d e) (sames bs cs))) (sym (is_eq-slice_cmp l k) ∙ h)

pub sames_counts : (bs cs : Branches) → branch_count bs ≢ branch_count cs → sames bs cs ≡ false
sames_counts done done n = absurd (n refl)
sames_counts done (branch j e cs) n = refl
sames_counts (branch k c bs) done n = refl
sames_counts (branch k c bs) (branch j e cs) n =
    ap (λ z. both (bytes_eq k j) (both (same c e) z)) (sames_counts bs cs (λ q. n (ap suc q)))
    ∙ ap (both (bytes_eq k j)) (both_false (same c e)) ∙ both_false (bytes_eq k j)

pub counts_differ : (s t : Plain) → top_of s ≢ None → same_tops s t ≡ true → branch_count (branches_of s) ≢ branch_count (branches_of t) → same s t ≡ false
counts_differ s t n h m = nodes_same s t n h ∙ ap (both (same (rest_of s) (rest_of t))) (sames_counts (branches_of s) (branches_of t) m) ∙ both_false (same (rest_of s) (rest_of t))

-- one branch of each
pub next_same : (bs cs : Branches) (k j : List ℕ) (c e : Plain) (r q : Branches) → bs ≡ branch k c r → cs ≡ branch j e q
    → sames bs cs ≡ both (is_eq (text_cmp k j)) (both (same c e) (sames r q))
next_same bs cs k j c e r q x y =
    ap (λ z. sames z cs) x ∙ ap (sames (branch k c r)) y ∙ ap (λ b. both b (both (same c e) (sames r q))) (sym (is_eq-slice_cmp k j))

pub both_ends : (a b : Bool) → a ≡ false → both a b ≡ false
both_ends a b h = ap (λ z. both z b) h

pub both_goes : (a b : Bool) → a ≡ true → both a b ≡ b
both_goes a b h = ap (λ z. both z b) h

pub is_node : (r : Option Level) (t : Plain) → is_some r ≡ true → option_map level_view r ≡ top_of t → top_of t ≢ None
is_node None t h e = cc
is_node (Some l) t h e = λ q. let p : Some (level_view l) ≡ None = e ∙ q in cc
