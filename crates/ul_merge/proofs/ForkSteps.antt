-- Forks, leaf by leaf.
use Rattle.std.proofs.Common.{◌≡◌, ℕ, ◌+◌, ◌<◌, ◌≤◌, List, [], ◌∷◌, ◌++◌, map, length, get_or, take, Option, Some, None, refl, sym, ap, subst, ◌∙◌, arith}
use Rattle.std.specs.Prelude.{flat_map}
use Rattle.std.specs.Option.{option_map}
use Rattle.std.proofs.lemmas.List.{take_more}
use Rattle.ul_nodes.specs.Plain.{Plain}
use Rattle.ul_tree.specs.Simplify.{Simplifies}
use Rattle.ul_algebra.specs.Spelled.{tree_of}
use Rattle.ul_sound.specs.Merged.{AreForks, AreSimplified}
use Rattle.ul_lock_write.specs.Markers.{fork_marker}
use Rattle.ul_lock_write.proofs.ForCallers.{over_none}
use Rattle.ul_merge.specs.Made.{at_most_one}
use Rattle.ul_merge.specs.Over.{OrOver, with_more}
use Rattle.ul_merge.specs.Views.{ForkLeaf, leaf_of}
use Rattle.ul_merge.proofs.OverFacts.{more_over, one_over, or_over}

appended : (s : Plain) (ls : List ForkLeaf) (x : ForkLeaf) (ts : List Plain) (t : Plain) → AreSimplified s (map leaf_of ls) ts → Simplifies (tree_of x.region) s t
    → AreSimplified s (map leaf_of (ls ++ x ∷ [])) (ts ++ t ∷ [])
appended s [] x ts t h k = subst (λ (us : List Plain). AreSimplified s (leaf_of x ∷ []) (us ++ t ∷ [])) (sym h) (k, refl)
appended s (l ∷ ls) x [] t h k = absurd h
appended s (l ∷ ls) x (u ∷ ts) t h k = (h.0, appended s ls x ts t h.1 k)

-- one leaf more
pub one_more : (s : Plain) (ls : List ForkLeaf) (i : ℕ) (x : ForkLeaf) (ts : List Plain) (t : Plain) → i < length ls → x ≡ get_or ls i x → AreSimplified s (map leaf_of (take i ls)) ts
    → Simplifies (tree_of x.region) s t → AreSimplified s (map leaf_of (take (i + 1) ls)) (ts ++ t ∷ [])
one_more s ls i x ts t lt e h k = subst (λ (ks : List ForkLeaf). AreSimplified s (map leaf_of ks) (ts ++ t ∷ []))
    (sym (take_more ls i x lt ∙ ap (λ (y : ForkLeaf). take i ls ++ y ∷ []) (sym e))) (appended s (take i ls) x ts t h k)

-- what a leaf's region becomes
abbrev HasFork : Plain → ForkLeaf → Option Plain → Type 0
HasFork s x None = ⊥
HasFork s x (Some t) = Simplifies (tree_of x.region) s t

-- one leaf more, where not all need be printed
pub fork_over : (s : Plain) (ls : List ForkLeaf) (i : ℕ) (x : ForkLeaf) (row now : Option (List Plain)) (o : Option Plain) → i < length ls → x ≡ get_or ls i x
    → OrOver (flat_map fork_marker) (AreSimplified s (map leaf_of (take i ls))) row → OrOver fork_marker (Simplifies (tree_of x.region) s) o → now ≡ with_more row (option_map (λ t. Some t) o)
    → OrOver (flat_map fork_marker) (AreSimplified s (map leaf_of (take (i + 1) ls))) now
fork_over s ls i x row now o lt at k h e = subst (OrOver (flat_map fork_marker) (AreSimplified s (map leaf_of (take (i + 1) ls)))) (sym e)
    (more_over fork_marker (AreSimplified s (map leaf_of (take i ls))) (AreSimplified s (map leaf_of (take (i + 1) ls))) (HasFork s x) step row (option_map (λ t. Some t) o) k
    (one_over fork_marker (Simplifies (tree_of x.region) s) (HasFork s x) (λ t g. g) o h))
  where
    step : (ts : List Plain) (o : Option Plain) → AreSimplified s (map leaf_of (take i ls)) ts → HasFork s x o → AreSimplified s (map leaf_of (take (i + 1) ls)) (ts ++ at_most_one o)
    step ts None l g = absurd g
    step ts (Some t) l g = one_more s ls i x ts t lt at l g

-- fewer than two leaves have no forks
few_forks : (s : Plain) (ls : List ForkLeaf) → length ls < 2 → AreForks s (map leaf_of ls) []
few_forks s [] h = refl
few_forks s (l ∷ []) h = refl
few_forks s (l ∷ m ∷ ls) h = absurd (omega (arith, h))

pub few_over : (s : Plain) (ls : List ForkLeaf) (ts : List Plain) → length ls < 2 → ts ≡ [] → OrOver (flat_map fork_marker) (AreForks s (map leaf_of ls)) (Some ts)
few_over s ls ts h e = subst (λ (us : List Plain). OrOver (flat_map fork_marker) (AreForks s (map leaf_of ls)) (Some us)) (sym e) (few_forks s ls h, over_none)

-- two and more have one each
many_forks : (s : Plain) (ls : List ForkLeaf) (ts : List Plain) → 2 ≤ length ls → AreSimplified s (map leaf_of ls) ts → AreForks s (map leaf_of ls) ts
many_forks s [] ts n h = h
many_forks s (l ∷ []) ts n h = absurd (omega (arith, n))
many_forks s (l ∷ m ∷ ls) ts n h = h

pub many_over : (s : Plain) (ls : List ForkLeaf) (r : Option (List Plain)) → 2 ≤ length ls → OrOver (flat_map fork_marker) (AreSimplified s (map leaf_of ls)) r → OrOver (flat_map fork_marker) (AreForks s (map leaf_of ls)) r
many_over s ls r n h = or_over (flat_map fork_marker) (AreSimplified s (map leaf_of ls)) (AreForks s (map leaf_of ls)) (λ ts k. many_forks s ls ts n k) r h
