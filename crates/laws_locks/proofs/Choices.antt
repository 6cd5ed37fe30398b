-- What leaves chose, as a list, and that it is decided.
use Rattle.std.proofs.Common.{◌≡◌, List, [], ◌∷◌, flat_map, Bool, true, false, cond, Option, Some, None, Contains, refl}
use Rattle.std.proofs.Common.{sym, ap, ◌∙◌, subst, ⊎_elim}
use Rattle.std.specs.Cmp.{Equal-is}
use Rattle.ul_base.specs.Nodes.{node_cmp, node_eq, node_ties}
use Rattle.ul_base.specs.declared.node.Node.{Node}
use Rattle.ul_base.proofs.ForCallers.{contains_first, contains_later, contains_cases, contains_flat, contains_from_flat}
use Rattle.ul_base.proofs.ForCallers.{node_cmp_same, none_in}
use Rattle.ul_version.specs.Fields.{Fields}
use Rattle.ul_index.specs.Catalogs.{Packages}
use Rattle.ul_index.specs.Eligible.{eligible}
use Rattle.ul_index.specs.Serves.{Selection, choice_of}
use Rattle.ul_lock.specs.Walk.{Pick}
use Rattle.ul_sound.specs.Leaves.{LeafFields, IsChosen}
use Rattle.laws_trees.specs.Decided.{Decided}
use Rattle.laws_trees.proofs.ForCallers.{option_decided, some_member, version_decided}

-- ---- the picks that count

-- with a node, where it has a version
abbrev with_choice : Node → Option Fields → List Pick → List Pick
with_choice n None more = more
with_choice n (Some v) more = (n, v) ∷ more

-- the nodes of pairs with the versions that the selection has for them
abbrev chosen_in : Selection → Selection → List Pick
chosen_in s [] = []
chosen_in s (d ∷ ds) = with_choice d.0 (choice_of s d.0) (chosen_in s ds)

from_choice : (s : Selection) (n : Node) (o : Option Fields) (more : List Pick) (q : Pick) → choice_of s n ≡ o
    → (Contains more q → choice_of s q.0 ≡ Some q.1)
    → Contains (with_choice n o more) q → choice_of s q.0 ≡ Some q.1
from_choice s n None more q e later m = later m
from_choice s n (Some v) more q e later m = ⊎_elim
    (λ i. subst (λ (k : Pick). choice_of s k.0 ≡ Some k.1) (sym i) e) later (contains_cases (n, v) more q m)

from_chosen : (s ds : Selection) (q : Pick) → Contains (chosen_in s ds) q → choice_of s q.0 ≡ Some q.1
from_chosen s [] q m = absurd (none_in q m)
from_chosen s (d ∷ ds) q m = from_choice s d.0 (choice_of s d.0) (chosen_in s ds) q refl (from_chosen s ds q) m

choice_first : (n : Node) (o : Option Fields) (v : Fields) (more : List Pick) → o ≡ Some v
    → Contains (with_choice n o more) (n, v)
choice_first n None v more e = cc
choice_first n (Some u) v more e = let same : u ≡ v = cc in
    subst (λ (x : Fields). Contains ((n, u) ∷ more) (n, x)) same (contains_first (n, u) more)

choice_later : (n : Node) (o : Option Fields) (more : List Pick) (q : Pick) → Contains more q
    → Contains (with_choice n o more) q
choice_later n None more q m = m
choice_later n (Some u) more q m = contains_later (n, u) more q m

nodes_same : (a b : Node) → node_eq a b ≡ true → a ≡ b
nodes_same a b e = node_cmp_same a b ((Equal-is (node_cmp a b)).0 (sym (node_ties a b) ∙ e))

module _ (s : Selection) (d : Node × Fields) (ds : Selection) (n : Node) (v : Fields) (e : choice_of s n ≡ Some v)
    (later : choice_of ds n ≡ Some v → Contains (chosen_in s ds) (n, v)) where
  chosen_here : (b : Bool) → node_eq d.0 n ≡ b → cond b (Some d.1) (choice_of ds n) ≡ Some v
      → Contains (chosen_in s (d ∷ ds)) (n, v)
  chosen_here true t k =
      let same : d.0 ≡ n = nodes_same d.0 n t in
      subst (λ (x : Node). Contains (with_choice d.0 (choice_of s d.0) (chosen_in s ds)) (x, v)) same
      (choice_first d.0 (choice_of s d.0) v (chosen_in s ds) (ap (choice_of s) same ∙ e))
  chosen_here false t k = choice_later d.0 (choice_of s d.0) (chosen_in s ds) (n, v) (later k)

to_chosen : (s ds : Selection) (n : Node) (v : Fields) → choice_of s n ≡ Some v → choice_of ds n ≡ Some v
    → Contains (chosen_in s ds) (n, v)
unfolding choice_of
to_chosen s [] n v e h = cc
to_chosen s (d ∷ ds) n v e h = chosen_here s d ds n v e (to_chosen s ds n v e) (node_eq d.0 n) refl h

-- the nodes that a leaf chose, with their versions
abbrev picks_of : LeafFields → List Pick
picks_of l = chosen_in l.picks l.picks

-- the nodes that leaves chose, with their versions
abbrev pub chosen_by : List LeafFields → List Pick
chosen_by leaves = flat_map picks_of leaves

pub chosen_to : (leaves : List LeafFields) (n : Node) (v : Fields) → IsChosen leaves n v
    → Contains (chosen_by leaves) (n, v)
chosen_to leaves n v h = contains_flat picks_of leaves h.0 (n, v) h.1 (to_chosen h.0.picks h.0.picks n v h.2 h.2)

pub chosen_from : (leaves : List LeafFields) (q : Pick) → Contains (chosen_by leaves) q → IsChosen leaves q.0 q.1
chosen_from leaves q m =
    let found : (l : LeafFields) × Contains leaves l × Contains (picks_of l) q =
    contains_from_flat picks_of leaves q m in
    (found.0, found.1, from_chosen found.0.picks found.0.picks q found.2)

-- ---- decided

-- whether a leaf chose a node at a version
pub choice_decided : (l : LeafFields) (n : Node) (v : Fields) → Decided (choice_of l.picks n ≡ Some v)
choice_decided l n v = option_decided version_decided (choice_of l.picks n) (Some v)

-- whether some leaf did
pub chosen_decided : (leaves : List LeafFields) (n : Node) (v : Fields) → Decided (IsChosen leaves n v)
chosen_decided leaves n v =
    some_member (λ (l : LeafFields). choice_of l.picks n ≡ Some v) leaves (λ l m. choice_decided l n v)

-- each leaf chose eligible versions alone
abbrev pub ChoseEligible : Packages → List LeafFields → Type 0
ChoseEligible c leaves = (l : LeafFields) → Contains leaves l → (n : Node) (v : Fields) → choice_of l.picks n ≡ Some v
    → Contains (eligible c n.name) v

-- what some leaf chose is eligible
pub chosen_eligible : (c : Packages) (leaves : List LeafFields) → ChoseEligible c leaves → (n : Node) (v : Fields)
    → IsChosen leaves n v → Contains (eligible c n.name) v
chosen_eligible c leaves eligible_in n v h = eligible_in h.0 h.1 n v h.2
