-- Nodes that are looked up by their places.
use Rattle.std.specs.Prelude.{All, Contains, bytes_eq, slice_get, is_some}
use Rattle.std.specs.HashMap.{HashMap, get}
use Rattle.std.specs.List.{AllZip}
use Rattle.std.proofs.Common.{◌≡◌, ◌<◌, ◌+◌, ◌⊎◌, ℕ, List, [], ◌∷◌, length, get_or, Bool, true, false, not, cond, Option, Some, None, inl, inr, refl, sym, ap, subst, ◌∙◌}
use Rattle.std.proofs.lemmas.List.Elements.{All-weaker}
use Rattle.std.proofs.lemmas.Option.{same_Some, slice_get-get_or}
use Rattle.ul_base.specs.declared.node.Node.{Node}
use Rattle.ul_base.specs.Nodes.{node_eq}
use Rattle.ul_requirement.specs.Truth.{base}
use Rattle.ul_prepared.specs.Aims.{HasNode}
use Rattle.ul_prepared.specs.Gathered.{ArePlaces, HasBaseFor, IsNamed, IsNamedBy}
use Rattle.ul_prepared.specs.Places.{AreNodesOf, IsBased, IsBasePlace, IsFound, IsFoundAt, IsIndexOf, IsNodeIndex, IsOneOf, StandsAt}
use Rattle.ul_prepared.specs.Prepared.{AreNodesAt}
use Rattle.ul_prepared.specs.declared.prepared.NameFacts.{NameFacts}
use Rattle.ul_prepared.specs.declared.prepared.Planned.{Planned}
use Rattle.ul_prepared.proofs.Taken.{node_eq-Decides, one_put, one_stays}
use Rattle.ul_prepared.proofs.Zipped.{all_there, below_or}

-- ---- what is looked up

-- a node stands where it is found, and its name is known
pub node_found : {S : Type 0} (names : List NameFacts) (nodes : List Planned) (index : HashMap Node ℕ S) (n : Node) (k : ℕ) → IsNodeIndex names nodes index → IsFoundAt index n k → HasNode names nodes n k
node_found names nodes index n k has at =
    let there = has.places.right n k at in
    let named = all_there (IsNamed names) nodes k there.0 has.named there.1 in
    (named.0, record { planned = there.0; at = there.1; node = there.2; facts = named.1 })

-- the base that is found is the one of the node's name
pub base_found : {S : Type 0} (names : List NameFacts) (nodes : List Planned) (index : HashMap Node ℕ S) (p : Planned) (b : Option ℕ) → IsNodeIndex names nodes index → IsNamed names p → IsBased nodes p → IsBasePlace index p.node b → HasBaseFor names nodes p b
base_found names nodes index p None has named based h = (named.0, named.1, h)
base_found names nodes index p (Some b) has named based h =
    let there = has.places.right (base p.node.name) b h.1 in
    let same : there.0.name ≡ p.name = based.alike b there.0 there.1 (ap (λ (n : Node). n.name) there.2) in
    (named.0, named.1, (h.0, record { planned = there.0; at = there.1; node = there.2; facts = ap (slice_get names) same ∙ named.1 }))

-- there is an extra where there isn't none
some_there : {A : Type 0} (o : Option A) (b : Bool) → is_some o ≡ not b → b ≡ false → o ≡ None → ⊥
some_there o b told off none = let never : false ≡ true = sym (ap is_some none) ∙ told ∙ ap not off in cc

-- the place of a node's base is where that is found
pub base_place : {S : Type 0} (index : HashMap Node ℕ S) (n own : Node) (b : Bool) (k : ℕ) → is_some n.extra ≡ not b → b ≡ false → own ≡ base n.name → IsFoundAt index own k → IsBasePlace index n (Some k)
base_place index n own b k told off e at = (some_there n.extra b told off, subst (λ (m : Node). IsFoundAt index m k) e at)

-- nodes stand at the places at which they are found
pub nodes_found : {S : Type 0} (nodes : List Planned) (index : HashMap Node ℕ S) → IsIndexOf nodes index → (ks : List ℕ) (ns : List Node) → AllZip (IsFoundAt index) ns ks → AreNodesAt nodes ks ns
nodes_found nodes index has [] [] h = tt
nodes_found nodes index has [] (n ∷ ns) h = absurd h
nodes_found nodes index has (k ∷ ks) [] h = absurd h
nodes_found nodes index has (k ∷ ks) (n ∷ ns) h = let there = has.right n k h.0 in record {
  planned = there.0;
  at = there.1;
  node = there.2;
  rest = nodes_found nodes index has ks ns h.1;
}

-- ---- the places of nodes, one after another

-- the places of those of the nodes that stand below a place
pub record ArePlacesTo {S : Type 0} (nodes : List Planned) (i : ℕ) (index : HashMap Node ℕ S) : Type 0 where
  pub whole : (n : Node) (k : ℕ) → k < i → StandsAt nodes n k → IsFound index n
  pub right : (n : Node) (k : ℕ) → IsFoundAt index n k → StandsAt nodes n k

module _ {S : Type 0} (nodes : List Planned) (old now : HashMap Node ℕ S) (key : Node) (i : ℕ) (p : Planned) (l : i < length nodes) (at : p ≡ get_or nodes i p) (keyed : key ≡ p.node)
    (updates : (n : Node) → get node_eq now n ≡ cond (node_eq key n) (Some i) (get node_eq old n)) where
  here : slice_get nodes i ≡ Some p
  here = slice_get-get_or nodes i p l ∙ ap Some (sym at)

  put : IsFound now key
  put = one_put node_eq node_eq-Decides old now key i updates

  whole_next : (was : ArePlacesTo nodes i old) (n : Node) (k : ℕ) → (k < i) ⊎ (i ≡ k) → StandsAt nodes n k → IsFound now n
  whole_next was n k (inl before) stands = one_stays node_eq node_eq-Decides old now key i updates n (was.whole n k before stands)
  whole_next was n k (inr e) stands =
      let same : p ≡ stands.0 = same_Some p stands.0 (sym here ∙ (ap (slice_get nodes) e ∙ stands.1)) in
      subst (IsFound now) (keyed ∙ (ap (λ (q : Planned). q.node) same ∙ stands.2)) put

  right_next : (was : ArePlacesTo nodes i old) (n : Node) (k : ℕ) (b : Bool) → node_eq key n ≡ b → cond b (Some i) (get node_eq old n) ≡ Some k → StandsAt nodes n k
  right_next was n k true t e = subst (StandsAt nodes n) (same_Some i k e) (p, here, sym keyed ∙ (node_eq-Decides key n).0 t)
  right_next was n k false t e = was.right n k e

  -- one place more
  pub places_next : ArePlacesTo nodes i old → ArePlacesTo nodes (i + 1) now
  places_next was = record {
    whole = λ n k below stands. whole_next was n k (below_or k i below) stands;
    right = λ n k e. right_next was n k (node_eq key n) refl (sym (updates n) ∙ e);
  }

-- ---- bases

-- nodes of which each has the place that a map has of its name, and of whose bases each is there
pub all_based : {S : Type 0} (places : HashMap (List ℕ) ℕ S) (ns : List Node) (nodes : List Planned) → All (IsNamedBy places) nodes → AreNodesOf ns nodes → ((n : Node) → Contains ns n → Contains ns (base n.name)) → All (IsBased nodes) nodes
all_based places ns nodes named are based = All-weaker (λ p. IsNamedBy places p × IsOneOf ns p) (IsBased nodes)
    (λ p h. record {
      base = are.whole (base p.node.name) (based p.node h.1);
      alike = λ k q at same. same_Some q.name p.name (sym (all_there (IsNamedBy places) nodes k q named at) ∙ (ap (get bytes_eq places) same ∙ h.0));
    })
    nodes (λ k d l. (named k d l, are.only k d l))

-- the names of such nodes are known
pub all_named : {S : Type 0} (names : List NameFacts) (places : HashMap (List ℕ) ℕ S) (nodes : List Planned) → ArePlaces names places → All (IsNamedBy places) nodes → All (IsNamed names) nodes
all_named names places nodes are named = All-weaker (IsNamedBy places) (IsNamed names) (λ p e. are p.node.name p.name e) nodes named
