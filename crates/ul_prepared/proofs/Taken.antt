-- Names and nodes that are taken in, and their places.
use Rattle.std.specs.Prelude.{All, Contains, slice_get, is_some}
use Rattle.std.specs.HashMap.{HashMap, get}
use Rattle.std.specs.HashSet.{HashSet, contains}
use Rattle.std.specs.Bool.{Decides}
use Rattle.std.specs.Ordering.{is_eq}
use Rattle.std.specs.declared.cmp.Ordering.{Ordering}
use Rattle.std.specs.declared.cmp.Ordering.TheVariants.{Less, Equal, Greater}
use Rattle.std.proofs.Common.{◌≡◌, ◌<◌, ◌≤◌, ◌+◌, ◌⊎◌, inl, inr, ℕ, List, [], ◌∷◌, ◌++◌, length, map, Bool, true, false, not, cond, Option, Some, None, bytes_eq, arith, refl, sym, ap, subst, ◌∙◌}
use Rattle.std.proofs.lemmas.Cmp.{tied_itself}
use Rattle.std.proofs.lemmas.List.Elements.{All-cons, All-nil, All-weaker, Contains-append_left, Contains-push}
use Rattle.std.proofs.lemmas.Option.{same_Some, slice_get_within}
use Rattle.std.proofs.lemmas.Slice.Eq.{bytes_eq-Decides}
use Rattle.ul_base.specs.declared.node.Node.{Node}
use Rattle.ul_base.specs.Nodes.{node_cmp, node_cmp-total, node_eq, node_ties}
use Rattle.ul_base.proofs.ForCallers.{node_cmp_same}
use Rattle.ul_requirement.specs.Fields.{RequirementFields}
use Rattle.ul_requirement.specs.Truth.{base, targets, with_extra}
use Rattle.ul_prepared.specs.Gathered.{ArePlaces, HasName, HasPlace, IsPlacedNode, TakesMore}
use Rattle.ul_prepared.specs.Lists.{lists_at, lists_in, lists_there}
use Rattle.ul_prepared.specs.Targets.{HasTargets, HaveTargets, ListsTargets}
use Rattle.ul_prepared.specs.declared.gathering.Gathered.{Gathered}
use Rattle.ul_prepared.specs.declared.prepared.NameFacts.{NameFacts}
use Rattle.ul_prepared.specs.declared.releases.Releases.{Releases}
use Rattle.ul_prepared.proofs.ListPlaces.{push_stays, push_there}
use Rattle.ul_prepared.proofs.TargetFacts.{lists_into}
use Rattle.ul_prepared.proofs.Zipped.{below_or, item_there, there_all}

-- ---- nodes

tie_is : (o : Ordering) → is_eq o ≡ true → o ≡ Equal
tie_is Less e = cc
tie_is Equal e = refl
tie_is Greater e = cc

-- nodes are equal exactly where the test says so
pub node_eq-Decides : (a b : Node) → Decides (node_eq a b) (a ≡ b)
node_eq-Decides a b = (
  λ e. node_cmp_same a b (tie_is (node_cmp a b) (sym (node_ties a b) ∙ e)),
  λ e. subst (λ (z : Node). node_eq a z ≡ true) e (node_ties a a ∙ ap is_eq (tied_itself node_cmp-total a)),
)

no_extra : (o : Option (List ℕ)) (b : Bool) → is_some o ≡ not b → b ≡ true → o ≡ None
no_extra None b told on = refl
no_extra (Some x) b told on = let never : true ≡ false = told ∙ ap not on in cc

-- a node without an extra is its name's base
pub base_is : (n : Node) (b : Bool) → is_some n.extra ≡ not b → b ≡ true → n ≡ base n.name
base_is n b told on = let e = no_extra n.extra b told on in λ i. record { name = n.name; extra = e i }

-- ---- one key more in a map

-- there is a place
abbrev HasOne : Option ℕ → Type 0
HasOne o = (k : ℕ) × (o ≡ Some k)

module _ {K S : Type 0} (eq : K → K → Bool) (alike : (a b : K) → Decides (eq a b) (a ≡ b)) (old now : HashMap K ℕ S) (key : K) (place : ℕ) (updates : (n : K) → get eq now n ≡ cond (eq key n) (Some place) (get eq old n)) where
  one_by : (b : Bool) (n : K) (k : ℕ) → get eq old n ≡ Some k → HasOne (cond b (Some place) (get eq old n))
  one_by true n k e = (place, refl)
  one_by false n k e = (k, e)

  -- what has a place has one where there is one key more
  pub one_stays : (n : K) → HasOne (get eq old n) → HasOne (get eq now n)
  one_stays n h = subst HasOne (sym (updates n)) (one_by (eq key n) n h.0 h.1)

  -- and that key has one
  pub one_put : HasOne (get eq now key)
  one_put = (place, updates key ∙ ap (λ (b : Bool). cond b (Some place) (get eq old key)) ((alike key key).1 refl))

module _ {S : Type 0} (old now : HashMap (List ℕ) ℕ S) (key : List ℕ) (place : ℕ) (updates : (n : List ℕ) → get bytes_eq now n ≡ cond (bytes_eq key n) (Some place) (get bytes_eq old n)) where
  pub places_stay : (ns : List Node) → All (IsPlacedNode old) ns → All (IsPlacedNode now) ns
  places_stay ns a = All-weaker (IsPlacedNode old) (IsPlacedNode now) (λ n h. one_stays bytes_eq bytes_eq-Decides old now key place updates n.name h) ns a

  pub place_put : HasPlace now key
  place_put = one_put bytes_eq bytes_eq-Decides old now key place updates

  name_by : (fs gs : List NameFacts) (f : NameFacts) (n : List ℕ) (k : ℕ) (b : Bool) → bytes_eq key n ≡ b → gs ≡ fs ++ f ∷ [] → place ≡ length fs → f.name ≡ key → ArePlaces fs old → cond b (Some place) (get bytes_eq old n) ≡ Some k → HasName gs n k
  name_by fs gs f n k true t e size named h at = (
    f,
    subst (λ (z : List NameFacts). slice_get z k ≡ Some f) (sym e) (subst (λ (j : ℕ). slice_get (fs ++ f ∷ []) j ≡ Some f) (sym size ∙ same_Some place k at) (push_there fs f)),
    named ∙ (bytes_eq-Decides key n).0 t,
  )
  name_by fs gs f n k false t e size named h at = let was = h n k at in
      (was.0, subst (λ (z : List NameFacts). slice_get z k ≡ Some was.0) (sym e) (push_stays fs f k was.0 was.1), was.2)

  -- the places are right with one name more, which stands behind the others
  pub places_more : (fs gs : List NameFacts) (f : NameFacts) → gs ≡ fs ++ f ∷ [] → place ≡ length fs → f.name ≡ key → ArePlaces fs old → ArePlaces gs now
  places_more fs gs f e size named h n k at = name_by fs gs f n k (bytes_eq key n) refl e size named h (sym (updates n) ∙ at)

  module _ (ns ms : List Node) (b : Node) (more : ms ≡ ns ++ b ∷ []) (own : b ≡ base key) (was : (n : List ℕ) → HasPlace old n → Contains ns (base n)) where
    base_by : (n : List ℕ) (c : Bool) → bytes_eq key n ≡ c → HasOne (cond c (Some place) (get bytes_eq old n)) → Contains (ns ++ b ∷ []) (base n)
    base_by n true t h = subst (Contains (ns ++ b ∷ [])) (own ∙ ap base ((bytes_eq-Decides key n).0 t)) (Contains-push ns b)
    base_by n false t h = Contains-append_left ns (b ∷ []) (base n) (was n h)

    -- each name has its base with one name more, whose base stands behind the others
    pub bases_more : (n : List ℕ) → HasPlace now n → Contains ms (base n)
    bases_more n h = subst (λ (z : List Node). Contains z (base n)) (sym more) (base_by n (bytes_eq key n) refl (subst HasOne (updates n) h))

-- ---- one node more

-- what was there is there
pub node_stays : (ns ms : List Node) (b n : Node) → ms ≡ ns ++ b ∷ [] → Contains ns n → Contains ms n
node_stays ns ms b n more c = subst (λ (z : List Node). Contains z n) (sym more) (Contains-append_left ns (b ∷ []) n c)

pub node_put : (ns ms : List Node) (b : Node) → ms ≡ ns ++ b ∷ [] → Contains ms b
node_put ns ms b more = subst (λ (z : List Node). Contains z b) (sym more) (Contains-push ns b)

module _ {S : Type 0} (old now : HashSet Node S) (key : Node) (updates : (n : Node) → contains node_eq now n ≡ cond (node_eq key n) true (contains node_eq old n)) (ms : List Node) where
  seen_by : (n : Node) (b : Bool) → node_eq key n ≡ b → Contains ms key → (contains node_eq old n ≡ true → Contains ms n) → cond b true (contains node_eq old n) ≡ true → Contains ms n
  seen_by n true t own was e = subst (Contains ms) ((node_eq-Decides key n).0 t) own
  seen_by n false t own was e = was e

  -- each node that was seen is there, with one more
  pub seen_more : Contains ms key → ((n : Node) → contains node_eq old n ≡ true → Contains ms n) → (n : Node) → contains node_eq now n ≡ true → Contains ms n
  seen_more own was n e = seen_by n (node_eq key n) refl own (was n) (sym (updates n) ∙ e)

-- ---- where more is taken in

pub takes_none : (g : Gathered) → TakesMore g g
takes_none g = record { nodes = λ n c. c; releases = λ k r e. e }

pub takes_then : (f g h : Gathered) → TakesMore f g → TakesMore g h → TakesMore f h
takes_then f g h first then = record { nodes = λ n c. then.nodes n (first.nodes n c); releases = λ k r e. then.releases k r (first.releases k r e) }

-- the lists of a name that was there are the same
pub same_lists : (f g : Gathered) (k : ℕ) → k < length f.releases.items → TakesMore f g → lists_at g.releases.items k ≡ lists_at f.releases.items k
same_lists f g k l more = let r = item_there f.releases.items k l in
    ap lists_there (more.releases k r.0 r.1 ∙ sym r.1)

-- the targets of a requirement without extras
pub base_alone : (P : Node → Type 0) (q : RequirementFields) → length q.extras ≡ 0 → P (base q.name) → HasTargets P q
base_alone P q none p = subst (λ (xs : List (List ℕ)). All P (base q.name ∷ map (with_extra q.name) xs)) (sym (empty q.extras none)) (All-cons P (base q.name) [] p (All-nil P))
  where
    empty : (xs : List (List ℕ)) → length xs ≡ 0 → xs ≡ []
    empty [] e = refl
    empty (x ∷ xs) e = absurd (omega (arith, e))

-- ---- names whose requirements were met

-- the targets of what the names below a place require
abbrev pub MetTo : Gathered → ℕ → Type 0
MetTo g i = (k : ℕ) (r : Releases) → k < i → slice_get g.releases.items k ≡ Some r → ListsTargets (Contains g.nodes.items) r

module _ (f g : Gathered) (i : ℕ) (more : TakesMore f g) (l : i < length f.releases.items) where
  met_by : MetTo f i → (k : ℕ) (r : Releases) → k < i → slice_get g.releases.items k ≡ Some r → ListsTargets (Contains g.nodes.items) r
  met_by was k r below at =
      let s = item_there f.releases.items k (omega (arith, below, l)) in
      let same : s.0 ≡ r = same_Some s.0 r (sym (more.releases k s.0 s.1) ∙ at) in
      lists_into (Contains f.nodes.items) (Contains g.nodes.items) more.nodes (lists_in r) (was k r below (s.1 ∙ ap Some same))

  met_or : MetTo f i → All (HaveTargets (Contains g.nodes.items)) (lists_at g.releases.items i) → (k : ℕ) (r : Releases) → (k < i) ⊎ (i ≡ k) → slice_get g.releases.items k ≡ Some r → ListsTargets (Contains g.nodes.items) r
  met_or was own k r (inl below) at = met_by was k r below at
  met_or was own k r (inr e) at = subst (λ (o : Option Releases). All (HaveTargets (Contains g.nodes.items)) (lists_there o)) (ap (slice_get g.releases.items) e ∙ at) own

  -- one name more
  pub met_next : MetTo f i → All (HaveTargets (Contains g.nodes.items)) (lists_at g.releases.items i) → MetTo g (i + 1)
  met_next was own k r below at = met_or was own k r (below_or k i below) at

-- all names
pub met_all : (g : Gathered) (i : ℕ) → length g.releases.items ≤ i → MetTo g i → All (ListsTargets (Contains g.nodes.items)) g.releases.items
met_all g i past met = there_all (ListsTargets (Contains g.nodes.items)) g.releases.items (λ k r at. met k r (let l = slice_get_within g.releases.items k r at in omega (arith, l, past)) at)
