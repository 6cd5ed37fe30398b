-- Regions that agree at every world have equal problems.
use Rattle.std.specs.Prelude.{Contains, slice_get, flat_map}
use Rattle.std.proofs.Common.{◌≡◌, ◌<◌, ℕ, zero, suc, List, [], ◌∷◌, length, get_or, Bool, true, false, not, Decides, Option, Some, None, refl, sym, ap, subst, ◌∙◌, arith}
use Rattle.std.proofs.lemmas.Option.{none-some, same_Some, slice_get_within}
use Rattle.std.specs.declared.cmp.Ordering.TheVariants.{Less}
use Rattle.ul_base.specs.declared.node.Node.{Node}
use Rattle.ul_base.proofs.ForCallers.{contains_first, contains_later, kept_once}
use Rattle.ul_ranges.specs.Flags.{has}
use Rattle.ul_version.specs.Fields.{Fields}
use Rattle.ul_version.specs.Order.{version_cmp}
use Rattle.ul_version.proofs.ForCallers.{version_total}
use Rattle.ul_problem.specs.Plain.{Plain, node_at, needs_in, size_in, size_of}
use Rattle.ul_problem.specs.Problems.{HasBase, Increases, IsBaseIn, NodeBefore, VersionBefore}
use Rattle.ul_problem.specs.declared.problem.Need.{Need as PlaceNeed}
use Rattle.ul_problem.specs.declared.problem.NodeFacts.{NodeFacts}
use Rattle.ul_problem.proofs.ForCallers.{need_fits, node_whole}
use Rattle.ul_requirement.specs.Fields.{RequirementFields, WishFields}
use Rattle.ul_requirement.specs.Truth.{base_of}
use Rattle.ul_index.specs.Applied.{IsFirm}
use Rattle.ul_index.specs.Catalogs.{Packages, is_fit, requirements}
use Rattle.ul_index.specs.Eligible.{eligible}
use Rattle.ul_index.specs.Preference.{preference}
use Rattle.ul_index.specs.Regions.{Agree, Region}
use Rattle.ul_index.specs.Serves.{Suits}
use Rattle.ul_region.specs.Best.{Need, needs_of, AreNeeds}
use Rattle.ul_region.specs.Problem.{AreAt, AreNeedsAt, AreVersionsAt, IsAt, IsNeedAt, IsProblemOf}
use Rattle.ul_placing.specs.Laws.{EqualProblems}
use Rattle.ul_placing.proofs.Lists.{there}
use Rattle.ul_placing.proofs.Agreeing.{agree_back, firm_same, kept_same, reached_same, suits_same}
use Rattle.ul_placing.proofs.Covering.{AreIn, covered, level, long_as}
use Rattle.ul_placing.proofs.Rising.{IsNodeLess, not_itself, facts_trans, one_place}

-- ---- lists that are equal element by element

lists_same : {A : Type 0} (xs ys : List A) → length xs ≡ length ys → ((i : ℕ) (x y : A) → slice_get xs i ≡ Some x → slice_get ys i ≡ Some y → x ≡ y) → xs ≡ ys
lists_same [] [] l h = refl
lists_same [] (y ∷ ys) l h = absurd (omega (arith, l))
lists_same (x ∷ xs) [] l h = absurd (omega (arith, l))
lists_same (x ∷ xs) (y ∷ ys) l h = λ i. h 0 x y refl refl i ∷ lists_same xs ys (omega (arith, l)) (λ j a b d e. h (suc j) a b d e) i

-- a flag at a place
flag_there : (s : List Bool) (k : ℕ) (b : Bool) → slice_get s k ≡ Some b → has k s ≡ b
flag_there [] k b e = absurd (none-some b e)
flag_there (x ∷ xs) zero b e = same_Some x b e
flag_there (x ∷ xs) (suc k) b e = flag_there xs k b e

row_there : (s : List (List PlaceNeed)) (k : ℕ) (b : List PlaceNeed) → slice_get s k ≡ Some b → get_or s k [] ≡ b
row_there [] k b e = absurd (none-some b e)
row_there (x ∷ xs) zero b e = same_Some x b e
row_there (x ∷ xs) (suc k) b e = row_there xs k b e

flags_same : (s t : List Bool) → length s ≡ length t → ((k : ℕ) → k < length s → has k s ≡ has k t) → s ≡ t
flags_same s t l h = lists_same s t l (λ i x y d e. sym (flag_there s i x d) ∙ (h i (slice_get_within s i x d) ∙ flag_there t i y e))

decided_same : (a b : Bool) (P Q : Type 0) → Decides (not a) P → Decides (not b) Q → (P → Q) → (Q → P) → a ≡ b
decided_same true true P Q d e f g = refl
decided_same false false P Q d e f g = refl
decided_same true false P Q d e f g = let x : false ≡ true = d.1 (g (e.0 refl)) in cc
decided_same false true P Q d e f g = let x : false ≡ true = e.1 (f (d.0 refl)) in cc

-- ---- places of versions

version_before_itself : (v : Fields) → version_cmp v v ≡ Less → ⊥
version_before_itself v e = let r = version_total.antisymm v v in cc

version_place : (vs : List Fields) (j k : ℕ) (x : Fields) → Increases VersionBefore vs → slice_get vs j ≡ Some x → slice_get vs k ≡ Some x → j ≡ k
version_place vs j k x h d e = one_place VersionBefore version_total.trans vs j k x x h d e (version_before_itself x) (version_before_itself x)

order_once : (vs : List Fields) (js ks : List ℕ) (xs : List Fields) → Increases VersionBefore vs → AreVersionsAt vs js xs → AreVersionsAt vs ks xs → js ≡ ks
order_once vs [] [] [] h a b = refl
order_once vs [] ks (x ∷ xs) h a b = absurd a
order_once vs (j ∷ js) ks [] h a b = absurd a
order_once vs [] (k ∷ ks) [] h a b = absurd b
order_once vs (j ∷ js) [] (x ∷ xs) h a b = absurd b
order_once vs (j ∷ js) (k ∷ ks) (x ∷ xs) h a b = λ i. version_place vs j k x h a.0 b.0 i ∷ order_once vs js ks xs h a.1 b.1 i

module _ (c : Packages) (starts : List Node) (wish : WishFields) (R S : Region) (p q : Plain) (agree : Agree R S) (ip : IsProblemOf c starts wish R p) (iq : IsProblemOf c starts wish S q) where
  in_second : AreIn p.nodes q.nodes
  in_second i f e = let k = covered c starts wish S q iq f.node (reached_same c starts R S f.node agree (ip.reached i f e)) in record { place = k.0; facts = k.1.0; at = k.1.1; node = k.1.2 }

  in_first : AreIn q.nodes p.nodes
  in_first i f e = let k = covered c starts wish R p ip f.node (reached_same c starts S R f.node (agree_back R S agree) (iq.reached i f e)) in record { place = k.0; facts = k.1.0; at = k.1.1; node = k.1.2 }

  sizes : length p.nodes ≡ length q.nodes
  sizes = long_as p.nodes q.nodes ip.well_formed.increasing iq.well_formed.increasing in_second in_first

  -- a node stands at one place of the two
  place_same : (j k : ℕ) (n : Node) → IsAt p j n → IsAt q k n → j ≡ k
  place_same j k n a b =
      let g = there q.nodes j (subst (λ (m : ℕ). j < m) sizes (slice_get_within p.nodes j a.0 a.1)) in
      let node : g.0.node ≡ b.0.node = sym (level p.nodes q.nodes ip.well_formed.increasing iq.well_formed.increasing in_second in_first j a.0 g.0 a.1 g.1) ∙ (a.2 ∙ sym b.2) in
      one_place NodeBefore facts_trans q.nodes j k g.0 b.0 iq.well_formed.increasing g.1 b.1
      (λ r. not_itself b.0.node (subst (λ (z : Node). IsNodeLess z b.0.node) node r)) (λ r. not_itself b.0.node (subst (λ (z : Node). IsNodeLess b.0.node z) node r))

  roots_same : (js ks : List ℕ) (ns : List Node) → AreAt p js ns → AreAt q ks ns → js ≡ ks
  roots_same [] [] [] a b = refl
  roots_same [] ks (n ∷ ns) a b = absurd a
  roots_same (j ∷ js) ks [] a b = absurd a
  roots_same [] (k ∷ ks) [] a b = absurd b
  roots_same (j ∷ js) [] (n ∷ ns) a b = absurd b
  roots_same (j ∷ js) (k ∷ ks) (n ∷ ns) a b = λ i. place_same j k n a.0 b.0 i ∷ roots_same js ks ns a.1 b.1 i

  -- what is known of one node in the two
  module _ (k : ℕ) (f g : NodeFacts) (af : node_at p k ≡ Some f) (ag : node_at q k ≡ Some g) where
    same : f.node ≡ g.node
    same = level p.nodes q.nodes ip.well_formed.increasing iq.well_formed.increasing in_second in_first k f g af ag

    versions_same : f.versions ≡ g.versions
    versions_same = (ip.facts k f af).versions ∙ (ap (λ (n : Node). eligible c n.name) same ∙ sym (iq.facts k g ag).versions)

  -- versions of one node in the two
  versions_at : (j k : ℕ) (f g : NodeFacts) (n : Node) → node_at p j ≡ Some f → node_at q k ≡ Some g → f.node ≡ n → g.node ≡ n → f.versions ≡ g.versions
  versions_at j k f g n a b d e = (ip.facts j f a).versions ∙ (ap (λ (m : Node). eligible c m.name) (d ∙ sym e) ∙ sym (iq.facts k g b).versions)

  need_same : (j k : PlaceNeed) (t : Need) → IsNeedAt p j t → IsNeedAt q k t → length j.permitted ≡ size_of p j.node → length k.permitted ≡ size_of q k.node → j ≡ k
  need_same j k t a b lj lk =
      let node : j.node ≡ k.node = place_same j.node k.node t.node (a.facts, a.at, a.node) (b.facts, b.at, b.node) in
      let vs : a.facts.versions ≡ b.facts.versions = versions_at j.node k.node a.facts b.facts t.node a.at b.at a.node b.node in
      let long : length j.permitted ≡ length a.facts.versions = lj ∙ ap size_in a.at in
      let other : length k.permitted ≡ length b.facts.versions = lk ∙ ap size_in b.at in
      let sets : j.permitted ≡ k.permitted = flags_same j.permitted k.permitted (long ∙ (ap length vs ∙ sym other))
      (λ u l. let y = there a.facts.versions u (subst (λ (m : ℕ). u < m) long l) in
      a.permitted u y.0 y.1 ∙ sym (b.permitted u y.0 (subst (λ (z : List Fields). slice_get z u ≡ Some y.0) vs y.1))) in
      λ i. record { node = node i; permitted = sets i }

  needs_same : (js ks : List PlaceNeed) (ts : List Need) → AreNeedsAt p js ts → AreNeedsAt q ks ts → ((j : PlaceNeed) → Contains js j → length j.permitted ≡ size_of p j.node) → ((k : PlaceNeed) → Contains ks k → length k.permitted ≡ size_of q k.node) → js ≡ ks
  needs_same [] [] [] a b l m = refl
  needs_same [] ks (t ∷ ts) a b l m = absurd a
  needs_same (j ∷ js) ks [] a b l m = absurd a
  needs_same [] (k ∷ ks) [] a b l m = absurd b
  needs_same (j ∷ js) [] (t ∷ ts) a b l m = absurd b
  needs_same (j ∷ js) (k ∷ ks) (t ∷ ts) a b l m = λ i. need_same j k t a.0 b.0 (l j (contains_first j js)) (m k (contains_first k ks)) i
      ∷ needs_same js ks ts a.1 b.1 (λ x h. l x (contains_later j js x h)) (λ x h. m x (contains_later k ks x h)) i

  kept_needs : (qs : List RequirementFields) (n : Node) (ts us : List Need) → AreNeeds qs R n ts → AreNeeds qs S n us → ts ≡ us
  kept_needs qs n ts us a b = a.are ∙ (ap (flat_map needs_of)
      (kept_once (IsFirm qs S n) qs a.firm b.firm (kept_same (IsFirm qs R n) (IsFirm qs S n) qs a.firm (λ x h. firm_same qs R S n x agree h) (λ x h. firm_same qs S R n x (agree_back R S agree) h) a.kept) b.kept) ∙ sym b.are)

  row_same : (k v : ℕ) (f g : NodeFacts) (x : Fields) → node_at p k ≡ Some f → node_at q k ≡ Some g → slice_get f.versions v ≡ Some x → get_or f.needs v [] ≡ get_or g.needs v []
  row_same k v f g x af ag e =
      let a = (ip.facts k f af).needs v x e in
      let b = (iq.facts k g ag).needs v x (subst (λ (z : List Fields). slice_get z v ≡ Some x) (versions_same k f g af ag) e) in
      let own : AreNeeds (requirements c f.node.name x) S f.node b.needs = subst (λ (n : Node). AreNeeds (requirements c n.name x) S n b.needs) (sym (same k f g af ag)) b.are in
      let ts : a.needs ≡ b.needs = kept_needs (requirements c f.node.name x) f.node a.needs b.needs a.are own in
      needs_same (get_or f.needs v []) (get_or g.needs v []) a.needs a.at (subst (λ (z : List Need). AreNeedsAt q (get_or g.needs v []) z) (sym ts) b.at)
      (λ j h. (need_fits p k v j ip.well_formed (subst (λ (o : Option NodeFacts). Contains (needs_in o v) j) (sym af) h)).1)
      (λ j h. (need_fits q k v j iq.well_formed (subst (λ (o : Option NodeFacts). Contains (needs_in o v) j) (sym ag) h)).1)

  rows_same : (k : ℕ) (f g : NodeFacts) → node_at p k ≡ Some f → node_at q k ≡ Some g → f.needs ≡ g.needs
  rows_same k f g af ag =
      let wf = node_whole p k f ip.well_formed af in
      let wg = node_whole q k g iq.well_formed ag in
      lists_same f.needs g.needs (wf.rows ∙ (ap length (versions_same k f g af ag) ∙ sym wg.rows))
      (λ v x y d e. let z = there f.versions v (subst (λ (m : ℕ). v < m) wf.rows (slice_get_within f.needs v x d)) in
      sym (row_there f.needs v x d) ∙ (row_same k v f g z.0 af ag z.1 ∙ row_there g.needs v y e))

  barred_same : (k : ℕ) (f g : NodeFacts) → node_at p k ≡ Some f → node_at q k ≡ Some g → f.barred ≡ g.barred
  barred_same k f g af ag =
      let wf = node_whole p k f ip.well_formed af in
      let wg = node_whole q k g iq.well_formed ag in
      let vs = versions_same k f g af ag in
      let name : f.node ≡ g.node = same k f g af ag in
      flags_same f.barred g.barred (wf.barred_size ∙ (ap length vs ∙ sym wg.barred_size))
      (λ v l. let x = there f.versions v (subst (λ (m : ℕ). v < m) wf.barred_size l) in
      decided_same (has v f.barred) (has v g.barred) (Suits wish.strategy R (is_fit c f.node.name x.0)) (Suits wish.strategy S (is_fit c f.node.name x.0))
      ((ip.facts k f af).barred v x.0 x.1)
      (subst (λ (n : Node). Decides (not (has v g.barred)) (Suits wish.strategy S (is_fit c n.name x.0))) (sym name) ((iq.facts k g ag).barred v x.0 (subst (λ (z : List Fields). slice_get z v ≡ Some x.0) vs x.1)))
      (suits_same wish.strategy R S (is_fit c f.node.name x.0) agree) (suits_same wish.strategy S R (is_fit c f.node.name x.0) (agree_back R S agree)))

  order_same : (k : ℕ) (f g : NodeFacts) → node_at p k ≡ Some f → node_at q k ≡ Some g → f.order ≡ g.order
  order_same k f g af ag =
      order_once f.versions f.order g.order (preference c wish f.node.name) (node_whole p k f ip.well_formed af).increasing (ip.facts k f af).order
      (subst (λ (z : List Fields). AreVersionsAt z g.order (preference c wish f.node.name)) (sym (versions_same k f g af ag))
      (subst (λ (n : Node). AreVersionsAt g.versions g.order (preference c wish n.name)) (sym (same k f g af ag)) (iq.facts k g ag).order))

  -- the base of a node stands at its place
  base_at : (nodes : List NodeFacts) (f : NodeFacts) (b : ℕ) (o : Option NodeFacts) → slice_get nodes b ≡ o → IsBaseIn o f → (g : NodeFacts) × (slice_get nodes b ≡ Some g) × (g.node ≡ base_of f.node)
  base_at nodes f b None e h = absurd h
  base_at nodes f b (Some g) e h = (g, e, λ i. record { name = h.0 i; extra = h.1 i })

  bases_same : (f g : NodeFacts) (x : Option (List ℕ)) (a b : Option ℕ) → f.node ≡ g.node → HasBase p.nodes f x a → HasBase q.nodes g x b → a ≡ b
  bases_same f g None None None e h k = refl
  bases_same f g None None (Some b) e h k = absurd k
  bases_same f g None (Some a) b e h k = absurd h
  bases_same f g (Some x) None b e h k = absurd h
  bases_same f g (Some x) (Some a) None e h k = absurd k
  bases_same f g (Some x) (Some a) (Some b) e h k =
      let m = base_at p.nodes f a (slice_get p.nodes a) refl h in
      let n = base_at q.nodes g b (slice_get q.nodes b) refl k in
      ap Some (place_same a b (base_of f.node) (m.0, m.1, m.2) (n.0, n.1, n.2 ∙ sym (ap base_of e)))

  facts_same : (k : ℕ) (f g : NodeFacts) → node_at p k ≡ Some f → node_at q k ≡ Some g → f ≡ g
  facts_same k f g af ag =
      let node : f.node ≡ g.node = same k f g af ag in
      let base : f.base ≡ g.base = bases_same f g f.node.extra f.base g.base node (node_whole p k f ip.well_formed af).has_base
      (subst (λ (n : Node). HasBase q.nodes g n.extra g.base) (sym node) (node_whole q k g iq.well_formed ag).has_base) in
      let versions : f.versions ≡ g.versions = versions_same k f g af ag in
      let order : f.order ≡ g.order = order_same k f g af ag in
      let barred : f.barred ≡ g.barred = barred_same k f g af ag in
      let needs : f.needs ≡ g.needs = rows_same k f g af ag in
      λ i. record { node = node i; base = base i; versions = versions i; order = order i; barred = barred i; needs = needs i }

  one_problem : p ≡ q
  one_problem =
      let roots : p.roots ≡ q.roots = roots_same p.roots q.roots starts ip.roots iq.roots in
      let nodes : p.nodes ≡ q.nodes = lists_same p.nodes q.nodes sizes facts_same in
      λ i. record { roots = roots i; nodes = nodes i }

-- regions that agree at every world have equal problems
pub equal_problems : EqualProblems
equal_problems c starts wish R S p q agree ip iq = one_problem c starts wish R S p q agree ip iq
