-- A problem has each node that is reached, and increasing lists of the same nodes are level.
use Rattle.std.specs.Prelude.{Contains, slice_get}
use Rattle.std.proofs.Common.{◌≡◌, ℕ, zero, suc, List, [], ◌∷◌, length, get_or, Some, refl, sym, ap, subst, ◌∙◌, ⊎_elim}
use Rattle.std.proofs.lemmas.Option.{none-some, same_Some}
use Rattle.std.specs.declared.cmp.Ordering.TheVariants.{Less}
use Rattle.ul_base.specs.Nodes.{node_cmp}
use Rattle.ul_base.specs.Reached.{Reached}
use Rattle.ul_base.specs.declared.node.Node.{Node}
use Rattle.ul_base.proofs.ForCallers.{none_in, contains_cases, contains_map, contains_flat, kept_has, reached_in}
use Rattle.ul_version.specs.Fields.{Fields}
use Rattle.ul_problem.specs.Plain.{Plain, node_at}
use Rattle.ul_problem.specs.Problems.{Increases, NodeBefore}
use Rattle.ul_problem.specs.declared.problem.Need.{Need as PlaceNeed}
use Rattle.ul_problem.specs.declared.problem.NodeFacts.{NodeFacts}
use Rattle.ul_requirement.specs.Fields.{WishFields}
use Rattle.ul_requirement.specs.Truth.{targets}
use Rattle.ul_index.specs.Applied.{IsFirm}
use Rattle.ul_index.specs.Catalogs.{Packages, requirements}
use Rattle.ul_index.specs.Regions.{Region}
use Rattle.ul_region.specs.Best.{Need, needs_of}
use Rattle.ul_region.specs.Problem.{AreAt, AreNeedsAt, IsAt, IsNeedAt, IsProblemOf, Leads}
use Rattle.ul_placing.proofs.Lists.{place_of}
use Rattle.ul_placing.proofs.Rising.{after, tail, not_itself, not_back, facts_trans}

root_there : (p : Plain) (ks : List ℕ) (ns : List Node) (n : Node) → AreAt p ks ns → Contains ns n → (k : ℕ) × IsAt p k n
root_there p [] [] n h c = absurd (none_in n c)
root_there p [] (m ∷ ns) n h c = absurd h
root_there p (k ∷ ks) [] n h c = absurd h
root_there p (k ∷ ks) (m ∷ ns) n h c = ⊎_elim (λ e. (k, subst (λ (z : Node). IsAt p k z) (sym e) h.0)) (λ r. root_there p ks ns n h.1 r) (contains_cases m ns n c)

need_there : (p : Plain) (ks : List PlaceNeed) (ts : List Need) (t : Need) → AreNeedsAt p ks ts → Contains ts t → (k : PlaceNeed) × IsNeedAt p k t
need_there p [] [] t h c = absurd (none_in t c)
need_there p [] (u ∷ ts) t h c = absurd h
need_there p (k ∷ ks) [] t h c = absurd h
need_there p (k ∷ ks) (u ∷ ts) t h c = ⊎_elim (λ e. (k, subst (λ (z : Need). IsNeedAt p k z) (sym e) h.0)) (λ r. need_there p ks ts t h.1 r) (contains_cases u ts t c)

module _ (c : Packages) (starts : List Node) (wish : WishFields) (R : Region) (p : Plain) (is : IsProblemOf c starts wish R p) where
  led_there : (a b : Node) (k : ℕ) (f : NodeFacts) → node_at p k ≡ Some f → f.node ≡ a → Leads c R f.node b → (j : ℕ) × IsAt p j b
  led_there a b k f at same l =
      let facts = is.facts k f at in
      let v = place_of f.versions l.version (subst (λ (z : List Fields). Contains z l.version) (sym facts.versions) l.is_eligible) in
      let own = facts.needs v.0 l.version v.1 in
      let firm = kept_has (IsFirm (requirements c f.node.name l.version) R f.node) (requirements c f.node.name l.version) own.are.firm l.requirement own.are.kept l.firm.applied.listed l.firm in
      let need : Need = record { node = b; specifiers = l.requirement.specifiers } in
      let listed = contains_flat needs_of own.are.firm l.requirement need firm (contains_map (λ (m : Node). record { node = m; specifiers = l.requirement.specifiers }) (targets l.requirement) b l.aimed) in
      let found = need_there p (get_or f.needs v.0 []) own.needs need own.at (subst (λ (z : List Need). Contains z need) (sym own.are.are) listed) in
      (found.0.node, (found.1.facts, found.1.at, found.1.node))

  -- each reached node stands at a place
  pub covered : (n : Node) → Reached (Contains starts) (Leads c R) n → (k : ℕ) × IsAt p k n
  covered n r = reached_in (λ (m : Node). (k : ℕ) × IsAt p k m) (λ m h. root_there p p.roots starts m is.roots h)
      (λ a b s t l. led_there a b t.0 t.1.0 t.1.1 t.1.2 (subst (λ (z : Node). Leads c R z b) (sym t.1.2) l)) r

-- ---- increasing lists of the same nodes

-- the node stands in the list
pub record IsIn (fs : List NodeFacts) (n : Node) : Type 0 where
  pub place : ℕ
  pub facts : NodeFacts
  pub at : slice_get fs place ≡ Some facts
  pub node : facts.node ≡ n

-- each node of the first list stands in the second
abbrev pub AreIn : List NodeFacts → List NodeFacts → Type 0
AreIn fs gs = (i : ℕ) (f : NodeFacts) → slice_get fs i ≡ Some f → IsIn gs f.node

-- at each place stands the same node
abbrev pub AreLevel : List NodeFacts → List NodeFacts → Type 0
AreLevel fs gs = (i : ℕ) (f g : NodeFacts) → slice_get fs i ≡ Some f → slice_get gs i ≡ Some g → f.node ≡ g.node

first_or_before : (g : NodeFacts) (gs : List NodeFacts) (n : Node) (j : ℕ) (x : NodeFacts) → Increases NodeBefore (g ∷ gs) → slice_get (g ∷ gs) j ≡ Some x → x.node ≡ n → (node_cmp g.node n ≡ Less → ⊥) → g.node ≡ n
first_or_before g gs n zero x i e same never = ap (λ (z : NodeFacts). z.node) (same_Some g x e) ∙ same
first_or_before g gs n (suc j) x i e same never = absurd (never (subst (λ (z : Node). node_cmp g.node z ≡ Less) same (after NodeBefore facts_trans g gs j x i e)))

heads_by : (f g : NodeFacts) (fs gs : List NodeFacts) → Increases NodeBefore (f ∷ fs) → Increases NodeBefore (g ∷ gs) → IsIn (f ∷ fs) g.node → (j : ℕ) (x : NodeFacts) → slice_get (g ∷ gs) j ≡ Some x → x.node ≡ f.node → f.node ≡ g.node
heads_by f g fs gs i k b zero x e same = sym (ap (λ (z : NodeFacts). z.node) (same_Some g x e) ∙ same)
heads_by f g fs gs i k b (suc j) x e same =
    let less : node_cmp g.node f.node ≡ Less = subst (λ (z : Node). node_cmp g.node z ≡ Less) same (after NodeBefore facts_trans g gs j x k e) in
    first_or_before f fs g.node b.place b.facts i b.at b.node (λ h. not_back f.node g.node h less)

heads_same : (f g : NodeFacts) (fs gs : List NodeFacts) → Increases NodeBefore (f ∷ fs) → Increases NodeBefore (g ∷ gs) → AreIn (f ∷ fs) (g ∷ gs) → AreIn (g ∷ gs) (f ∷ fs) → f.node ≡ g.node
heads_same f g fs gs i k a b = let x = a 0 f refl in heads_by f g fs gs i k (b 0 g refl) x.place x.facts x.at x.node

in_rest : (f g : NodeFacts) (fs gs : List NodeFacts) (x : NodeFacts) → f.node ≡ g.node → node_cmp f.node x.node ≡ Less → (j : ℕ) (y : NodeFacts) → slice_get (g ∷ gs) j ≡ Some y → y.node ≡ x.node → IsIn gs x.node
in_rest f g fs gs x same less zero y e d = absurd (not_itself x.node (subst (λ (z : Node). node_cmp z x.node ≡ Less) (same ∙ (ap (λ (z : NodeFacts). z.node) (same_Some g y e) ∙ d)) less))
in_rest f g fs gs x same less (suc j) y e d = record { place = j; facts = y; at = e; node = d }

tails_in : (f g : NodeFacts) (fs gs : List NodeFacts) → f.node ≡ g.node → Increases NodeBefore (f ∷ fs) → AreIn (f ∷ fs) (g ∷ gs) → AreIn fs gs
tails_in f g fs gs same i a k x e = let y = a (suc k) x e in in_rest f g fs gs x same (after NodeBefore facts_trans f fs k x i e) y.place y.facts y.at y.node

-- increasing lists of the same nodes are as long
pub long_as : (fs gs : List NodeFacts) → Increases NodeBefore fs → Increases NodeBefore gs → AreIn fs gs → AreIn gs fs → length fs ≡ length gs
long_as [] [] i k a b = refl
long_as [] (g ∷ gs) i k a b = absurd (none-some (b 0 g refl).facts (b 0 g refl).at)
long_as (f ∷ fs) [] i k a b = absurd (none-some (a 0 f refl).facts (a 0 f refl).at)
long_as (f ∷ fs) (g ∷ gs) i k a b = let same = heads_same f g fs gs i k a b in
    ap suc (long_as fs gs (tail NodeBefore facts_trans f fs i) (tail NodeBefore facts_trans g gs k) (tails_in f g fs gs same i a) (tails_in g f gs fs (sym same) k b))

-- increasing lists of the same nodes have the same node at each place
pub level : (fs gs : List NodeFacts) → Increases NodeBefore fs → Increases NodeBefore gs → AreIn fs gs → AreIn gs fs → AreLevel fs gs
level [] gs i k a b j x y d e = absurd (none-some x d)
level (f ∷ fs) [] i k a b j x y d e = absurd (none-some y e)
level (f ∷ fs) (g ∷ gs) i k a b zero x y d e = ap (λ (z : NodeFacts). z.node) (sym (same_Some f x d)) ∙ (heads_same f g fs gs i k a b ∙ ap (λ (z : NodeFacts). z.node) (same_Some g y e))
level (f ∷ fs) (g ∷ gs) i k a b (suc j) x y d e = let same = heads_same f g fs gs i k a b in
    level fs gs (tail NodeBefore facts_trans f fs i) (tail NodeBefore facts_trans g gs k) (tails_in f g fs gs same i a) (tails_in g f gs fs (sym same) k b) j x y d e
