-- What stands at the places of a problem.
use Rattle.std.proofs.Common.{◌≡◌, ℕ, List, [], ◌∷◌, Option, Some, None, Contains, refl, sym, subst, ⊎_elim, slice_get}
use Rattle.std.proofs.lemmas.Option.{none-some, same_Some, slice_get_within, get_or_from_slice_get}
use Rattle.ul_base.specs.declared.node.Node.{Node}
use Rattle.ul_problem.specs.Plain.{Plain, node_at}
use Rattle.ul_problem.specs.Problems.{HasBase, IsBaseIn, IsNodeOf, IsWellFormed}
use Rattle.ul_problem.proofs.ForCallers.{all_at}
use Rattle.ul_problem.specs.declared.problem.Need.{Need as PlaceNeed}
use Rattle.ul_problem.specs.declared.problem.NodeFacts.{NodeFacts}
use Rattle.ul_requirement.specs.Truth.{base_of}
use Rattle.ul_base.proofs.ForCallers.{contains_first, contains_later, none_in}
use Rattle.ul_base.proofs.ForCallers.{contains_cases}
use Rattle.ul_region.specs.Best.{Need}
use Rattle.ul_region.specs.Problem.{IsAt, AreAt, IsNeedAt, AreNeedsAt}

pub contains_at : {A : Type 0} (xs : List A) (k : ℕ) (x : A) → slice_get xs k ≡ Some x → Contains xs x
contains_at xs k x e = (k, slice_get_within xs k x e, get_or_from_slice_get xs k x x e)

-- a root's node is one of those that the project starts from, and the other way round
pub root_node : (p : Plain) (ks : List ℕ) (ns : List Node) (k : ℕ) → AreAt p ks ns → Contains ks k → (n : Node) × Contains ns n × IsAt p k n
root_node p [] [] k h i = absurd (none_in k i)
root_node p [] (n ∷ ns) k h i = absurd h
root_node p (j ∷ js) [] k h i = absurd h
root_node p (j ∷ js) (n ∷ ns) k h i = ⊎_elim (λ e. (n, contains_first n ns, subst (λ a. IsAt p a n) (sym e) h.0))
    (λ m. let r = root_node p js ns k h.1 m in (r.0, contains_later n ns r.0 r.1, r.2)) (contains_cases j js k i)

pub node_root : (p : Plain) (ks : List ℕ) (ns : List Node) (n : Node) → AreAt p ks ns → Contains ns n → (k : ℕ) × Contains ks k × IsAt p k n
node_root p [] [] n h m = absurd (none_in n m)
node_root p [] (y ∷ ys) n h m = absurd h
node_root p (k ∷ ks) [] n h m = absurd h
node_root p (k ∷ ks) (y ∷ ys) n h m = ⊎_elim (λ e. (k, contains_first k ks, subst (IsAt p k) (sym e) h.0))
    (λ r. let found = node_root p ks ys n h.1 r in (found.0, contains_later k ks found.0 found.1, found.2)) (contains_cases y ys n m)

-- a need by places says a need, and the other way round
pub need_said : (p : Plain) (ks : List PlaceNeed) (ts : List Need) (k : PlaceNeed) → AreNeedsAt p ks ts → Contains ks k → (t : Need) × Contains ts t × IsNeedAt p k t
need_said p [] [] k h i = absurd (none_in k i)
need_said p [] (t ∷ ts) k h i = absurd h
need_said p (j ∷ js) [] k h i = absurd h
need_said p (j ∷ js) (t ∷ ts) k h i = ⊎_elim (λ e. (t, contains_first t ts, subst (λ a. IsNeedAt p a t) (sym e) h.0))
    (λ m. let r = need_said p js ts k h.1 m in (r.0, contains_later t ts r.0 r.1, r.2)) (contains_cases j js k i)

pub need_placed : (p : Plain) (ks : List PlaceNeed) (ts : List Need) (t : Need) → AreNeedsAt p ks ts → Contains ts t → (k : PlaceNeed) × Contains ks k × IsNeedAt p k t
need_placed p [] [] t h m = absurd (none_in t m)
need_placed p [] (y ∷ ys) t h m = absurd h
need_placed p (k ∷ ks) [] t h m = absurd h
need_placed p (k ∷ ks) (y ∷ ys) t h m = ⊎_elim (λ e. (k, contains_first k ks, subst (IsNeedAt p k) (sym e) h.0))
    (λ r. let found = need_placed p ks ys t h.1 r in (found.0, contains_later k ks found.0 found.1, found.2)) (contains_cases y ys t m)

pub node_whole : (p : Plain) (k : ℕ) (f : NodeFacts) → IsWellFormed p → node_at p k ≡ Some f → IsNodeOf p.nodes f
node_whole p k f wf e = all_at (IsNodeOf p.nodes) p.nodes k f wf.nodes e

-- the base of an extra
pub record Based (p : Plain) (f : NodeFacts) (b : ℕ) : Type 0 where
  pub facts : NodeFacts
  pub at : node_at p b ≡ Some facts
  pub node : facts.node ≡ base_of f.node
  pub versions : facts.versions ≡ f.versions

based_in : (p : Plain) (f : NodeFacts) (b : ℕ) (o : Option NodeFacts) → node_at p b ≡ o → IsBaseIn o f → Based p f b
based_in p f b None e h = absurd h
based_in p f b (Some g) e h = record { facts = g; at = e; node = λ i. record { name = h.0 i; extra = h.1 i }; versions = h.2 }

pub based : (p : Plain) (f : NodeFacts) (b : ℕ) (x : Option (List ℕ)) (o : Option ℕ) → HasBase p.nodes f x o → o ≡ Some b → Based p f b
based p f b None None h e = absurd (none-some b e)
based p f b None (Some c) h e = absurd h
based p f b (Some x) None h e = absurd h
based p f b (Some x) (Some c) h e = based_in p f b (node_at p b) refl (subst (λ k. IsBaseIn (slice_get p.nodes k) f) (same_Some c b e) h)

-- where there is an extra there is a place of its base
pub has_base : (p : Plain) (f : NodeFacts) (x : List ℕ) (y : Option (List ℕ)) (o : Option ℕ) → HasBase p.nodes f y o → y ≡ Some x → (b : ℕ) × (o ≡ Some b)
has_base p f x None o h e = absurd (none-some x e)
has_base p f x (Some y) None h e = absurd h
has_base p f x (Some y) (Some b) h e = (b, refl)
