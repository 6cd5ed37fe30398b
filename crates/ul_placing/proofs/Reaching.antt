-- The steps by which the reached nodes are found.
use Rattle.std.specs.Prelude.{Contains, slice_get, flat_map}
use Rattle.std.proofs.Common.{◌≡◌, ◌<◌, ◌≤◌, ◌+◌, ◌⊎◌, ℕ, zero, suc, List, [], ◌∷◌, length, set, replicate, Bool, true, false, Option, Some, None, refl, sym, ap, subst, ◌∙◌, inl, inr, ⊎_elim, arith}
use Rattle.std.proofs.lemmas.List.{length-set, length-replicate}
use Rattle.std.proofs.lemmas.List.Sums.{count_by-le-length}
use Rattle.std.proofs.lemmas.Option.{none-some, same_Some, slice_get_within}
use Rattle.ul_base.specs.Reached.{begun}
use Rattle.ul_base.specs.declared.node.Node.{Node}
use Rattle.ul_base.proofs.ForCallers.{none_in, contains_first, contains_later, contains_cases}
use Rattle.ul_ranges.specs.Flags.{has}
use Rattle.ul_index.specs.Regions.{Region}
use Rattle.ul_region.specs.Truths.{PassView}
use Rattle.ul_prepared.specs.Prepared.{IsPrepared, AreNodesAt}
use Rattle.ul_prepared.specs.declared.prepared.Planned.{Planned}
use Rattle.ul_prepared.specs.declared.prepared.Prepared.{Prepared}
use Rattle.ul_placing.specs.Aims.{AreAimsOf}
use Rattle.ul_placing.specs.Reach.{MarksPlaces, mark_count, IsReachTo, IsReached, IsLookedAt, IsAimedRight, targets_of}
use Rattle.ul_placing.specs.Runs.{versions_in}
use Rattle.ul_placing.specs.declared.aims.NodeAims.{NodeAims}
use Rattle.ul_placing.specs.declared.reach.Reach.{Reach}
use Rattle.ul_placing.proofs.Lists.{there, listed_at, place_of, last_or_before}
use Rattle.ul_placing.proofs.Marking.{stays}
use Rattle.ul_placing.proofs.Aimed.{aimed_reached, aimed_leads}
use Rattle.ul_placing.proofs.Shared.{planned_at}

-- ---- at the beginning

-- a root is the place of a node that the region starts from
pub root_at : (nodes : List Planned) (ks : List ℕ) (ns : List Node) (k : ℕ) → AreNodesAt nodes ks ns → Contains ks k → (planned : Planned) × (slice_get nodes k ≡ Some planned) × Contains ns planned.node
root_at nodes [] [] k h c = absurd (none_in k c)
root_at nodes [] (n ∷ ns) k h c = absurd h
root_at nodes (j ∷ ks) [] k h c = absurd h
root_at nodes (j ∷ ks) (n ∷ ns) k h c = ⊎_elim
    (λ e. (h.planned, subst (λ (m : ℕ). slice_get nodes m ≡ Some h.planned) (sym e) h.at, subst (λ (z : Node). Contains (n ∷ ns) z) (sym h.node) (contains_first n ns)))
    (λ r. let f = root_at nodes ks ns k h.rest r in (f.0, f.1, contains_later n ns f.0.node f.2)) (contains_cases j ks k c)

never : (n k : ℕ) → has k (replicate n false) ≡ true → ⊥
never zero k e = cc
never (suc n) zero e = cc
never (suc n) (suc k) e = never n k e

none_marked : (n : ℕ) → mark_count (replicate n false) ≡ 0
none_marked zero = refl
none_marked (suc n) = none_marked n

no_look : (n k : ℕ) (a : NodeAims) → IsLookedAt (replicate n None) k a → ⊥
no_look zero k a e = none-some (Some a) e
no_look (suc n) zero a e = none-some a (same_Some None (Some a) e)
no_look (suc n) (suc k) a e = no_look n k a e

nothing_looked : (aims : List (Option NodeAims)) (n k : ℕ) (a : NodeAims) → aims ≡ replicate n None → IsLookedAt aims k a → ⊥
nothing_looked aims n k a e h = no_look n k a (subst (λ (z : List (Option NodeAims)). IsLookedAt z k a) e h)

-- the roots are marked, and nothing was looked at
pub reach_begun : (h : PassView) (R : Region) (p : Prepared) (r : Reach) (n : ℕ) (marks : List Bool) (queue : List ℕ) → IsPrepared h p → n ≡ length p.nodes.items → marks ≡ replicate n false → queue ≡ []
    → MarksPlaces p.roots.items marks queue r.marks.items r.queue.items → r.aims.items ≡ replicate n None → IsReachTo R p 0 r
reach_begun h R p r n marks queue all size e d m aims =
    let is : MarksPlaces p.roots.items (replicate n false) [] r.marks.items r.queue.items = subst (λ (z : List Bool). MarksPlaces p.roots.items z [] r.marks.items r.queue.items) e (subst (λ (z : List ℕ). MarksPlaces p.roots.items marks z r.marks.items r.queue.items) d m) in
    record {
      long = is.long ∙ (length-replicate n false ∙ size);
      size = ap length aims ∙ (length-replicate n None ∙ size);
      once = omega (arith, is.once, none_marked n);
      within = omega arith;
      marked = λ k c. ⊎_elim (λ f. absurd (none_in k f)) (λ f. f) (is.marked k c);
      listed = λ k f. ⊎_elim (λ g. absurd (never n k g)) (λ g. g.1) (is.listed k f);
      rooted = λ k c. let at = root_at p.nodes.items p.roots.items p.starts.now k all.roots c in
          is.all k c (subst (λ (z : ℕ). k < z) (sym (length-replicate n false ∙ size)) (slice_get_within p.nodes.items k at.0 at.1));
      reached = λ k f. ⊎_elim (λ g. absurd (never n k g)) (λ g. let at = root_at p.nodes.items p.roots.items p.starts.now k all.roots g.0 in (at.0, at.1, begun at.0.node at.2)) (is.listed k f);
      looked = λ j k l f. absurd (omega (arith, l));
      known = λ k a f. absurd (nothing_looked r.aims.items n k a aims f);
      right = λ k a f. absurd (nothing_looked r.aims.items n k a aims f);
      closed = λ k m' a f c. absurd (nothing_looked r.aims.items n k a aims f);
    }

-- ---- one more node

set_cases : {A : Type 0} (xs : List A) (i k : ℕ) (y x : A) → slice_get (set xs i y) k ≡ Some x → (slice_get xs k ≡ Some x) ⊎ ((k ≡ i) × (x ≡ y))
set_cases [] i k y x e = inl e
set_cases (z ∷ zs) zero zero y x e = inr (refl, sym (same_Some y x e))
set_cases (z ∷ zs) zero (suc k) y x e = inl e
set_cases (z ∷ zs) (suc i) zero y x e = inl e
set_cases (z ∷ zs) (suc i) (suc k) y x e = ⊎_elim (λ h. inl h) (λ h. inr (ap suc h.0, h.1)) (set_cases zs i k y x e)

set_there : {A : Type 0} (xs : List A) (i : ℕ) (y : A) → i < length xs → slice_get (set xs i y) i ≡ Some y
set_there [] i y l = absurd (omega (arith, l))
set_there (z ∷ zs) zero y l = refl
set_there (z ∷ zs) (suc i) y l = set_there zs i y (omega (arith, l))

-- what was looked at stays so where one more is
look_stays : (aims : List (Option NodeAims)) (i k : ℕ) (y a : NodeAims) → IsLookedAt aims k a → (b : NodeAims) × IsLookedAt (set aims i (Some y)) k b
look_stays [] i k y a e = absurd (none-some (Some a) e)
look_stays (z ∷ zs) zero zero y a e = (y, refl)
look_stays (z ∷ zs) zero (suc k) y a e = (a, e)
look_stays (z ∷ zs) (suc i) zero y a e = (a, e)
look_stays (z ∷ zs) (suc i) (suc k) y a e = look_stays zs i k y a e

earlier : (first queue : List ℕ) (j k : ℕ) → ((i m : ℕ) → slice_get first i ≡ Some m → slice_get queue i ≡ Some m) → j < length first → slice_get queue j ≡ Some k → slice_get first j ≡ Some k
earlier first queue j k front l e = let f = there first j l in f.1 ∙ (sym (front j f.0 f.1) ∙ e)

module _ (h : PassView) (R : Region) (p : Prepared) (step at : ℕ) (r s : Reach) (planned : Planned) (own : NodeAims)
    (all : IsPrepared h p) (is : IsReachTo R p step r) (l : step < length r.queue.items) (next : slice_get r.queue.items step ≡ Some at) (node : slice_get p.nodes.items at ≡ Some planned) (of : AreAimsOf R planned (versions_in own))
    (marks : MarksPlaces (flat_map targets_of (versions_in own)) r.marks.items r.queue.items s.marks.items s.queue.items) (aims : s.aims.items ≡ set r.aims.items at (Some own)) where
  seen : has at r.marks.items ≡ true
  seen = is.marked at (listed_at r.queue.items step at next)

  cases : (k : ℕ) (a : NodeAims) → IsLookedAt s.aims.items k a → IsLookedAt r.aims.items k a ⊎ ((k ≡ at) × (Some a ≡ Some own))
  cases k a e = set_cases r.aims.items at k (Some own) (Some a) (subst (λ (z : List (Option NodeAims)). IsLookedAt z k a) aims e)

  kept : (k : ℕ) (a : NodeAims) → IsLookedAt r.aims.items k a → (b : NodeAims) × IsLookedAt s.aims.items k b
  kept k a e = subst (λ (z : List (Option NodeAims)). (b : NodeAims) × IsLookedAt z k b) (sym aims) (look_stays r.aims.items at k own a e)

  now_looked : (b : NodeAims) × IsLookedAt s.aims.items at b
  now_looked = subst (λ (z : List (Option NodeAims)). (b : NodeAims) × IsLookedAt z at b) (sym aims)
      (own, set_there r.aims.items at (Some own) (subst (λ (n : ℕ). at < n) (sym is.size) (slice_get_within p.nodes.items at planned node)))

  looked : (j k : ℕ) → j < step + 1 → slice_get s.queue.items j ≡ Some k → (a : NodeAims) × IsLookedAt s.aims.items k a
  looked j k m e = ⊎_elim
      (λ (b : j < step). let f = is.looked j k b (earlier r.queue.items s.queue.items j k marks.front (omega (arith, b, l)) e) in kept k f.0 f.1)
      (λ b. subst (λ (z : ℕ). (a : NodeAims) × IsLookedAt s.aims.items z a) (same_Some at k (sym (marks.front step at next) ∙ subst (λ (z : ℕ). slice_get s.queue.items z ≡ Some k) b e)) now_looked)
      (last_or_before j step m)

  right : (k : ℕ) (a : NodeAims) → k ≡ at → Some a ≡ Some own → IsAimedRight R p k a
  right k a e d other f =
      let same : planned ≡ other = same_Some planned other (sym node ∙ subst (λ (z : ℕ). slice_get p.nodes.items z ≡ Some other) e f) in
      subst (λ (z : NodeAims). AreAimsOf R other (versions_in z)) (sym (same_Some a own d)) (subst (λ (z : Planned). AreAimsOf R z (versions_in own)) same of)

  target_within : (m : ℕ) → Contains (flat_map targets_of (versions_in own)) m → m < length r.marks.items
  target_within m c = let to = aimed_leads h R p planned (versions_in own) m all (planned_at h p at planned all node) of c in
      subst (λ (n : ℕ). m < n) (sym is.long) (slice_get_within p.nodes.items m to.0 to.1)

  -- the next node of the queue was looked at
  pub reach_next : IsReachTo R p (step + 1) s
  reach_next = record {
    long = marks.long ∙ is.long;
    size = ap length aims ∙ (length-set r.aims.items at (Some own) ∙ is.size);
    once = omega (arith, is.once, marks.once);
    within = omega (arith, slice_get_within s.queue.items step at (marks.front step at next));
    marked = λ k c. ⊎_elim (λ q. marks.keeps k (is.marked k q)) (λ m. m) (marks.marked k c);
    listed = λ k e. ⊎_elim (λ g. stays r.queue.items s.queue.items k marks.front (is.listed k g)) (λ c. c.1) (marks.listed k e);
    rooted = λ k c. marks.keeps k (is.rooted k c);
    reached = λ k e. ⊎_elim (λ g. is.reached k g) (λ c. aimed_reached h R p at k planned (versions_in own) all node (is.reached at seen) of c.0) (marks.listed k e);
    looked = looked;
    known = λ k a e. ⊎_elim (λ g. marks.keeps k (is.known k a g)) (λ g. marks.keeps k (subst (λ (z : ℕ). has z r.marks.items ≡ true) (sym g.0) seen)) (cases k a e);
    right = λ k a e. ⊎_elim (λ g. is.right k a g) (λ g. right k a g.0 g.1) (cases k a e);
    closed = λ k m a e c. ⊎_elim (λ g. marks.keeps m (is.closed k m a g c))
        (λ g. let d : Contains (flat_map targets_of (versions_in own)) m = subst (λ (z : NodeAims). Contains (flat_map targets_of (versions_in z)) m) (same_Some a own g.1) c in marks.all m d (target_within m d)) (cases k a e);
  }

-- ---- at the end

-- when the whole queue was looked at, all is reached
pub reach_done : (R : Region) (p : Prepared) (step : ℕ) (r : Reach) → length r.queue.items ≤ step → IsReachTo R p step r → IsReached R p r.aims.items
reach_done R p step r l is =
    let look : (k : ℕ) → has k r.marks.items ≡ true → (a : NodeAims) × IsLookedAt r.aims.items k a
    = λ k e. let at = place_of r.queue.items k (is.listed k e) in let w : at.0 < length r.queue.items = slice_get_within r.queue.items at.0 k at.1 in is.looked at.0 k (omega (arith, w, l)) at.1 in
    record {
      size = is.size;
      rooted = λ k c. look k (is.rooted k c);
      reached = λ k a e. is.reached k (is.known k a e);
      right = is.right;
      closed = λ k m a e c. look m (is.closed k m a e c);
    }

-- the queue is no longer than the nodes are many
pub queue_within : (R : Region) (p : Prepared) (step : ℕ) (r : Reach) → IsReachTo R p step r → length r.queue.items ≤ length p.nodes.items
queue_within R p step r is = omega (arith, is.once, is.long, count_by-le-length (λ (mark : Bool). mark) r.marks.items)

-- ---- the node at a place of the queue

-- it is a node
pub queued_node : (R : Region) (p : Prepared) (step at : ℕ) (r : Reach) → IsReachTo R p step r → slice_get r.queue.items step ≡ Some at → at < length p.nodes.items
queued_node R p step at r is e = let n = is.reached at (is.marked at (listed_at r.queue.items step at e)) in slice_get_within p.nodes.items at n.0 n.1

-- and there is a place for what it aims at
pub queued_aims : (R : Region) (p : Prepared) (step at : ℕ) (r : Reach) → IsReachTo R p step r → slice_get r.queue.items step ≡ Some at → at < length r.aims.items
queued_aims R p step at r is e = subst (λ (n : ℕ). at < n) (sym is.size) (queued_node R p step at r is e)
