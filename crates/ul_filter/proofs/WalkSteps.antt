-- The nodes with which a walk begins, and its steps.
use Rattle.std.proofs.Common.{◌≡◌, ◌⊎◌, ◌<◌, ◌≤◌, ◌+◌, ℕ, zero, suc, true, false, List, [], ◌∷◌, length, get_or, Option, Some, None, Contains, refl, sym, ap, ◌∙◌, subst, inl, inr, ⊎_elim, arith, replicate}
use Rattle.std.specs.List.{slice_get}
use Rattle.std.proofs.lemmas.Option.{same_Some, slice_get_within, slice_get_read}
use Rattle.ul_base.specs.Reached.{begun}
use Rattle.ul_base.proofs.ForCallers.{none_in}
use Rattle.ul_comparison.specs.Worlds.{WorldFields}
use Rattle.ul_lock.specs.declared.parts.Lock.{Lock}
use Rattle.ul_lock.specs.Walk.{IsRootNode, Pick as NodeAt, Walk}
use Rattle.ul_lock_nodes.specs.Flags.{IsLeft, IsRootAt, IsWalkedAt, LeadsTo, is_flagged}
use Rattle.ul_lock_nodes.specs.Places.{StandsAt}
use Rattle.ul_lock_nodes.specs.Routes.{Route, routes_of}
use Rattle.ul_filter.specs.Met.{edges_in, IsFollowed, IsMet, IsMetSomewhere, IsMore}
use Rattle.ul_filter.specs.Walked.{IsBegunTo, IsWalked, IsWalkTo}
use Rattle.ul_filter.specs.declared.met.Met.{Met}
use Rattle.ul_lock_nodes.proofs.ForCallers.{below_or_at, contains_at, root_begins, stands_in, walked_on}
use Rattle.ul_filter.proofs.Following.{front_in}

-- ---- the beginning

never_flagged : (n k : ℕ) → is_flagged (replicate n false) k ≡ true → ⊥
never_flagged zero k e = cc
never_flagged (suc n) zero e = cc
never_flagged (suc n) (suc k) e = never_flagged n k e

pub begun_none : (l : Lock) (xs : List (List ℕ)) (m : Met) (n : ℕ) → m.flags.items ≡ replicate n false → m.queue.items ≡ [] → n ≡ length (routes_of l.packages) → length m.flags.items ≡ n → IsBegunTo l xs 0 m
begun_none l xs m n flags queue size long = record {
  long = long ∙ size;
  listed = λ k h. absurd (never_flagged n k (ap (λ f. is_flagged f k) (sym flags) ∙ h));
  marked = λ k q. absurd (none_in k (subst (λ x. Contains x k) queue q));
  begun = λ k lt r. absurd (omega (arith, lt));
  rooted = λ k h. absurd (never_flagged n k (ap (λ f. is_flagged f k) (sym flags) ∙ h));
}

pub begun_met : (l : Lock) (xs : List (List ℕ)) (place : ℕ) (a b : Met) → IsBegunTo l xs place a → IsRootAt l xs place → IsMet place a b → IsBegunTo l xs (place + 1) b
begun_met l xs place a b h root m = record {
  long = m.more.long ∙ h.long;
  listed = λ k f. ⊎_elim (λ g. front_in a b k m.more (h.listed k g)) (λ q. q) (m.more.listed k f);
  marked = λ k q. ⊎_elim (λ p. m.more.keeps k (h.marked k p)) (λ f. f) (m.more.marked k q);
  begun = λ k lt r. ⊎_elim (λ below. m.more.keeps k (h.begun k below r))
      (λ e. subst (λ x. is_flagged b.flags.items x ≡ true) (sym e) (m.met (subst (λ n. place < n) (sym h.long) (slice_get_within (routes_of l.packages) place root.1.0 root.1.1)))) (below_or_at k place lt);
  rooted = λ k f. ⊎_elim (h.rooted k) (λ e. subst (IsRootAt l xs) (sym e) root) (m.only k f);
}

pub begun_skip : (l : Lock) (xs : List (List ℕ)) (place : ℕ) (a : Met) → IsBegunTo l xs place a → (IsRootAt l xs place → ⊥) → IsBegunTo l xs (place + 1) a
begun_skip l xs place a h other = record {
  long = h.long;
  listed = h.listed;
  marked = h.marked;
  begun = λ k lt r. ⊎_elim (λ below. h.begun k below r) (λ e. absurd (other (subst (IsRootAt l xs) e r))) (below_or_at k place lt);
  rooted = h.rooted;
}

-- ---- steps

pub walk_begun : (l : Lock) (w : WorldFields) (xs : List (List ℕ)) (n : ℕ) (m : Met) → n ≡ length (routes_of l.packages) → IsBegunTo l xs n m → IsWalkTo l w xs 0 m
walk_begun l w xs n m size h = record {
  begun = record {
    long = h.long;
    listed = h.listed;
    marked = h.marked;
    begun = λ k r. h.begun k (subst (λ x. k < x) (sym size) (slice_get_within (routes_of l.packages) k r.1.0 r.1.1)) r;
    walked = λ k f. let r = h.rooted k f in
        (r.0, r.1, subst (Walk l w xs) r.1.2 (begun r.1.0.0 (root_begins l xs r.1.0 (contains_at (routes_of l.packages) k r.1.0 r.1.1) (subst (λ (p : NodeAt). IsRootNode l xs p.0) (sym r.1.2) r.2))));
  };
  left = λ j k lt e. absurd (omega (arith, lt));
}

met_still : (routes : List Route) (a b : Met) (p : NodeAt) → IsMore a b → IsMetSomewhere routes a p → IsMetSomewhere routes b p
met_still routes a b p m h = λ k s. let z = h k s in (z.0, z.1, m.keeps z.0 z.2)

from_in : (o : Option Route) (w : WorldFields) (p : NodeAt) → LeadsTo w (edges_in o) p → (r : Route) × (o ≡ Some r) × LeadsTo w r.1 p
from_in None w p z = absurd (none_in z.0 z.1)
from_in (Some r) w p z = (r, refl, z)

pub walk_step : (l : Lock) (w : WorldFields) (xs : List (List ℕ)) (step place : ℕ) (a b : Met) → IsWalkTo l w xs step a → slice_get a.queue.items step ≡ Some place
    → IsFollowed (routes_of l.packages) w (edges_in (slice_get (routes_of l.packages) place)) a b → IsWalkTo l w xs (step + 1) b
walk_step l w xs step place a b h at f = record {
  begun = record {
    long = f.more.long ∙ h.begun.long;
    listed = λ k g. ⊎_elim (λ x. front_in a b k f.more (h.begun.listed k x)) (λ q. q) (f.more.listed k g);
    marked = λ k q. ⊎_elim (λ p. f.more.keeps k (h.begun.marked k p)) (λ g. g) (f.more.marked k q);
    begun = λ k r. f.more.keeps k (h.begun.begun k r);
    walked = λ k g. ⊎_elim (h.begun.walked k) (new k) (f.only k g);
  };
  left = λ j k lt e. ⊎_elim (old j k e) (here k) (at_step j k lt e);
}
  where
    R : List Route
    R = routes_of l.packages

    new : (k : ℕ) → (p : NodeAt) × StandsAt R k p × LeadsTo w (edges_in (slice_get R place)) p → IsWalkedAt l w xs k
    new k z =
        let from = from_in (slice_get R place) w z.0 z.2 in
        let source = h.begun.walked place (h.begun.marked place (contains_at a.queue.items step place at)) in
        let same : source.1.0 ≡ from.0 = same_Some source.1.0 from.0 (sym source.1.1 ∙ from.1) in
        (z.0, z.1, walked_on l w xs from.0 place z.0 from.1 (subst (Walk l w xs) (sym source.1.2 ∙ ap (λ (r : Route). r.0) same) source.2) from.2)

    at_step : (j k : ℕ) → j < step + 1 → slice_get b.queue.items j ≡ Some k → (j < step × (slice_get a.queue.items j ≡ Some k)) ⊎ (k ≡ place)
    at_step j k lt e = ⊎_elim (λ below. inl (below, earlier j k below e)) (λ q. inr (same_Some k place (sym e ∙ (ap (slice_get b.queue.items) q ∙ f.more.front step place at)))) (below_or_at j step lt)
      where
        earlier : (j k : ℕ) → j < step → slice_get b.queue.items j ≡ Some k → slice_get a.queue.items j ≡ Some k
        earlier j k below e =
            let long = slice_get_within a.queue.items step place at in
            let x = get_or a.queue.items j 0 in
            let there : slice_get a.queue.items j ≡ Some x = slice_get_read a.queue.items (length a.queue.items) j x refl (omega (arith, below, long)) (read a.queue.items j (omega (arith, below, long))) in
            there ∙ ap Some (same_Some x k (sym (f.more.front j x there) ∙ e))
          where
            read : (ns : List ℕ) (j : ℕ) → j < length ns → get_or ns j 0 ≡ get_or ns j (get_or ns j 0)
            read [] j lt = absurd (omega (arith, lt))
            read (n ∷ ns) zero lt = refl
            read (n ∷ ns) (suc j) lt = read ns j (omega (arith, lt))

    old : (j k : ℕ) → slice_get b.queue.items j ≡ Some k → j < step × (slice_get a.queue.items j ≡ Some k) → IsLeft l w b.flags.items k
    old j k e z = λ r p at_k lead. met_still R a b p f.more (h.left j k z.0 z.1 r p at_k lead)

    here : (k : ℕ) → k ≡ place → IsLeft l w b.flags.items k
    here k q = λ r p at_k lead. f.all p (subst (λ (o : Option Route). LeadsTo w (edges_in o) p) (sym at_k ∙ ap (slice_get R) q) lead)

-- at the end of the queue all was left
pub walk_done : (l : Lock) (w : WorldFields) (xs : List (List ℕ)) (step : ℕ) (m : Met) → IsWalkTo l w xs step m → length m.queue.items ≤ step → IsWalked l w xs m
walk_done l w xs step m h past = record {
  begun = h.begun;
  left = λ k f. let s = stands_in m.queue.items k (h.begun.listed k f) in
      h.left s.0 k (omega (arith, past, slice_get_within m.queue.items s.0 k s.1)) s.1;
}
